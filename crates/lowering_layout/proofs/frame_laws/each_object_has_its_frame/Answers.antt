use Rattle.lowering_layout.proofs.Globals.{global_object}
use Rattle.lowering_layout.proofs.Objects.{frames_stand}
use Rattle.lowering_layout.proofs.frame_laws.each_object_has_its_frame.Goals as goal

pub returns : goal.returns
returns c = record {
  places = λ unit names. frames_stand unit names;
  globals = λ unit n row names at global. global_object unit names n row at global;
}
