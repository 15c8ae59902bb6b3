use Rattle.lowering_layout.proofs.Naming.{naming}
use Rattle.lowering_layout.proofs.frame_laws.names_stand_for_their_frames.Goals as goal

pub returns : goal.returns
returns c = λ unit f function names at. naming unit names f function at
