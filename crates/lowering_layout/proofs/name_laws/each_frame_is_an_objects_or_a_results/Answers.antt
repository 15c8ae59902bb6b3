-- What is left to show of `each_frame_is_an_objects_or_a_results`.
use Rattle.lowering_layout.specs.ViewLaws.{view_of}
use Rattle.lowering_layout.proofs.name_laws.each_frame_is_an_objects_or_a_results.Goals as goal

pub returns : goal.returns
returns c = view_of
