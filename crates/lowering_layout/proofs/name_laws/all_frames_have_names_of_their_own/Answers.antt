-- What is left to show of `all_frames_have_names_of_their_own`.
use Rattle.lowering_layout.proofs.ViewLemmas.{all_frames_apart}
use Rattle.lowering_layout.proofs.name_laws.all_frames_have_names_of_their_own.Goals as goal

pub returns : goal.returns
returns c = all_frames_apart
