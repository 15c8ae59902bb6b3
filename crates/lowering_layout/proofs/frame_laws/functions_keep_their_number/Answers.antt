use Rattle.lowering_layout.proofs.Objects.{numbered_at}
use Rattle.lowering_layout.proofs.frame_laws.functions_keep_their_number.Goals as goal

pub returns : goal.returns
returns c = λ unit f function at. numbered_at unit f function at
