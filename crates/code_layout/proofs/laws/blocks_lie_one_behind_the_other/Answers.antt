-- By the laws.
use Rattle.code_layout.proofs.Behind.{at_first, behind, behind_all, going_on, ended}
use Rattle.code_layout.proofs.laws.blocks_lie_one_behind_the_other.Goals as goal

pub returns : goal.returns
returns c = record { first = at_first; next = behind; function = behind_all; goes_on = going_on; ends = ended }
