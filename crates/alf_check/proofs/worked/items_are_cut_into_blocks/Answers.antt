-- What is left to show of `items_are_cut_into_blocks`.
use Rattle.std.proofs.Common.{refl}
use Rattle.alf_check.proofs.worked.items_are_cut_into_blocks.Goals as goal

pub returns : goal.returns
returns c = refl
