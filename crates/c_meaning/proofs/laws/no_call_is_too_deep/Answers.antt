-- What is left to show of `no_call_is_too_deep`.
use Rattle.c_meaning.proofs.DepthLaws.{ending_kept_within}
use Rattle.c_meaning.proofs.laws.no_call_is_too_deep.Goals as goal

pub returns : goal.returns
returns c unit name ranks program = ending_kept_within unit ranks program.ranked
