-- What is left to show of `rows_and_openings_stand_in_their_order`.
use Rattle.std.proofs.Common.{refl}
use Rattle.dual_check.proofs.worked.rows_and_openings_stand_in_their_order.Goals as goal

pub returns-clause-rows : goal.returns-clause-rows
returns-clause-rows c = refl

pub returns-clause-openings : goal.returns-clause-openings
returns-clause-openings c = refl
