-- What is left to show of `blocks_cost_what_the_table_says`.
use Rattle.std.proofs.Common.{refl}
use Rattle.cost_table.proofs.worked.blocks_cost_what_the_table_says.Goals as goal

pub returns-clause-one : goal.returns-clause-one
returns-clause-one c = refl

pub returns-clause-told : goal.returns-clause-told
returns-clause-told c = refl

pub returns-clause-others : goal.returns-clause-others
returns-clause-others c = refl
