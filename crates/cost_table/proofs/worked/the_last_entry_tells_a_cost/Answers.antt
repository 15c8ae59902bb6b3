-- What is left to show of `the_last_entry_tells_a_cost`.
use Rattle.std.proofs.Common.{refl}
use Rattle.cost_table.proofs.worked.the_last_entry_tells_a_cost.Goals as goal

pub returns-clause-absent : goal.returns-clause-absent
returns-clause-absent c = refl

pub returns-clause-told : goal.returns-clause-told
returns-clause-told c = refl

pub returns-clause-greatest : goal.returns-clause-greatest
returns-clause-greatest c = refl

pub returns-clause-too_great : goal.returns-clause-too_great
returns-clause-too_great c = refl

pub returns-clause-negative : goal.returns-clause-negative
returns-clause-negative c = refl

pub returns-clause-silent : goal.returns-clause-silent
returns-clause-silent c = refl

pub returns-clause-last : goal.returns-clause-last
returns-clause-last c = refl
