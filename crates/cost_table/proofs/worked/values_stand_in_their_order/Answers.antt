-- What is left to show of `values_stand_in_their_order`.
use Rattle.std.proofs.Common.{refl}
use Rattle.cost_table.proofs.worked.values_stand_in_their_order.Goals as goal

pub returns-clause-order : goal.returns-clause-order
returns-clause-order c = refl

pub returns-clause-told : goal.returns-clause-told
returns-clause-told c = refl

pub returns-clause-text : goal.returns-clause-text
returns-clause-text c = refl

pub returns-clause-more : goal.returns-clause-more
returns-clause-more c = refl

pub returns-clause-absent : goal.returns-clause-absent
returns-clause-absent c = refl
