-- What is left to show of `lines_stand_by_kind_and_then_by_numbers`.
use Rattle.std.proofs.Common.{refl}
use Rattle.flow_facts.proofs.worked.lines_stand_by_kind_and_then_by_numbers.Goals as goal

pub returns-clause-loops : goal.returns-clause-loops
returns-clause-loops c = refl

pub returns-clause-counts : goal.returns-clause-counts
returns-clause-counts c = refl

pub returns-clause-dead : goal.returns-clause-dead
returns-clause-dead c = refl

pub returns-clause-totals : goal.returns-clause-totals
returns-clause-totals c = refl

pub returns-clause-pairs : goal.returns-clause-pairs
returns-clause-pairs c = refl

pub returns-clause-scopes : goal.returns-clause-scopes
returns-clause-scopes c = refl

pub returns-clause-nodes : goal.returns-clause-nodes
returns-clause-nodes c = refl

pub returns-clause-second : goal.returns-clause-second
returns-clause-second c = refl

pub returns-clause-third : goal.returns-clause-third
returns-clause-third c = refl

pub returns-clause-last : goal.returns-clause-last
returns-clause-last c = refl

pub returns-clause-faults : goal.returns-clause-faults
returns-clause-faults c = refl
