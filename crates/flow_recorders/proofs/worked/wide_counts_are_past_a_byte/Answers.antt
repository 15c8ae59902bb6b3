-- What is left to show of `wide_counts_are_past_a_byte`.
use Rattle.std.proofs.Common.{refl, arith}
use Rattle.flow_recorders.proofs.WorkedRows.{none_wide}
use Rattle.flow_recorders.proofs.worked.wide_counts_are_past_a_byte.Goals as goal

pub returns-clause-first : goal.returns-clause-first
returns-clause-first c = (0, omega arith, (refl, omega arith))

pub returns-clause-last : goal.returns-clause-last
returns-clause-last c = (2, omega arith, (refl, omega arith))

pub returns-clause-byte : goal.returns-clause-byte
returns-clause-byte c = none_wide (255, 255) (0, 0) (3, 3) (omega arith) (omega arith)

pub returns-clause-greatest : goal.returns-clause-greatest
returns-clause-greatest c = none_wide (3, 300) (0, 0) (3, 3) (omega arith) (omega arith)

pub returns-clause-other : goal.returns-clause-other
returns-clause-other c = none_wide (0, 0) (300, 300) (0, 0) (omega arith) (omega arith)
