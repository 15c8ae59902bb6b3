use Rattle.pointer_rules.proofs.WorkedRows.{moved, mixed}
use Rattle.pointer_rules.proofs.worked.pointers_come_out.Goals as goal

pub returns-clause-moved : goal.returns-clause-moved
returns-clause-moved c = moved

pub returns-clause-mixed : goal.returns-clause-mixed
returns-clause-mixed c = mixed
