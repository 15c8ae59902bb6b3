use Rattle.std.proofs.Common.{rules}
use Rattle.alf_ops.proofs.NamedOperators.{apart_names, told_rows}
use Rattle.alf_ops.proofs.table.rows.Goals as goal

pub returns-clause-told : goal.returns-clause-told
returns-clause-told c = search (rules, told_rows)

pub returns-clause-distinct : goal.returns-clause-distinct
returns-clause-distinct c = search (rules, apart_names)
