-- What is left to show of `rows_weigh_what_is_used`.
use Rattle.ipet_rows.specs.UseLaws.{row_value}
use Rattle.ipet_rows.specs.ColumnLaws.{columns_apart}
use Rattle.ipet_rows.proofs.path_laws.rows_weigh_what_is_used.Goals as goal

pub returns-clause-value : goal.returns-clause-value
returns-clause-value c = row_value

pub returns-clause-apart : goal.returns-clause-apart
returns-clause-apart c = columns_apart
