-- The values, or the line of the file's fault, are the only meaning.
use Rattle.std.proofs.Common.{codes, length, refl}
use Rattle.command_files.proofs.JudgedTables.{not_memory}
use Rattle.command_files.proofs.JudgedValues.{values_only, values_refused_only}
use Rattle.command_files.proofs.values.values_meant.Goals as goal

pub returns-in-Ok-clause-means : goal.returns-in-Ok-clause-means
returns-in-Ok-clause-means c = values_only c.args.bytes.now (length c.args.rows.now) (c.a_values_file_has_one_answer.ensures _ _) c.in-Ok.values.items c.in-Ok.ensures.means

pub returns-in-Ok-table_line-clause-means : goal.returns-in-Ok-table_line-clause-means
returns-in-Ok-table_line-clause-means c =
    let refuses = c.in-Err.ensures.refused (not_memory (codes "values") c.in-Err.fault c.in-Ok-table_line.line.items c.in-Ok-table_line.ensures) in
    (refl, values_refused_only c.args.bytes.now (length c.args.rows.now) (c.a_values_file_has_one_answer.ensures _ _) c.in-Err.fault c.in-Ok-table_line.line.items refuses c.in-Ok-table_line.ensures)
