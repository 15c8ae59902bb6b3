-- The rows, or the line of the file's fault, are the only meaning.
use Rattle.std.proofs.Common.{codes, refl}
use Rattle.alf_check.specs.CheckedPrograms.{seen}
use Rattle.command_files.proofs.JudgedTables.{rows_only, inputs_refused_only, not_memory}
use Rattle.command_files.proofs.tables.inputs_meant.Goals as goal

pub returns-in-Ok-clause-means : goal.returns-in-Ok-clause-means
returns-in-Ok-clause-means c =
    let program = seen c.args.checked.now in
    rows_only c.args.bytes.now program (c.a_file_has_one_answer.ensures.inputs _ _) c.in-Ok.rows.items c.in-Ok.ensures.means

pub returns-in-Ok-table_line-clause-means : goal.returns-in-Ok-table_line-clause-means
returns-in-Ok-table_line-clause-means c =
    let program = seen c.args.checked.now in
    let refuses = c.in-Err.ensures.refused (not_memory (codes "inputs") c.in-Err.fault c.in-Ok-table_line.line.items c.in-Ok-table_line.ensures) in (
      refl,
      inputs_refused_only c.args.bytes.now program (c.a_file_has_one_answer.ensures.inputs _ _) c.in-Err.fault c.in-Ok-table_line.line.items
          refuses c.in-Ok-table_line.ensures,
    )
