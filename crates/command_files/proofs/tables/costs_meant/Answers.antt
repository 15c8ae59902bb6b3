-- The costs, or the line of the file's fault, are the only meaning.
use Rattle.std.proofs.Common.{codes, refl}
use Rattle.alf_check.specs.CheckedPrograms.{seen}
use Rattle.command_files.proofs.JudgedTables.{costs_only, costs_refused_only, not_memory}
use Rattle.command_files.proofs.tables.costs_meant.Goals as goal

pub returns-in-Ok : goal.returns-in-Ok
returns-in-Ok c =
    let program = seen c.args.checked.now in
    costs_only c.args.bytes.now program (c.a_file_has_one_answer.ensures.costs _ _) c.in-Ok.costs c.in-Ok.ensures.means

pub returns-in-Ok-table_line : goal.returns-in-Ok-table_line
returns-in-Ok-table_line c =
    let program = seen c.args.checked.now in
    let refuses = c.in-Err.ensures.refused (not_memory (codes "costs") c.in-Err.fault c.in-Ok-table_line.line.items c.in-Ok-table_line.ensures) in (
      refl,
      costs_refused_only c.args.bytes.now program (c.a_file_has_one_answer.ensures.costs _ _) c.in-Err.fault c.in-Ok-table_line.line.items
          refuses c.in-Ok-table_line.ensures,
    )
