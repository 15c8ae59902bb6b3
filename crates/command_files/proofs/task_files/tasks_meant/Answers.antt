-- The tasks, or the line of the file's fault, are the only meaning.
use Rattle.std.proofs.Common.{codes, refl}
use Rattle.command_files.proofs.JudgedTables.{not_memory}
use Rattle.command_files.proofs.JudgedTaskFiles.{tasks_only, tasks_refused_only}
use Rattle.command_files.proofs.task_files.tasks_meant.Goals as goal

pub returns-in-Ok-clause-means : goal.returns-in-Ok-clause-means
returns-in-Ok-clause-means c = tasks_only c.args.bytes.now (c.a_tasks_file_has_one_answer.ensures.tasks _) c.in-Ok.tasks.items c.in-Ok.ensures.means

pub returns-in-Ok-table_line-clause-means : goal.returns-in-Ok-table_line-clause-means
returns-in-Ok-table_line-clause-means c =
    let refuses = c.in-Err.ensures.refused (not_memory (codes "tasks") c.in-Err.fault c.in-Ok-table_line.line.items c.in-Ok-table_line.ensures) in
    (refl, tasks_refused_only c.args.bytes.now (c.a_tasks_file_has_one_answer.ensures.tasks _) c.in-Err.fault c.in-Ok-table_line.line.items refuses c.in-Ok-table_line.ensures)
