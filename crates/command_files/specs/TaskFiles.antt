-- The tasks file that a command reads.
--   IsTasksLine bytes outcome   the line tells what is wrong with the tasks
--   TasksMean bytes meaning     the tasks of a tasks file, or the line of its fault
--   tasks_told file             the file is read, and its tasks
use Rattle.std.specs.Prelude.{◌≡◌, ℕ, List, Result, Ok, Err, Some, codes}
use Rattle.cost_table.specs.declared.fault.TableFault.{TableFault}
use Rattle.cost_table.specs.declared.task_set.Task.{Task as TimedTask}
use Rattle.cost_table.specs.TaskFiles.{MeansTasks, RefusesTasks}
use Rattle.command_plans.specs.declared.reading.Role.TheVariants as roles
use Rattle.command_plans.specs.Outcome.{Outcome, Source}
use Rattle.command_plans.specs.Work.{Work, reads, judged, ◌>>=◌}
use Rattle.program_files.specs.Programs.{most_bytes_of_a_file, too_long}
use Rattle.answer_texts.specs.TableLines.{table_line}

-- the line tells what is wrong with the tasks
pub record IsTasksLine (bytes : List ℕ) (outcome : Outcome) : Type 0 where
  pub fault : TableFault
  pub refuses : RefusesTasks bytes fault
  pub line : table_line (codes "tasks") fault ≡ Some outcome.text
  pub cause : outcome.cause ≡ Source

-- the tasks of a tasks file, or the line of its fault
abbrev pub TasksMean : List ℕ → Result (List TimedTask) Outcome → Type 0
TasksMean bytes (Ok tasks) = MeansTasks bytes tasks
TasksMean bytes (Err outcome) = IsTasksLine bytes outcome

-- the file is read, and its tasks
unfoldable pub tasks_told : List ℕ → Work (List TimedTask)
tasks_told file = do
  bytes ← reads roles.Tasks file most_bytes_of_a_file too_long
  judged (TasksMean bytes)
