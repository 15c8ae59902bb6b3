-- `tasks FILE`: the response times of the tasks of a file.
--   ResponsesMean tasks meaning      the response times of a task set, or that a task is late, with the first
--   answering file                   the order of work
--   TellsResponses file files text   the promise: the text tells times in which each job finishes, in each schedule of the tasks of the file
--   tasks file                       the task
use Rattle.std.specs.Prelude.{◌≡◌, ℕ, List, Result, Ok, Err, Some, ◌∷◌, []}
use Rattle.flow_base.specs.Outside.{Files}
use Rattle.cost_table.specs.declared.task_set.Task.{Task as TimedTask}
use Rattle.cost_table.specs.Tasks.{AreTasks}
use Rattle.cost_table.specs.TaskFiles.{MeansTasks}
use Rattle.response_time.specs.Responses.{AreResponses, IsFirstLate}
use Rattle.response_time.specs.ScheduleLaws.{FinishWithin}
use Rattle.command_plans.specs.Outcome.{Outcome, No}
use Rattle.command_plans.specs.Work.{Work, judged, done, ◌>>=◌}
use Rattle.answer_texts.specs.ResponseText.{late_line, response_text}
use Rattle.command_files.specs.TaskFiles.{tasks_told}
use Rattle.sweet_cli.specs.Task.{Task}

-- ---- response times

-- a task is late, and the outcome tells the first
pub record IsLateOutcome (tasks : List TimedTask) (outcome : Outcome) : Type 0 where
  pub i : ℕ
  pub first : IsFirstLate tasks i
  pub told : outcome ≡ record { cause = No; text = late_line first.task }

-- the response times of a task set, or that a task is late
abbrev pub ResponsesMean : List TimedTask → Result (List ℕ) Outcome → Type 0
ResponsesMean tasks (Ok times) = AreResponses tasks times
ResponsesMean tasks (Err outcome) = IsLateOutcome tasks outcome

-- ---- the command

unfoldable pub answering : List ℕ → Work (List ℕ)
answering file = do
  tasks ← tasks_told file
  times ← judged (ResponsesMean tasks)
  done (response_text tasks times)

-- the text tells the response times of the tasks that the file means; and after each list of allowed events no job of a
-- task is pending that was released so long ago
pub record TellsResponses (file : List ℕ) (files : Files) (text : List ℕ) : Type 0 where
  pub bytes : List ℕ
  pub tasks : List TimedTask
  pub times : List ℕ
  pub told : files file ≡ Some bytes
  pub means : MeansTasks bytes tasks
  pub are : AreTasks tasks
  pub shown : text ≡ response_text tasks times
  pub responses : AreResponses tasks times
  pub finished : FinishWithin tasks times

abbrev pub tasks : List ℕ → Task
tasks file = record { work = answering file; names = file ∷ []; Promise = TellsResponses file }
