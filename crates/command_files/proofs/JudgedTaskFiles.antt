-- What a tasks file means is its only meaning.
--   tasks_only, tasks_refused_only   the tasks, and the line of the file's fault
use Rattle.std.proofs.Common.{◌≡◌, ℕ, List, Result, Ok, Err, Some, codes, refl}
use Rattle.cost_table.specs.declared.fault.TableFault.{TableFault}
use Rattle.cost_table.specs.declared.task_set.Task.{Task as TimedTask}
use Rattle.cost_table.specs.TaskFiles.{MeansTasks, RefusesTasks}
use Rattle.cost_table.specs.Laws.{IsOne, AnswersTasks}
use Rattle.command_plans.specs.Outcome.{Outcome, AreAlikeResults, refused}
use Rattle.command_plans.specs.Work.{IsOnly, alike}
use Rattle.answer_texts.specs.TableLines.{table_line}
use Rattle.command_files.specs.TaskFiles.{TasksMean}
use Rattle.command_files.proofs.JudgedTables.{lines_one}

module _ (bytes : List ℕ) (one : IsOne (AnswersTasks bytes)) where
  tasks_one : (a b : List TimedTask) → MeansTasks bytes a → MeansTasks bytes b → a ≡ b
  tasks_one a b h k = let same : ◌≡◌ {A = Result (List TimedTask) TableFault} (Ok a) (Ok b) = one (Ok a) (Ok b) h k in cc

  refusals_one : (f g : TableFault) → RefusesTasks bytes f → RefusesTasks bytes g → f ≡ g
  refusals_one f g h k = let same : ◌≡◌ {A = Result (List TimedTask) TableFault} (Err f) (Err g) = one (Err f) (Err g) h k in cc

  tasks_not : (a : List TimedTask) (f : TableFault) → MeansTasks bytes a → RefusesTasks bytes f → ⊥
  tasks_not a f h k = let same : ◌≡◌ {A = Result (List TimedTask) TableFault} (Ok a) (Err f) = one (Ok a) (Err f) h k in cc

  pub tasks_only : (tasks : List TimedTask) → MeansTasks bytes tasks → IsOnly (TasksMean bytes) (Ok tasks)
  tasks_only tasks h = record { means = h; only = only }
    where
      only : (y : Result (List TimedTask) Outcome) → TasksMean bytes y → AreAlikeResults (Ok tasks) y
      only (Ok other) k = tasks_one tasks other h k
      only (Err o) k = tasks_not tasks k.fault h k.refuses

  pub tasks_refused_only : (fault : TableFault) (text : List ℕ) → RefusesTasks bytes fault
      → table_line (codes "tasks") fault ≡ Some text
      → IsOnly (TasksMean bytes) (Err (refused text))
  tasks_refused_only fault text h line = record { means = record { fault = fault; refuses = h; line = line; cause = refl }; only = only }
    where
      only : (y : Result (List TimedTask) Outcome) → TasksMean bytes y → AreAlikeResults (Err (refused text)) y
      only (Ok tasks) k = tasks_not tasks fault k h
      only (Err o) k = alike (refused text) o (lines_one (codes "tasks") fault k.fault text o (refusals_one fault k.fault h k.refuses) line k.line k.cause)
