-- What a task set is answered is the only answer; and the promise of response times.
use Rattle.std.proofs.Common.{◌≡◌, ℕ, List, Result, Ok, Err, Option, slice_get, ap, sym, ◌∙◌, [], ◌∷◌}
use Rattle.std.proofs.lemmas.Option.{same_Some}
use Rattle.flow_base.specs.Outside.{Files}
use Rattle.cost_table.specs.declared.task_set.Task.{Task as TimedTask}
use Rattle.cost_table.specs.Tasks.{IsTask}
use Rattle.cost_table.specs.Laws.{TasksAreTaskSets}
use Rattle.response_time.specs.Responses.{AreResponses, IsFirstLate}
use Rattle.response_time.specs.ResponseLaws.{TimesAreOne, LateIsOne, NeverBoth}
use Rattle.response_time.specs.ScheduleLaws.{AllFinishInTime}
use Rattle.command_plans.specs.Outcome.{Outcome, No, AreAlikeResults}
use Rattle.command_plans.specs.Log.{Log}
use Rattle.command_plans.specs.Work.{IsOnly, alike}
use Rattle.command_plans.specs.Readings.{IsMadeOf, one_made}
use Rattle.answer_texts.specs.ResponseText.{late_line}
use Rattle.command_files.specs.TaskFiles.{tasks_told}
use Rattle.sweet_cli.specs.Tasks.{ResponsesMean, answering, TellsResponses}

-- ---- a task set

-- the outcome that tells a task that is late
abbrev late_outcome : TimedTask → Outcome
late_outcome task = record { cause = No; text = late_line task }

module _ (tasks : List TimedTask) (times_one : TimesAreOne) (late_one : LateIsOne) (never_both : NeverBoth) where
  pub times_only : (times : List ℕ) → AreResponses tasks times → IsOnly (ResponsesMean tasks) (Ok times)
  times_only times h = record { means = h; only = only }
    where
      only : (y : Result (List ℕ) Outcome) → ResponsesMean tasks y → AreAlikeResults (Ok times) y
      only (Ok other) k = times_one tasks times other h k
      only (Err o) k = never_both tasks times k.i h k.first

  -- the first that is late is one task
  one_task : (i : ℕ) (task : TimedTask) → IsTask tasks i task → IsFirstLate tasks i → (k : IsFirstLate tasks i)
      → task ≡ k.task
  one_task i task is h k = same_Some task k.task (sym is ∙ k.is)

  pub late_only : (i : ℕ) (task : TimedTask) → IsTask tasks i task → IsFirstLate tasks i
      → IsOnly (ResponsesMean tasks) (Err (late_outcome task))
  late_only i task is h = record {
    means = record { i = i; first = h; told = ap late_outcome (same_Some task h.task (sym is ∙ h.is)) };
    only = only;
  }
    where
      only : (y : Result (List ℕ) Outcome) → ResponsesMean tasks y → AreAlikeResults (Err (late_outcome task)) y
      only (Ok times) k = never_both tasks times i k h
      only (Err o) k =
          let same : i ≡ k.i = late_one tasks i k.i h k.first in
          let whose : task ≡ k.first.task = same_Some task k.first.task (sym is ∙ ap (slice_get tasks) same ∙ k.first.is) in
          alike (late_outcome task) o (ap late_outcome whose ∙ sym k.told)

-- ---- the promise

-- a text that the work gives tells the response times of the told tasks, and each job finishes in them
pub tells_responses : TasksAreTaskSets → AllFinishInTime
    → (file : List ℕ) (told : Option Files) (before : Log) (text : List ℕ) (after : Log)
    → (answering file).steps.Gives told before text after → IsMadeOf told before after (file ∷ []) (λ files. TellsResponses file files text)
unfolding answering tasks_told
tells_responses sets finish file told before text after (tasks, mid, (bytes, log, read, (meant, same)), (times, end, (answered, still), (shown, over))) =
    let are = sets bytes tasks meant.means in
    one_made told before after file bytes (λ files. TellsResponses file files text) (over ∙ still ∙ same ∙ read.0) read.2
    (λ files is. record {
      bytes = bytes;
      tasks = tasks;
      times = times;
      told = is;
      means = meant.means;
      are = are;
      shown = shown;
      responses = answered.means;
      finished = finish tasks times are answered.means;
    })
