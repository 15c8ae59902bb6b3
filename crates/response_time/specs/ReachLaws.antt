-- Laws that response times are exact: some schedule takes as long.
--   all_released k tasks           a job of each task from task k on is released, with its whole cost
--   StaysFor tasks i units         in a schedule that begins so, the job of task i is pending after so many units
--   TimesAreReached                so it is for each time that is shorter than the task's response time
--   LateTasksMissTheirDeadlines    and for the deadline of a task that is late
--   NoSmallerTimesHold             times in which each job finishes are no smaller than the response times
use Rattle.std.specs.Prelude.{◌≡◌, ◌<◌, ◌≤◌, ℕ, suc, List, [], ◌∷◌, ◌++◌, Contains, slice_index}
use Rattle.cost_table.specs.declared.task_set.Task.{Task}
use Rattle.cost_table.specs.Tasks.{AreTasks, IsTask}
use Rattle.response_time.specs.Responses.{IsResponse, IsLate}
use Rattle.response_time.specs.Schedules.{Job, State, Event, Release, Schedule}
use Rattle.response_time.specs.ScheduleLaws.{FinishWithin}

-- a job of each task is released, from task k on, with the task's whole cost
abbrev pub all_released : ℕ → List Task → List Event
all_released k [] = []
all_released k (task ∷ tasks) = Release k task.cost ∷ all_released (suc k) tasks

-- in a schedule that begins so, the job of task i that is released then is pending after so many units
pub record StaysFor (tasks : List Task) (i units : ℕ) : Type 0 where
  pub later : List Event
  pub state : State
  pub schedule : Schedule tasks (all_released 0 tasks ++ later) state
  pub now : state.time ≡ units
  pub job : Job
  pub pending : Contains state.pending job
  pub of_task : job.task ≡ i
  pub released : job.release ≡ 0

-- so it is for each time that is shorter than the task's response time
abbrev pub TimesAreReached : Type 0
TimesAreReached = (tasks : List Task) (i : ℕ) (task : Task) (time units : ℕ)
    → AreTasks tasks
    → IsTask tasks i task
    → IsResponse tasks task time
    → units < time
    → StaysFor tasks i units

-- and for the deadline of a task that is late
abbrev pub LateTasksMissTheirDeadlines : Type 0
LateTasksMissTheirDeadlines = (tasks : List Task) (i : ℕ) (task : Task)
    → AreTasks tasks
    → IsTask tasks i task
    → IsLate tasks task
    → StaysFor tasks i task.deadline

-- times in which each job of each schedule finishes are no smaller than the response times
abbrev pub NoSmallerTimesHold : Type 0
NoSmallerTimesHold = (tasks : List Task) (times : List ℕ) (i : ℕ) (task : Task) (time : ℕ)
    → AreTasks tasks
    → FinishWithin tasks times
    → IsTask tasks i task
    → IsResponse tasks task time
    → time ≤ slice_index times i
