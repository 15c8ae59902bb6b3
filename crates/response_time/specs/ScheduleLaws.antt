-- Laws of schedules.
--   IsFinishedIn state i time       no job of task i is pending at this time or more after its release
--   FinishInTime                    so it is after each schedule, at the least solution of the task's equation
--   FinishWithin tasks times        so it is after each schedule of these tasks, for each of them at its time
--   AllFinishInTime                 so it is at the response times of a task set
--   TimePasses tasks state          an event is allowed in the state that takes a unit of time
--   TimeGoesOn                      so it is after each schedule
use Rattle.std.specs.Prelude.{◌≡◌, ◌<◌, ◌+◌, ℕ, List, slice_index}
use Rattle.std.specs.List.{All}
use Rattle.cost_table.specs.declared.task_set.Task.{Task}
use Rattle.cost_table.specs.Tasks.{AreTasks, IsTask}
use Rattle.response_time.specs.Responses.{IsResponse, AreResponses}
use Rattle.response_time.specs.Schedules.{State, Event, IsStep, Schedule}

-- no job of task i is pending at this time or more after its release
abbrev pub IsFinishedIn : State → ℕ → ℕ → Type 0
IsFinishedIn state i time = All (λ job. job.task ≡ i → state.time < job.release + time) state.pending

-- so it is after each schedule, at the least solution of the task's equation
abbrev pub FinishInTime : Type 0
FinishInTime = (tasks : List Task) (events : List Event) (state : State) (i : ℕ) (task : Task) (time : ℕ)
    → AreTasks tasks
    → Schedule tasks events state
    → IsTask tasks i task
    → IsResponse tasks task time
    → IsFinishedIn state i time

-- so it is after each schedule of these tasks, for each of them at its time
abbrev pub FinishWithin : List Task → List ℕ → Type 0
FinishWithin tasks times = (events : List Event) (state : State) → Schedule tasks events state → All (λ job. state.time < job.release + slice_index times job.task) state.pending

-- so it is at the response times of a task set
abbrev pub AllFinishInTime : Type 0
AllFinishInTime = (tasks : List Task) (times : List ℕ) → AreTasks tasks → AreResponses tasks times → FinishWithin tasks times

-- an event is allowed in the state that takes a unit of time
pub record TimePasses (tasks : List Task) (state : State) : Type 0 where
  pub event : Event
  pub next : State
  pub step : IsStep tasks state event next
  pub later : next.time ≡ state.time + 1

-- so it is after each schedule
abbrev pub TimeGoesOn : Type 0
TimeGoesOn = (tasks : List Task) (events : List Event) (state : State) → Schedule tasks events state → TimePasses tasks state
