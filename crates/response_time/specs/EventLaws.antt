-- Laws of schedules by their events alone.
--   JobsMayBeReleased, NoOtherIsReleased   a job may be released just where none of its task was in the last period
--   TheHighestMayRun, NoOtherRuns          a task may run just where it has work left and none of higher priority has
--   ItMayIdle, ItIdlesWithoutWork          the processor may be idle just where no work is left
--   AllowedEventsAreSchedules              events are a schedule just where each is allowed by those before it
--   WorkIsDoneInTime                       in each schedule a job's work is done in its task's response time
use Rattle.std.specs.Prelude.{◌≡◌, ◌≤◌, ◌+◌, ◌↔◌, ℕ, List, Some, take, drop, slice_get}
use Rattle.cost_table.specs.declared.task_set.Task.{Task}
use Rattle.cost_table.specs.Tasks.{AreTasks, IsTask}
use Rattle.response_time.specs.Responses.{IsResponse}
use Rattle.response_time.specs.Schedules.{State, Event, Release, Run, Idle, Schedule}
use Rattle.response_time.specs.Events.{units, released, done, IsReleaseAt, MayBeReleased, MayRun, MayIdle, IsAllowed, GoesOn}

-- after each schedule a job may be released where none of its task was in the last period
abbrev pub JobsMayBeReleased : Type 0
JobsMayBeReleased = (tasks : List Task) (events : List Event) (state : State) (i work : ℕ) → Schedule tasks events state
    → MayBeReleased tasks events i work
    → GoesOn tasks events (Release i work)

-- and nowhere else
abbrev pub NoOtherIsReleased : Type 0
NoOtherIsReleased = (tasks : List Task) (events : List Event) (i work : ℕ) → GoesOn tasks events (Release i work)
    → MayBeReleased tasks events i work

-- after each schedule a task may run that has work left, where no task of higher priority has
abbrev pub TheHighestMayRun : Type 0
TheHighestMayRun = (tasks : List Task) (events : List Event) (state : State) (i : ℕ) → Schedule tasks events state
    → MayRun tasks events i
    → GoesOn tasks events (Run i)

-- and no other
abbrev pub NoOtherRuns : Type 0
NoOtherRuns = (tasks : List Task) (events : List Event) (i : ℕ) → GoesOn tasks events (Run i) → MayRun tasks events i

-- after each schedule the processor may be idle where no work is left
abbrev pub ItMayIdle : Type 0
ItMayIdle = (tasks : List Task) (events : List Event) (state : State) → Schedule tasks events state → MayIdle events
    → GoesOn tasks events Idle

-- and nowhere else
abbrev pub ItIdlesWithoutWork : Type 0
ItIdlesWithoutWork = (tasks : List Task) (events : List Event) → GoesOn tasks events Idle → MayIdle events

-- a list of events is a schedule exactly where each is allowed by those before it
abbrev pub AllowedEventsAreSchedules : Type 0
AllowedEventsAreSchedules = (tasks : List Task) (events : List Event)
    → ((state : State) × Schedule tasks events state)
    ↔ ((n : ℕ) (event : Event) → slice_get events n ≡ Some event → IsAllowed tasks (take n events) event)

-- as long after a job's release as its task's response time, all work of the task that was released up to it is done
abbrev pub WorkIsDoneInTime : Type 0
WorkIsDoneInTime = (tasks : List Task) (events : List Event) (state : State) (n i work : ℕ) (task : Task) (time : ℕ)
    → AreTasks tasks
    → Schedule tasks events state
    → IsTask tasks i task
    → IsResponse tasks task time
    → IsReleaseAt events n i work
    → time ≤ units (drop n events)
    → released i (take (n + 1) events) ≤ done i events
