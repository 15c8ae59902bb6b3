-- Schedules by their events alone, without any state.
--   units events                     the time that the events take: each but a release takes a unit
--   released i events                the work of the jobs of task i that are released
--   done i events                    the units of work of task i that are done
--   IsReleaseAt events n i work      event n releases a job of task i with this much work
--   MayBeReleased tasks events i work    a job of task i with this much work may be released after the events
--   MayRun tasks events i            task i may run after the events
--   MayIdle events                   the processor may be idle after the events
--   IsAllowed tasks events event     the event may come after these
--   GoesOn tasks events event        the events and then this one are a schedule
use Rattle.std.specs.Prelude.{◌≡◌, ◌<◌, ◌≤◌, ℕ, List, [], ◌∷◌, ◌++◌, Some, cond, nat_eq, drop, slice_get}
use Rattle.std.specs.List.{sum_by}
use Rattle.cost_table.specs.declared.task_set.Task.{Task}
use Rattle.cost_table.specs.Tasks.{IsTask}
use Rattle.response_time.specs.Schedules.{State, Event, Release, Run, Idle, Schedule}

-- the time that one event takes
abbrev pub duration : Event → ℕ
duration (Release i work) = 0
duration (Run i) = 1
duration Idle = 1

-- the time that the events take
abbrev pub units : List Event → ℕ
units events = sum_by duration events

-- the work of task i that one event releases
abbrev pub released_by : ℕ → Event → ℕ
released_by i (Release k work) = cond (nat_eq k i) work 0
released_by i (Run k) = 0
released_by i Idle = 0

-- the work of the jobs of task i that are released
abbrev pub released : ℕ → List Event → ℕ
released i events = sum_by (released_by i) events

-- the units of work of task i that one event does
abbrev pub done_by : ℕ → Event → ℕ
done_by i (Release k work) = 0
done_by i (Run k) = cond (nat_eq k i) 1 0
done_by i Idle = 0

-- the units of work of task i that are done
abbrev pub done : ℕ → List Event → ℕ
done i events = sum_by (done_by i) events

-- event n releases a job of task i with this much work
abbrev pub IsReleaseAt : List Event → ℕ → ℕ → ℕ → Type 0
IsReleaseAt events n i work = slice_get events n ≡ Some (Release i work)

-- a job of task i with this much work may be released: none was in the last period
pub record MayBeReleased (tasks : List Task) (events : List Event) (i work : ℕ) : Type 0 where
  pub task : Task
  pub is : IsTask tasks i task
  pub some : 1 ≤ work
  pub within : work ≤ task.cost
  pub rested : (n earlier : ℕ) → IsReleaseAt events n i earlier → task.period ≤ units (drop n events)

-- task i may run: it has work that is not done, and no task of higher priority has
pub record MayRun (tasks : List Task) (events : List Event) (i : ℕ) : Type 0 where
  pub task : Task
  pub is : IsTask tasks i task
  pub work : done i events < released i events
  pub highest : (k : ℕ) (other : Task) → IsTask tasks k other → other.priority < task.priority
      → released k events ≤ done k events

-- the processor may be idle: no task has work that is not done
abbrev pub MayIdle : List Event → Type 0
MayIdle events = (i : ℕ) → released i events ≤ done i events

-- the event may come after these
abbrev pub IsAllowed : List Task → List Event → Event → Type 0
IsAllowed tasks events (Release i work) = MayBeReleased tasks events i work
IsAllowed tasks events (Run i) = MayRun tasks events i
IsAllowed tasks events Idle = MayIdle events

-- the events and then this one are a schedule
abbrev pub GoesOn : List Task → List Event → Event → Type 0
GoesOn tasks events event = (next : State) × Schedule tasks (events ++ event ∷ []) next
