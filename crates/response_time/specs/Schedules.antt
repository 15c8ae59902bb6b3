-- Schedules of a task set by fixed priorities, with preemption, on one processor.
--   Job                        one job: its task, when it was released, and the work that is left of it
--   State                      the time, the pending jobs, and of each task when it was last released, if it ever was
--   empty_state tasks          the state at time 0, before any release
--   Event                      a job of task i is released with this much work; task i runs for a unit of time; the processor is idle for one
--   IsReleased, IsRun, IsIdled     the events, with what allows each and the state that comes after
--   IsStep tasks state event next      the event is allowed in the state, and the next state comes after it
--   Schedule tasks events state        the events are allowed one after the other from the empty state, and this state comes after them
use Rattle.std.specs.Prelude.{◌≡◌, ◌≤◌, ◌+◌, ◌-◌, ℕ, List, [], ◌∷◌, ◌++◌, Option, None, Some, cond, nat_eq, length, replicate, slice_get, slice_set}
use Rattle.std.specs.List.{All}
use Rattle.cost_table.specs.declared.task_set.Task.{Task}
use Rattle.cost_table.specs.Tasks.{IsTask, priority_of}

-- one job: its task, when it was released, and the work that is left of it
pub record Job : Type 0 where
  pub task : ℕ
  pub release : ℕ
  pub left : ℕ

-- the time, the pending jobs, and of each task when it was last released, if it ever was
pub record State : Type 0 where
  pub time : ℕ
  pub pending : List Job
  pub last : List (Option ℕ)

-- the state at time 0, before any release
abbrev pub empty_state : List Task → State
empty_state tasks = record { time = 0; pending = []; last = replicate (length tasks) None }

pub data Event : Type 0 where
  -- a job of task i is released with this much work
  Release : (i work : ℕ) → Event
  -- the processor does a unit of work of task i
  Run : (i : ℕ) → Event
  -- or none for a unit of time
  Idle : Event

-- task i may be released: it never was, or its period has passed since
abbrev pub MayRelease : State → ℕ → Task → Type 0
MayRelease state i task = (before : ℕ) → slice_get state.last i ≡ Some (Some before) → before + task.period ≤ state.time

-- a job of task i is released, which takes no time
pub record IsReleased (tasks : List Task) (state : State) (i work : ℕ) (next : State) : Type 0 where
  pub task : Task
  pub is : IsTask tasks i task
  pub some : 1 ≤ work
  pub within : work ≤ task.cost
  pub apart : MayRelease state i task
  pub time : next.time ≡ state.time
  pub pending : next.pending ≡ state.pending ++ record { task = i; release = state.time; left = work } ∷ []
  pub last : next.last ≡ slice_set state.last i (Some state.time)

-- what is left of a job after a unit of work: a job without work left is pending no more
abbrev pub after_a_unit : Job → List Job
after_a_unit job = cond (nat_eq job.left 1) [] (record job { left = job.left - 1 } ∷ [])

-- A unit of work of task i's earliest job is done. No task of higher priority has a job.
pub record IsRun (tasks : List Task) (state : State) (i : ℕ) (next : State) : Type 0 where
  pub front : List Job
  pub job : Job
  pub rest : List Job
  pub is : state.pending ≡ front ++ job ∷ rest
  pub of_task : job.task ≡ i
  pub earliest : All (λ other. other.task ≡ i → job.release ≤ other.release) state.pending
  pub highest : All (λ other. priority_of tasks i ≤ priority_of tasks other.task) state.pending
  pub time : next.time ≡ state.time + 1
  pub pending : next.pending ≡ front ++ after_a_unit job ++ rest
  pub last : next.last ≡ state.last

-- nothing is pending, and time passes
pub record IsIdled (state next : State) : Type 0 where
  pub none : state.pending ≡ []
  pub time : next.time ≡ state.time + 1
  pub pending : next.pending ≡ []
  pub last : next.last ≡ state.last

-- the event is allowed in the state, and the next state comes after it
abbrev pub IsStep : List Task → State → Event → State → Type 0
IsStep tasks state (Release i work) next = IsReleased tasks state i work next
IsStep tasks state (Run i) next = IsRun tasks state i next
IsStep tasks state Idle next = IsIdled state next

-- the events are allowed one after the other from the empty state, and this state comes after them
pub data Schedule (tasks : List Task) : List Event → State → Type 0 where
  begins : Schedule tasks [] (empty_state tasks)
  goes_on : {events : List Event} {state : State} (event : Event) (next : State) → Schedule tasks events state
      → IsStep tasks state event next → Schedule tasks (events ++ event ∷ []) next
