-- Response times, by the equation of Joseph and Pandya.
--   interference priority window other    the most work that the other task brings in a window of this length, where its priority is higher
--   demand tasks task window          what the task and those of higher priority bring, the task with one job
--   IsSolution tasks task time        the time solves the task's equation
--   IsLeastSolution tasks task time   and no smaller one does
--   IsResponse tasks task time        and it is no later than the deadline
--   IsLate tasks task                 no solution is that small
--   AreResponses tasks times          the times are those of the tasks, in order
--   IsFirstLate tasks i               task i is the first that is late
--   IsFaultOf tasks fault             what is told where there are no response times
use Rattle.std.specs.Prelude.{◌≡◌, ◌<◌, ◌≤◌, ◌+◌, ◌*◌, ℕ, List, cond, length, nat_lt, slice_index, ⊤}
use Rattle.std.specs.Int.{div_ceil}
use Rattle.std.specs.List.{sum_by}
use Rattle.cost_table.specs.declared.task_set.Task.{Task}
use Rattle.response_time.specs.declared.fault.RespondFault.{RespondFault}
use Rattle.response_time.specs.declared.fault.RespondFault.TheVariants.{Late, Memory}
use Rattle.cost_table.specs.Tasks.{IsTask}

-- the most work that the other task brings in a window of this length, where its priority is higher
abbrev pub interference : ℕ → ℕ → Task → ℕ
interference priority window other = cond (nat_lt other.priority priority) (other.cost * div_ceil window other.period) 0

-- what the task and those of higher priority bring, the task with one job
abbrev pub demand : List Task → Task → ℕ → ℕ
demand tasks task window = task.cost + sum_by (interference task.priority window) tasks

-- the time solves the task's equation
pub record IsSolution (tasks : List Task) (task : Task) (time : ℕ) : Type 0 where
  pub some : 1 ≤ time
  pub equal : time ≡ demand tasks task time

-- and no smaller one does
pub record IsLeastSolution (tasks : List Task) (task : Task) (time : ℕ) : Type 0 where
  pub solves : IsSolution tasks task time
  pub least : (other : ℕ) → IsSolution tasks task other → time ≤ other

-- and it is no later than the deadline
pub record IsResponse (tasks : List Task) (task : Task) (time : ℕ) : Type 0 where
  pub least : IsLeastSolution tasks task time
  pub due : time ≤ task.deadline

-- no solution is that small
abbrev pub IsLate : List Task → Task → Type 0
IsLate tasks task = (time : ℕ) → IsSolution tasks task time → task.deadline < time

-- the times are those of the tasks, in order
pub record AreResponses (tasks : List Task) (times : List ℕ) : Type 0 where
  pub one_each : length times ≡ length tasks
  pub each : (i : ℕ) (task : Task) → IsTask tasks i task → IsResponse tasks task (slice_index times i)

-- task i is the first that is late
pub record IsFirstLate (tasks : List Task) (i : ℕ) : Type 0 where
  pub task : Task
  pub is : IsTask tasks i task
  pub late : IsLate tasks task
  pub earlier : (k : ℕ) (other : Task) → k < i → IsTask tasks k other → (time : ℕ) × IsResponse tasks other time

-- what is told where there are no response times; want of memory tells nothing
abbrev pub IsFaultOf : List Task → RespondFault → Type 0
IsFaultOf tasks (Late i) = IsFirstLate tasks i
IsFaultOf tasks Memory = ⊤
