-- Shares of the processor: for the private code.
--   share_of priority other     the share of the other task, if its priority is higher: there are 2 ^ 96 in all
--   IsCrowdedOut tasks task     what those of higher priority leave up to the deadline is less than the task's cost
use Rattle.std.specs.Prelude.{◌*◌, ◌/◌, ◌-◌, ◌<◌, ℕ, List, cond, nat_lt}
use Rattle.std.specs.List.{sum_by}
use Rattle.cost_table.specs.declared.task_set.Task.{Task}

-- the share of the other task, in units of which the processor has 2 ^ 96, where its priority is higher
abbrev pub share_of : ℕ → Task → ℕ
share_of priority other =
    cond (nat_lt other.priority priority) (other.cost * 79228162514264337593543950336 / other.period) 0

-- what those of higher priority leave, in the time of the deadline, is less than the task's cost
abbrev pub IsCrowdedOut : List Task → Task → Type 0
IsCrowdedOut tasks task =
    task.deadline * (79228162514264337593543950336 - sum_by (share_of task.priority) tasks)
    < task.cost * 79228162514264337593543950336
