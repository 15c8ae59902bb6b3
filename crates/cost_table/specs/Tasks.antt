-- Task sets.
--   IsInRange task         its numbers are 1 or more, and its deadline is no longer than its period
--   AreTasks tasks         a task set: at most 64 tasks, each in range, no two with one priority
--   IsTask tasks i task    task i is this one
--   priority_of tasks i    the priority of task i, where the smaller number is the higher priority
use Rattle.std.specs.Prelude.{◌≡◌, ◌≢◌, ◌≤◌, ℕ, List, Some, length, map, slice_get, slice_index}
use Rattle.std.specs.List.{All, AllPairs}
use Rattle.cost_table.specs.declared.task_set.Task.{Task}

-- its numbers are 1 or more, and its deadline is no longer than its period
pub record IsInRange (task : Task) : Type 0 where
  pub cost : 1 ≤ task.cost
  pub period : 1 ≤ task.period
  pub deadline : 1 ≤ task.deadline
  pub constrained : task.deadline ≤ task.period

-- at most 64 tasks, each in range, no two with one priority
pub record AreTasks (tasks : List Task) : Type 0 where
  pub few : length tasks ≤ 64
  pub ranges : All IsInRange tasks
  pub apart : AllPairs (λ a b. a.priority ≢ b.priority) tasks

-- task i is this one
abbrev pub IsTask : List Task → ℕ → Task → Type 0
IsTask tasks i task = slice_get tasks i ≡ Some task

-- the priority of task i, where the smaller number is the higher priority
abbrev pub priority_of : List Task → ℕ → ℕ
priority_of tasks i = slice_index (map (λ task. task.priority) tasks) i
