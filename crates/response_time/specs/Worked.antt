-- Task sets and lists of events that are worked out.
--   numbered cost period deadline priority     a task with these numbers
--   due_at deadline        the tasks of examples/tasks.toml, the last with this deadline
--   three                  as they are there
--   nine                   each is released once, with less than its cost, the lowest first; nine units in all
--   two                    two tasks of cost 1, one each 2 units and one each 3
--   later_first            two jobs of task 0 are pending, the later before the earlier
--   near_full, least       six tasks that leave 9 in 10 ^ 14 of the processor, and one more of cost 1
use Rattle.std.specs.Prelude.{ℕ, List, [], ◌∷◌, None, Some}
use Rattle.cost_table.specs.declared.task_set.Task.{Task}
use Rattle.response_time.specs.Schedules.{State, Event, Release, Run}

-- a task with these numbers
abbrev pub numbered : ℕ → ℕ → ℕ → ℕ → Task
numbered cost period deadline priority = record {
  name = [];
  cost = cost;
  period = period;
  deadline = deadline;
  priority = priority;
}

-- the tasks of examples/tasks.toml, the last with this deadline
abbrev pub due_at : ℕ → List Task
due_at deadline = numbered 133 400 400 1 ∷ numbered 531 2000 1500 2 ∷ numbered 307 3000 deadline 3 ∷ []

-- as they are there
abbrev pub three : List Task
three = due_at 3000

-- the lowest priority begins, the next interrupts it, and the highest interrupts that
abbrev pub nine : List Event
nine =
    Release 2 4 ∷ Run 2 ∷ Release 1 3 ∷ Run 1 ∷ Release 0 3
    ∷ Run 0 ∷ Run 0 ∷ Run 0 ∷ Run 1 ∷ Run 1 ∷ Run 2 ∷ Run 2 ∷ []

-- two tasks, one each 2 units and one each 3
abbrev pub two : List Task
two = numbered 1 2 2 0 ∷ numbered 1 3 3 1 ∷ []

-- two jobs of one task, the later before the earlier
abbrev pub later_first : State
later_first = record {
  time = 2;
  pending = record { task = 0; release = 2; left = 1 } ∷ record { task = 0; release = 0; left = 1 } ∷ [];
  last = Some 2 ∷ None ∷ [];
}

-- one unit of work each 4294967295 units, below all others
abbrev pub least : Task
least = numbered 1 4294967295 4294967295 7

-- it is told first; the others leave 9 in 10 ^ 14 of the processor
abbrev pub near_full : List Task
near_full =
    least ∷ numbered 25 101 101 1 ∷ numbered 15 116 116 2 ∷ numbered 24 161 161 3 ∷ numbered 10 177 177 4
    ∷ numbered 9 181 181 5 ∷ numbered 71 193 193 6 ∷ []
