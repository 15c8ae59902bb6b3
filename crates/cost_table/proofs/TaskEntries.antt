-- Entries of tasks.
--   entry_some       an entry with its keys
--   whole_number     a number without a sign
--   in_range         the task of an entry that is in range is in range
--   made_of          the tasks of an entry that has its keys
--   TasksSoFar       the tasks of the first entries, which are right
--   tasks_more       those of one entry more
use Rattle.std.proofs.Common.{◌≡◌, ◌≤◌, ◌+◌, ◌++◌, ℕ, ℤ, pos, true, List, [], ◌∷◌, length, take, Option, Some, slice_get, refl, ap, sym, ◌∙◌, subst, arith}
use Rattle.std.specs.Prelude.{codes}
use Rattle.std.specs.Option.{option_map_or}
use Rattle.std.proofs.lemmas.Int.{ints}
use Rattle.std.proofs.lemmas.Option.{slice_get_within}
use lib.IntN.{negsuc}
use lib.Signed.{◌≤ℤ◌}
use Rattle.toml.specs.Data.{Data, Members}
use Rattle.cost_table.specs.declared.task_set.Task.{Task}
use Rattle.cost_table.specs.declared.task_entry.TaskNumbers.{TaskNumbers}
use Rattle.cost_table.specs.Documents.{only_keys, text_at, number_at}
use Rattle.cost_table.specs.Entries.{RightBelow}
use Rattle.cost_table.specs.Inputs.{whole}
use Rattle.cost_table.specs.Tasks.{IsInRange}
use Rattle.cost_table.specs.TaskFiles.{AreInRange, IsFrom, IsRightTask, entry_tasks, is_task_key, task_entry, task_judging, task_members, task_of, tasks_in}
use Rattle.cost_table.proofs.Steps.{more_made, right_more}

-- an entry with its keys
pub entry_some : (ms : Members) (name : List ℕ) (numbers : TaskNumbers) → only_keys is_task_key ms ≡ true
    → text_at (codes "name") ms ≡ Some name → number_at (codes "cost") ms ≡ Some numbers.cost
    → number_at (codes "period") ms ≡ Some numbers.period → number_at (codes "deadline") ms ≡ Some numbers.deadline
    → number_at (codes "priority") ms ≡ Some numbers.priority → task_members ms ≡ Some (name, numbers)
entry_some ms name numbers keys name_is cost_is period_is deadline_is priority_is = rw (keys, name_is, cost_is, period_is, deadline_is, priority_is) refl

-- a number that is not below a least one
from_least : (least : ℕ) (number : ℤ) → IsFrom least number → least ≤ whole number
from_least least (pos k) from = let low = from.low in omega (arith, ints)
from_least least (negsuc k) from = absurd (let low = from.low in omega (arith, ints))

-- numbers in their order
in_order : (a b : ℤ) → pos 0 ≤ℤ a → a ≤ℤ b → whole a ≤ whole b
in_order (pos j) (pos k) some le = omega (arith, ints)
in_order (pos j) (negsuc k) some le = absurd (omega (arith, ints))
in_order (negsuc j) b some le = absurd (omega (arith, ints))

-- the task of an entry that is in range is in range
pub in_range : (entry : List ℕ × TaskNumbers) → AreInRange entry.1 → IsInRange (task_of entry)
in_range entry are = record {
  cost = from_least 1 entry.1.cost are.cost;
  period = from_least 1 entry.1.period are.period;
  deadline = from_least 1 entry.1.deadline are.deadline;
  constrained = in_order entry.1.deadline entry.1.period (let low = are.deadline.low in omega (arith, ints)) are.constrained;
}

-- the tasks of an entry that has its keys
pub made_of : (datum : Data) (entry : List ℕ × TaskNumbers) → task_entry datum ≡ Some entry
    → entry_tasks datum ≡ task_of entry ∷ []
made_of datum entry is = ap (λ (told : Option (List ℕ × TaskNumbers)). option_map_or (λ (e : List ℕ × TaskNumbers). task_of e ∷ []) told []) is

-- the tasks of the first n entries, which are right
pub record TasksSoFar (entries : List Data) (n : ℕ) (tasks : List Task) : Type 0 where
  pub within : n ≤ length entries
  pub tasks_are : tasks ≡ tasks_in (take n entries)
  pub below : RightBelow task_judging entries n

-- those of one entry more
pub tasks_more : (entries : List Data) (n : ℕ) (tasks more : List Task) (datum : Data) → TasksSoFar entries n tasks
    → slice_get entries n ≡ Some datum → IsRightTask tasks datum → more ≡ tasks ++ entry_tasks datum
    → TasksSoFar entries (n + 1) more
tasks_more entries n tasks more datum so_far at right more_is = record {
  within = let low = slice_get_within entries n datum at in omega arith;
  tasks_are = more_is ∙ ap (λ first. first ++ entry_tasks datum) so_far.tasks_are ∙ sym (more_made entry_tasks entries n datum at);
  below = right_more task_judging entries n datum so_far.below at (subst (λ earlier. IsRightTask earlier datum) so_far.tasks_are right);
}

-- before the first entry
pub none_yet : (entries : List Data) → TasksSoFar entries 0 []
none_yet entries = record {
  within = omega arith;
  tasks_are = refl;
  below = λ k datum low stands. absurd (omega arith);
}
