-- What a tasks file means is a task set.
--   means_tasks   the tasks of right entries are
use Rattle.std.proofs.Common.{◌≡◌, ◌≢◌, ◌≤◌, ◌<◌, ◌+◌, ◌++◌, ◌∷◌, ⊎_elim, ℕ, zero, suc, List, [], All, length, take, None, Some, slice_get, get_or, ap, sym, ◌∙◌, subst, arith}
use Rattle.std.specs.List.{AllPairs}
use Rattle.std.proofs.lemmas.List.{take_all, length-append}
use Rattle.std.proofs.lemmas.List.Elements.{All-nil, All-cons, All-push, All-weaker}
use Rattle.std.proofs.lemmas.Option.{slice_get_cases}
use Rattle.toml.specs.Data.{Data}
use Rattle.cost_table.specs.Entries.{AllRight}
use Rattle.cost_table.specs.declared.task_set.Task.{Task}
use Rattle.cost_table.specs.Tasks.{IsInRange}
use Rattle.cost_table.specs.TaskFiles.{IsRightTask, entry_tasks, task_judging, task_of, tasks_in}
use Rattle.cost_table.specs.Laws.{TasksAreTaskSets}
use Rattle.cost_table.proofs.Pairs.{pairs_append}
use Rattle.cost_table.proofs.Steps.{more_made}
use Rattle.cost_table.proofs.TaskEntries.{in_range, made_of}

-- two tasks have two priorities
abbrev Differ : Task → Task → Type 0
Differ a b = a.priority ≢ b.priority

-- a task set of at most n tasks, but for the limit
record AreUpTo (n : ℕ) (tasks : List Task) : Type 0 where
  few : length tasks ≤ n
  ranges : All IsInRange tasks
  apart : AllPairs Differ tasks

-- with one task more
one_more : (n : ℕ) (tasks : List Task) (task : Task) → AreUpTo n tasks → IsInRange task
    → All (λ other. other.priority ≢ task.priority) tasks → AreUpTo (n + 1) (tasks ++ task ∷ [])
one_more n tasks task are range free = record {
  few = let long = length-append tasks (task ∷ []) in let few = are.few in omega arith;
  ranges = All-push IsInRange tasks task are.ranges range;
  apart = pairs_append Differ tasks (task ∷ []) are.apart (λ i j d less low. absurd (omega arith))
      (All-weaker (λ other. other.priority ≢ task.priority) (λ other. All (Differ other) (task ∷ [])) (λ other differ. All-cons (Differ other) task [] differ (All-nil (Differ other))) tasks free);
}

module _ (entries : List Data) (right : AllRight task_judging entries) where
  -- with the task of one entry more
  more_keep : (n : ℕ) (datum : Data) → slice_get entries n ≡ Some datum → AreUpTo n (tasks_in (take n entries))
      → AreUpTo (n + 1) (tasks_in (take (n + 1) entries))
  more_keep n datum at kept =
      let is : IsRightTask (tasks_in (take n entries)) datum = right n datum at in
      let earlier = tasks_in (take n entries) in
      let more : tasks_in (take (n + 1) entries) ≡ earlier ++ task_of is.entry ∷ [] =
      more_made entry_tasks entries n datum at ∙ ap (λ (tasks : List Task). earlier ++ tasks) (made_of datum is.entry is.has_keys) in
      subst (AreUpTo (n + 1)) (sym more) (one_more n earlier (task_of is.entry) kept (in_range is.entry is.in_range.numbers) is.in_range.free)

  -- of the first entries
  first_keep : (n : ℕ) → AreUpTo n (tasks_in (take n entries))
  first_keep zero = record { few = omega arith; ranges = All-nil IsInRange; apart = λ i j d less low. absurd (omega arith) }
  first_keep (suc n) = ⊎_elim
      (λ (there : (datum : Data) × (n < length entries) × (slice_get entries n ≡ Some datum) × (get_or entries n datum ≡ datum)).
      let next : n + 1 ≡ suc n = omega arith in
      subst (λ k. AreUpTo k (tasks_in (take k entries))) next (more_keep n there.0 there.2 (first_keep n)))
      (λ (past : (length entries ≤ n) × (slice_get entries n ≡ None)).
      let so_far = first_keep n in
      subst (λ (some : List Data). AreUpTo (suc n) (tasks_in some)) (take_all n entries past.0 ∙ sym (take_all (suc n) entries (omega (arith, past.0))))
      (record { few = let few = so_far.few in omega arith; ranges = so_far.ranges; apart = so_far.apart }))
      (slice_get_cases entries n).1

pub means_tasks : TasksAreTaskSets
means_tasks bytes tasks means =
    let are = subst (AreUpTo (length means.entries)) (ap tasks_in (take_all (length means.entries) means.entries (omega arith)) ∙ sym means.all) (first_keep means.entries means.right (length means.entries)) in
    record { few = let few = are.few in let most = means.few in omega arith; ranges = are.ranges; apart = are.apart }
