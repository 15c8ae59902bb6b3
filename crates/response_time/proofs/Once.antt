-- A task set has one answer.
use Rattle.std.proofs.Common.{◌≡◌, ◌<◌, ℕ, zero, suc, List, [], ◌∷◌, length, get_or, inl, inr, sym, ◌∙◌, refl, arith}
use Rattle.std.proofs.lemmas.Bool.{cases_order}
use Rattle.std.proofs.lemmas.Grind.{same_number_lists}
use Rattle.cost_table.specs.declared.task_set.Task.{Task}
use Rattle.cost_table.specs.Tasks.{IsTask}
use Rattle.response_time.specs.Responses.{IsResponse, IsLate, IsFirstLate}
use Rattle.response_time.specs.ResponseLaws.{TimesAreOne, LateIsOne, NeverBoth}

-- a number below the count is that of a task
pub task_there : (tasks : List Task) (i : ℕ) → i < length tasks → (task : Task) × IsTask tasks i task
task_there [] i low = absurd (omega arith)
task_there (task ∷ tasks) zero low = (task, refl)
task_there (task ∷ tasks) (suc i) low = task_there tasks i (omega arith)

-- a task has one response time
one_response : (tasks : List Task) (task : Task) (time other : ℕ) → IsResponse tasks task time
    → IsResponse tasks task other → time ≡ other
one_response tasks task time other p q =
    let below = p.least.least other q.least.solves in
    let above = q.least.least time p.least.solves in
    omega arith

-- and none where it is late
not_late : (tasks : List Task) (task : Task) (time : ℕ) → IsResponse tasks task time → IsLate tasks task → ⊥
not_late tasks task time p late = let past = late time p.least.solves in let due = p.due in omega arith

pub times_are_one : TimesAreOne
times_are_one tasks times others p q =
    same_number_lists times others (p.one_each ∙ sym q.one_each)
    (λ i low.
    let whose = task_there tasks i (let long = p.one_each in omega arith) in
    one_response tasks whose.0 (get_or times i 0) (get_or others i 0) (p.each i whose.0 whose.1) (q.each i whose.0 whose.1))

-- a task that is late is not earlier than the first one
not_before : (tasks : List Task) (i k : ℕ) → IsFirstLate tasks i → IsFirstLate tasks k → i < k → ⊥
not_before tasks i k p q less = let response = q.earlier i p.task less p.is in not_late tasks p.task response.0 response.1 p.late

pub late_is_one : LateIsOne
late_is_one tasks i k p q = elim (cases_order i k) [
  | inl same ↦ same
  | inr (inl less) ↦ absurd (not_before tasks i k p q less)
  | inr (inr more) ↦ absurd (not_before tasks k i q p more)
]

pub never_both : NeverBoth
never_both tasks times i p q = not_late tasks q.task (get_or times i 0) (p.each i q.task q.is) q.late
