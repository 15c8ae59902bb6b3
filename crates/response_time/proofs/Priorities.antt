-- What counts for a priority: the tasks of this priority and those of a higher one.
use Rattle.std.proofs.Common.{◌≡◌, ◌<◌, ◌≤◌, ◌+◌, ℕ, zero, suc, cond, List, [], ◌∷◌, inl, inr, refl, ap, subst, arith}
use Rattle.std.proofs.lemmas.Bool.{cases_order, le-leb, lt-leb, lt-ltb}
use Rattle.std.proofs.lemmas.List.Elements.{All-get_or}
use Rattle.std.proofs.lemmas.List.Sums.{sum_by-cons}
use Rattle.std.proofs.lemmas.Option.{slice_get_within, get_or_from_slice_get}
use Rattle.std.specs.Bool.{nat_le, nat_lt}
use Rattle.std.specs.List.{sum_by}
use Rattle.lists.specs.TestLaws.{by_test}
use Rattle.cost_table.specs.declared.task_set.Task.{Task}
use Rattle.cost_table.specs.Tasks.{IsInRange, AreTasks, IsTask, priority_of}

-- what counts where the priority is this or a higher one
abbrev pub counted : ℕ → ℕ → ℕ → ℕ
counted p priority n = cond (nat_le priority p) n 0

pub counts : (p priority n : ℕ) → priority ≤ p → counted p priority n ≡ n
counts p priority n le = let e = le-leb priority p le in rw e

pub counts_not : (p priority n : ℕ) → p < priority → counted p priority n ≡ 0
counts_not p priority n less = let e = lt-leb priority p less in rw e

pub counted_rises : (p priority m n : ℕ) → m ≤ n → counted p priority m ≤ counted p priority n
counted_rises p priority m n le = by_test (nat_le priority p) (λ e. rw e le) (λ e. rw e (omega arith))

pub counted_both : (p priority m n k : ℕ) → m + n ≤ k
    → counted p priority m + counted p priority n ≤ counted p priority k
counted_both p priority m n k le = by_test (nat_le priority p) (λ e. rw e le) (λ e. rw e (omega arith))

-- the range of a task
pub range_of : (tasks : List Task) → AreTasks tasks → (i : ℕ) (task : Task) → IsTask tasks i task → IsInRange task
range_of tasks are i task is = subst IsInRange (get_or_from_slice_get tasks i task task is) (All-get_or IsInRange tasks i task (slice_get_within tasks i task is) are.ranges)

-- the priority of a task by its number
pub priority_is : (tasks : List Task) (i : ℕ) (task : Task) → IsTask tasks i task → priority_of tasks i ≡ task.priority
priority_is [] i task is = absurd (let low = slice_get_within [] i task is in omega arith)
priority_is (x ∷ tasks) zero task is = let same : x ≡ task = cc in ap (λ (t : Task). t.priority) same
priority_is (x ∷ tasks) (suc i) task is = priority_is tasks i task is

-- no two tasks have one priority
pub alone : (tasks : List Task) → AreTasks tasks → (i k : ℕ) (task other : Task) → IsTask tasks i task
    → IsTask tasks k other → other.priority ≡ task.priority → k ≡ i
alone tasks are i k task other is there same =
    let low = slice_get_within tasks i task is in
    let low_other = slice_get_within tasks k other there in
    let one = get_or_from_slice_get tasks i task task is in
    let two = get_or_from_slice_get tasks k other task there in
    let first = ap (λ (t : Task). t.priority) one in
    let second = ap (λ (t : Task). t.priority) two in
    elim (cases_order k i) [
      | inl e ↦ e
      | inr (inl less) ↦ absurd (are.apart k i task less low (omega arith))
      | inr (inr more) ↦ absurd (are.apart i k task more low_other (omega arith))
    ]

-- the sum over tasks of a higher priority than this
abbrev pub higher : ℕ → (Task → ℕ) → Task → ℕ
higher p f task = cond (nat_lt task.priority p) (f task) 0

-- and of this or a higher one
abbrev pub as_high : ℕ → (Task → ℕ) → Task → ℕ
as_high p f task = counted p task.priority (f task)

as_high_other : (p : ℕ) (f : Task → ℕ) (task : Task) → (task.priority ≡ p → ⊥) → as_high p f task ≤ higher p f task
as_high_other p f task other = elim (cases_order task.priority p) [
  | inl same ↦ absurd (other same)
  | inr (inl less) ↦ let e = lt-ltb task.priority p less in rw e (let is = counts p task.priority (f task) (omega arith) in omega arith)
  | inr (inr more) ↦ let is = counts_not p task.priority (f task) more in omega arith
]

as_high_others : (p : ℕ) (f : Task → ℕ) (tasks : List Task)
    → ((k : ℕ) (other : Task) → IsTask tasks k other → other.priority ≡ p → ⊥)
    → sum_by (as_high p f) tasks ≤ sum_by (higher p f) tasks
as_high_others p f [] others = omega arith
as_high_others p f (task ∷ tasks) others =
    let one = as_high_other p f task (others 0 task refl) in
    let more = as_high_others p f tasks (λ k other is. others (suc k) other is) in
    let sum = sum_by-cons (as_high p f) task tasks in
    let less = sum_by-cons (higher p f) task tasks in
    omega arith

-- where one task alone has this very priority, it is what the two differ by
pub as_high_alone : (p : ℕ) (f : Task → ℕ) (tasks : List Task) (i : ℕ) (task : Task) → IsTask tasks i task
    → ((k : ℕ) (other : Task) → IsTask tasks k other → other.priority ≡ p → k ≡ i)
    → sum_by (as_high p f) tasks ≤ sum_by (higher p f) tasks + f task
as_high_alone p f [] i task is alone = omega arith
as_high_alone p f (x ∷ tasks) zero task is alone =
    let same : x ≡ task = cc in
    let all = ap f same in
    let most = counted_most p x.priority (f x) in
    let more = as_high_others p f tasks (λ k other there e. let wrong = alone (suc k) other there e in omega arith) in
    let sum = sum_by-cons (as_high p f) x tasks in
    let less = sum_by-cons (higher p f) x tasks in
    omega arith
  where
    counted_most : (q priority n : ℕ) → counted q priority n ≤ n
    counted_most q priority n = by_test (nat_le priority q) (λ e. rw e (omega arith)) (λ e. rw e (omega arith))
as_high_alone p f (x ∷ tasks) (suc i) task is alone =
    let one = as_high_other p f x (λ e. let wrong = alone 0 x refl e in omega arith) in
    let more = as_high_alone p f tasks i task is (λ k other there e. let same = alone (suc k) other there e in omega arith) in
    let sum = sum_by-cons (as_high p f) x tasks in
    let less = sum_by-cons (higher p f) x tasks in
    omega arith
