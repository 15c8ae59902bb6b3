-- In each window a task brings at least its share of it.
use Rattle.std.proofs.Common.{◌≡◌, ◌<◌, ◌≤◌, ◌+◌, ◌*◌, ◌/◌, ◌-◌, ℕ, List, [], ◌∷◌, length, take, get_or, inl, inr, ap, arith}
use Rattle.std.proofs.Math.Nat.{mul-le-mul_left, mul-le-mul_right, div-mul-le_self}
use Rattle.std.proofs.lemmas.Bool.{cases_lt}
use Rattle.std.proofs.lemmas.Grind.{div_ceil_times}
use Rattle.std.proofs.lemmas.List.Elements.{All-head, All-tail}
use Rattle.std.proofs.lemmas.List.Sums.{sum_by-cons, sum_by_more_le}
use Rattle.std.proofs.lemmas.List.{take_all}
use Rattle.std.specs.Bool.{nat_lt}
use Rattle.std.specs.Int.{div_ceil}
use Rattle.std.specs.List.{All, sum_by}
use Rattle.lists.specs.TestLaws.{by_test}
use Rattle.cost_table.specs.declared.task_set.Task.{Task}
use Rattle.cost_table.specs.Tasks.{IsInRange}
use Rattle.response_time.specs.Responses.{interference, IsLate}
use Rattle.response_time.specs.Shares.{share_of, IsCrowdedOut}

-- a share of a window is at most the cost of each period that begins in it
share_within : (window cost period share n whole : ℕ) → share * period ≤ cost * whole → window ≤ n * period
    → window * share ≤ cost * n * whole
share_within window cost period share n whole part covers =
    let one = mul-le-mul_right share covers in
    let two = mul-le-mul_right n part in
    let left : n * period * share ≡ share * period * n = grind arith in
    let right : cost * whole * n ≡ cost * n * whole = grind arith in
    omega arith

pub share_brought : (p window : ℕ) (other : Task) → IsInRange other
    → window * share_of p other ≤ interference p window other * 79228162514264337593543950336
share_brought p window other range =
    by_test (nat_lt other.priority p)
    (λ e. rw e (share_within window other.cost other.period (other.cost * 79228162514264337593543950336 / other.period) (div_ceil window other.period) 79228162514264337593543950336
    (div-mul-le_self (other.cost * 79228162514264337593543950336) other.period) (div_ceil_times window other.period range.period).0))
    (λ e. rw e (omega arith))

pub shares_brought : (p window : ℕ) (tasks : List Task) → All IsInRange tasks
    → window * sum_by (share_of p) tasks ≤ sum_by (interference p window) tasks * 79228162514264337593543950336
shares_brought p window [] ranges = omega arith
shares_brought p window (task ∷ tasks) ranges =
    let one = share_brought p window task (All-head IsInRange task tasks ranges) in
    let more = shares_brought p window tasks (All-tail IsInRange task tasks ranges) in
    let shares : window * sum_by (share_of p) (task ∷ tasks) ≡ window * (share_of p task + sum_by (share_of p) tasks) = ap (λ (n : ℕ). window * n) (sum_by-cons (share_of p) task tasks) in
    let all = sum_by-cons (interference p window) task tasks in
    omega arith

-- where the shares make up the whole, there is no solution
pub none_of_all : (tasks : List Task) (task : Task) → All IsInRange tasks → 1 ≤ task.cost
    → 79228162514264337593543950336 ≤ sum_by (share_of task.priority) tasks → IsLate tasks task
none_of_all tasks task ranges some full time solves =
    let equal = solves.equal in
    let brought = shares_brought task.priority time tasks ranges in
    let whole = mul-le-mul_left time full in
    absurd (omega arith)

-- and where what they leave is too little, there is none up to the deadline
pub none_of_rest : (tasks : List Task) (task : Task) (free : ℕ) → All IsInRange tasks
    → free + sum_by (share_of task.priority) tasks ≡ 79228162514264337593543950336 → task.deadline * free < task.cost * 79228162514264337593543950336
    → IsLate tasks task
none_of_rest tasks task free ranges rest little time solves = elim (cases_lt task.deadline time) [
  | inl late ↦ late
  | inr due ↦
      let equal = solves.equal in
      let brought = shares_brought task.priority time tasks ranges in
      let part = mul-le-mul_right free due in
      let all : time * (free + sum_by (share_of task.priority) tasks) ≡ time * 79228162514264337593543950336 = ap (λ (n : ℕ). time * n) rest in
      absurd (omega arith)
]

-- so a task that is crowded out is late
pub crowded_late : (tasks : List Task) (task : Task) → All IsInRange tasks → 1 ≤ task.cost → IsCrowdedOut tasks task
    → IsLate tasks task
crowded_late tasks task ranges some little = elim (cases_lt (sum_by (share_of task.priority) tasks) 79228162514264337593543950336) [
  | inr full ↦ none_of_all tasks task ranges some full
  | inl less ↦ none_of_rest tasks task (79228162514264337593543950336 - sum_by (share_of task.priority) tasks) ranges (omega arith) little
]

-- a share that leaves nothing crowds out
pub is_full : (tasks : List Task) (task : Task) (i free share : ℕ) (other : Task) → 1 ≤ task.cost → i < length tasks
    → other ≡ get_or tasks i other
    → free + sum_by (share_of task.priority) (take i tasks) ≡ 79228162514264337593543950336 → share ≡ share_of task.priority other → free ≤ share → IsCrowdedOut tasks task
is_full tasks task i free share other some low there so_far is least =
    let whose : share_of task.priority other ≡ share_of task.priority (get_or tasks i other) = ap (share_of task.priority) there in
    let more = sum_by_more_le (share_of task.priority) tasks i other low in
    let none : 79228162514264337593543950336 - sum_by (share_of task.priority) tasks ≡ 0 = omega arith in
    rw none (omega arith)

-- what all shares leave
pub left_by_all : (tasks : List Task) (task : Task) (i free : ℕ) → length tasks ≤ i
    → free + sum_by (share_of task.priority) (take i tasks) ≡ 79228162514264337593543950336
    → free ≡ 79228162514264337593543950336 - sum_by (share_of task.priority) tasks
left_by_all tasks task i free over so_far =
    let all : sum_by (share_of task.priority) (take i tasks) ≡ sum_by (share_of task.priority) tasks = ap (sum_by (share_of task.priority)) (take_all i tasks over) in
    omega arith
