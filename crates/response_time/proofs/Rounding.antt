-- Quotients that are rounded up, and demands, rise with the window.
use Rattle.std.proofs.Common.{◌<◌, ◌≤◌, ◌+◌, ◌*◌, ℕ, zero, suc, List, inl, inr, arith}
use Rattle.std.proofs.Math.Nat.{mul-le-mul_left, mul-le-mul_right, div-zero, mod-zero}
use Rattle.std.proofs.lemmas.Bool.{cases_lt}
use Rattle.std.proofs.lemmas.Grind.{div_ceil_times}
use Rattle.std.proofs.lemmas.List.Sums.{sum_by-le-sum_by}
use Rattle.std.specs.Bool.{nat_lt}
use Rattle.std.specs.Int.{div_ceil}
use Rattle.lists.specs.TestLaws.{by_test}
use Rattle.cost_table.specs.declared.task_set.Task.{Task}
use Rattle.response_time.specs.Responses.{interference, demand}

-- a multiple that is less than a unit larger is no larger
pub no_unit_more : (a b y : ℕ) → a * y < b * y + y → a ≤ b
no_unit_more a b y less = elim (cases_lt b a) [
  | inr le ↦ le
  | inl more ↦ let many = mul-le-mul_right {m = suc b} {n = a} y (omega arith) in absurd (omega arith)
]

-- a longer time has at least as many periods begun
pub rounded_up_rises : (a b y : ℕ) → a ≤ b → div_ceil a y ≤ div_ceil b y
rounded_up_rises a b zero le = let p = div-zero a in let q = div-zero b in let r = mod-zero a in let s = mod-zero b in omega arith
rounded_up_rises a b (suc y) le =
    let p = div_ceil_times a (suc y) (omega arith) in
    let q = div_ceil_times b (suc y) (omega arith) in
    no_unit_more (div_ceil a (suc y)) (div_ceil b (suc y)) (suc y) (omega arith)

pub interference_rises : (priority a b : ℕ) (other : Task) → a ≤ b
    → interference priority a other ≤ interference priority b other
interference_rises priority a b other le =
    by_test (nat_lt other.priority priority)
    (λ e. rw e (mul-le-mul_left other.cost (rounded_up_rises a b other.period le)))
    (λ e. rw e (omega arith))

-- a demand rises with the window
pub demand_rises : (tasks : List Task) (task : Task) (a b : ℕ) → a ≤ b → demand tasks task a ≤ demand tasks task b
demand_rises tasks task a b le =
    let more = sum_by-le-sum_by (interference task.priority a) (interference task.priority b) tasks (λ other. interference_rises task.priority a b other le) in
    omega arith
