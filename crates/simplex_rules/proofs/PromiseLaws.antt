-- Laws of promise.
--   opening_sum   the sum over the openings of cost times right side
use Rattle.std.specs.Prelude.{ℕ, ℤ, pos, ◌-ℤ◌, ◌*ℤ◌, List, length}
use Rattle.ipet_rows.specs.Sums.{total}
use Rattle.ipet_rows.specs.Programs.{Program}
use Rattle.simplex_rules.specs.PivotRule.{opening_at}
use Rattle.simplex_rules.specs.Promise.{coefficient_at, cost_of}

-- the sum over the openings of cost times right side
abbrev pub opening_sum : Program → List (ℕ × ℕ) → ℤ
opening_sum p os = total (length os) (λ i. (pos 0 -ℤ cost_of p (opening_at os i).1) *ℤ coefficient_at p (opening_at os i).0 0)
