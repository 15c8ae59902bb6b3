-- How great the numbers of books are, after so many steps.
--   IsOrderly k span       the least is not greater than the greatest, and that not than k
--   IsOrderlySpread k t    so it is, if something was collected
--   AreOrderly k books     and all that an exploration collected of them
use Rattle.std.specs.Prelude.{◌≤◌, ℕ, Option, Some, None}
use Rattle.recorder_rules.specs.TotalRules.{spread_at}
use Rattle.report_soundness.specs.BookTold.{Books}

-- the least is not greater than the greatest, and that not than k
abbrev pub IsOrderly : ℕ → ℕ × ℕ → Type 0
IsOrderly k span = (span.0 ≤ span.1) × (span.1 ≤ k)

abbrev pub IsOrderlySpread : ℕ → Option (ℕ × ℕ) → Type 0
IsOrderlySpread k None = Unit {0}
IsOrderlySpread k (Some span) = IsOrderly k span

-- all that was collected
pub record AreOrderly (k : ℕ) (books : Books) : Type 0 where
  pub totals : (i : ℕ) → IsOrderlySpread k (spread_at books.totals i)
  pub loops : (i : ℕ) → IsOrderlySpread k (spread_at books.loops.spreads i)
  pub counts : (i : ℕ) → IsOrderlySpread k (spread_at books.counts.spreads i)
