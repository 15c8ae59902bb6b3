-- Laws of numbers.
--   OrderlyRecorders k r   so are all spans of the recorders of totals, loops and counts
--   OrderlyBooks k b       and all that was collected in their books
use Rattle.std.specs.Prelude.{ℕ}
use Rattle.recorder_rules.specs.TotalRules.{span_at}
use Rattle.report_soundness.specs.ReportTold.{FourRecorders, FourBooks, books_of}
use Rattle.report_soundness.specs.Numbers.{IsOrderly, AreOrderly}

pub record OrderlyRecorders (k : ℕ) (r : FourRecorders) : Type 0 where
  pub totals : (i : ℕ) → IsOrderly k (span_at r.first.first i)
  pub loops : (i : ℕ) → IsOrderly k (span_at r.first.second i)
  pub counts : (i : ℕ) → IsOrderly k (span_at r.second.first i)

abbrev pub OrderlyBooks : ℕ → FourBooks → Type 0
OrderlyBooks k b = AreOrderly k (books_of b)
