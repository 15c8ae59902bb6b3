-- What is asked of an exploration's books for a path bound.
--   HaveTotals o found   of each node that was stepped some total was collected
use Rattle.std.specs.Prelude.{◌≡◌, ◌<◌, ℕ, true, length, Some}
use Rattle.domain_core.specs.Outlines.{Outlined}
use Rattle.recorder_rules.specs.TotalRules.{spread_at}
use Rattle.report_soundness.specs.ReportTold.{Found, is_stepped}

-- what was collected of a node's totals
pub record IsTotalOf (found : Found) (n : ℕ) : Type 0 where
  pub low : ℕ
  pub high : ℕ
  pub span : spread_at found.books.totals n ≡ Some (low, high)

-- of each node that was stepped some total was collected
abbrev pub HaveTotals : Outlined → Found → Type 0
HaveTotals o found = (n : ℕ) → n < length o.nodes → is_stepped found n ≡ true → IsTotalOf found n
