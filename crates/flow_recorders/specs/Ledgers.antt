-- Books of a number of counts.
--   IsLedger b n   the book is one of n counts
use Rattle.std.specs.Prelude.{◌≡◌, ℕ, length}
use Rattle.recorder_rules.specs.TallyRules.{Ledger}

pub record IsLedger (b : Ledger) (n : ℕ) : Type 0 where
  pub scopes : length b.tally.scopes ≡ n
  pub nodes : length b.tally.nodes ≡ n
  pub spreads : length b.spreads ≡ n
