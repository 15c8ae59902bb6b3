-- The facts that the books of an exploration tell.
--   Books              the books of the four recorders
--   SumUp o books past each book has the run, whose nodes stand with the newest first
--   IsSpan spreads count place low high   what a book has of a place
--   IsCountedIn o s n  the node is counted in the executions of the scope
--   AreApart o pairs s a b   two nodes of the scope are in no iteration of it together
--   Tells o books fact the fact is one that the books tell
use Rattle.std.specs.Prelude.{◌≡◌, ◌<◌, ℕ, true, false, List, length, Option, Some}
use Rattle.domain_core.specs.Outlines.{Outlined, shape_of}
use Rattle.flow_facts.specs.declared.fact.Fact.{Fact}
use Rattle.flow_facts.specs.declared.fact.Fact.TheVariants.{Loop, Count, Dead, Total, Pair, Alarm}
use Rattle.recorder_rules.specs.TotalRules.{spread_at, total_recording}
use Rattle.recorder_rules.specs.TallyRules.{Ledger}
use Rattle.recorder_rules.specs.LoopRules.{own_of, is_counted, loop_recording, count_recording}
use Rattle.recorder_rules.specs.PairRules.{PairBook, together, pair_recording}

-- the books of the four recorders
pub record Books : Type 0 where
  pub totals : List (Option (ℕ × ℕ))
  pub loops : Ledger
  pub counts : Ledger
  pub pairs : PairBook

-- each book has the run
pub record SumUp (o : Outlined) (books : Books) (past : List ℕ) : Type 0 where
  pub totals : total_recording.sums_up o books.totals past
  pub loops : loop_recording.sums_up o books.loops past
  pub counts : count_recording.sums_up o books.counts past
  pub pairs : pair_recording.sums_up o books.pairs past

-- what a book has of a place, by its number
pub record IsSpan (spreads : List (Option (ℕ × ℕ))) (count place low high : ℕ) : Type 0 where
  pub there : place < count
  pub span : spread_at spreads place ≡ Some (low, high)

-- the node is counted in the executions of the scope
pub record IsCountedIn (o : Outlined) (s n : ℕ) : Type 0 where
  pub counted : is_counted (shape_of o) n ≡ true
  pub own : own_of (shape_of o) n ≡ s

-- two nodes of the scope that are in no iteration of it together
pub record AreApart (o : Outlined) (pairs : PairBook) (s a b : ℕ) : Type 0 where
  pub first : a < length o.nodes
  pub second : b < length o.nodes
  pub own : own_of (shape_of o) a ≡ s
  pub other_own : own_of (shape_of o) b ≡ s
  pub apart : together pairs a b ≡ false

-- the fact is one that the books tell: a loop or a count has the span of its executions, a total that of the runs, and
-- a node is dead where its greatest total is 0
abbrev pub Tells : Outlined → Books → Fact → Type 0
Tells o books (Loop s low high) = IsSpan books.loops.spreads (length o.scopes) s low high
Tells o books (Count s n low high) = IsSpan books.counts.spreads (length o.nodes) n low high × IsCountedIn o s n
Tells o books (Dead n) = IsSpan books.totals (length o.nodes) n 0 0
Tells o books (Total n low high) = IsSpan books.totals (length o.nodes) n low high
Tells o books (Pair s a b) = AreApart o books.pairs s a b
Tells o books (Alarm n fault) = Unit {0}
