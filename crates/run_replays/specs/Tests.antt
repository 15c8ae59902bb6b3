-- Tests of the lines of a report against the books that have a run.
--   with_line visits fact     the visits of each node, with what one line says
--   breaks books fact         the run of the books does not meet the line
--   AreSized o books          the books have a number for each node and each scope of the outline
use Rattle.std.specs.Prelude.{◌≡◌, ℕ, Bool, false, List, length, set}
use Rattle.domain_core.specs.Outlines.{Outlined}
use Rattle.flow_facts.specs.declared.fact.Fact.{Fact}
use Rattle.flow_facts.specs.declared.fact.Fact.TheVariants.{Loop, Count, Dead, Total, Pair, Alarm}
use Rattle.recorder_rules.specs.TotalRules.{spread_at}
use Rattle.recorder_rules.specs.PairRules.{together}
use Rattle.report_soundness.specs.BookTold.{Books}
use Rattle.report_objections.specs.Objecting.{is_outside}

-- the visits of each node, with what one line says
abbrev pub with_line : List ℕ → Fact → List ℕ
with_line visits (Total n low high) = set visits n high
with_line visits _ = visits

-- the run of the books does not meet the line
abbrev pub breaks : Books → Fact → Bool
breaks books (Loop s low high) = is_outside low high (spread_at books.loops.spreads s)
breaks books (Count s n low high) = is_outside low high (spread_at books.counts.spreads n)
breaks books (Dead n) = is_outside 0 0 (spread_at books.totals n)
breaks books (Total n low high) = is_outside low high (spread_at books.totals n)
breaks books (Pair s a b) = together books.pairs a b
breaks books (Alarm n fault) = false

-- the books have a number for each node and each scope of the outline
pub record AreSized (o : Outlined) (books : Books) : Type 0 where
  pub totals : length books.totals ≡ length o.nodes
  pub loops : length books.loops.spreads ≡ length o.scopes
  pub counts : length books.counts.spreads ≡ length o.nodes
  pub pairs : length books.pairs.pairs ≡ length o.nodes
