-- Which lines a report tells, whatever their order.
--   IsLine o found fact   the report of what was collected tells the fact
use Rattle.std.specs.Prelude.{◌≡◌, ◌≢◌, ◌<◌, ℕ, true, false, length}
use Rattle.domain_core.specs.FaultSets.{has_fault}
use Rattle.domain_core.specs.Outlines.{Outlined, header_of, kind_of}
use Rattle.flow_facts.specs.declared.fact.Fact.{Fact}
use Rattle.flow_facts.specs.declared.fact.Fact.TheVariants.{Loop, Count, Dead, Total, Pair, Alarm}
use Rattle.recorder_rules.specs.LoopRules.{is_loop}
use Rattle.report_soundness.specs.BookTold.{IsSpan, IsCountedIn, AreApart}
use Rattle.worklist_rules.specs.Pools.{alarm_at}
use Rattle.report_soundness.specs.ReportTold.{Found, is_stepped}

-- two nodes that were stepped, none of them the header, are in no iteration of their scope together
pub record IsPair (o : Outlined) (found : Found) (s a b : ℕ) : Type 0 where
  pub ordered : a < b
  pub first : is_stepped found a ≡ true
  pub second : is_stepped found b ≡ true
  pub no_header : (header_of o.scopes s ≢ a) × (header_of o.scopes s ≢ b)
  pub apart : AreApart o found.books.pairs s a b

-- the report tells the fact: a loop with an execution, a node of it that was stepped and is not its header, a node that
-- was never stepped, the total of any other, a pair, and each alarm
abbrev pub IsLine : Outlined → Found → Fact → Type 0
IsLine o found (Loop s low high) = (is_loop (kind_of o.scopes s) ≡ true) × IsSpan found.books.loops.spreads (length o.scopes) s low high
IsLine o found (Count s n low high) = (s < length o.scopes) × (is_stepped found n ≡ true) × IsCountedIn o s n × IsSpan found.books.counts.spreads (length o.nodes) n low high
IsLine o found (Dead n) = (n < length o.nodes) × (is_stepped found n ≡ false)
IsLine o found (Total n low high) = (is_stepped found n ≡ true) × IsSpan found.books.totals (length o.nodes) n low high
IsLine o found (Pair s a b) = (s < length o.scopes) × IsPair o found s a b
IsLine o found (Alarm n fault) = (n < length o.nodes) × (has_fault (alarm_at found.alarms n) fault ≡ true)
