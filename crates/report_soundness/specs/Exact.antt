-- Reports that tell exactly one run.
--   AreExtremes o s trace count low high   of the executions of the scope, low is the least count and high the greatest
--   IsLonePair o trace s a b   the two nodes of the scope are visited, but in no iteration of it together
--   IsExact o report trace fault   the report tells the run's own numbers, and nothing else
--   LoneRun system o report trace   a run passes through the trace, and the report tells exactly it
use Rattle.std.specs.Prelude.{◌≡◌, ◌≢◌, ◌<◌, ◌↔◌, ℕ, List, [], ◌∷◌, ◌++◌, true, length, Option, Some, Contains}
use Rattle.alf_ops.specs.declared.history.RunFault.{RunFault}
use Rattle.domain_core.specs.Outlines.{Outlined, Shape, shape_of, header_of, kind_of}
use Rattle.domain_core.specs.Executions.{IsExecution, IsIteration}
use Rattle.domain_core.specs.Machines.{System}
use Rattle.flow_facts.specs.declared.fact.Fact.TheVariants.{Loop, Count, Dead, Total, Pair, Alarm}
use Rattle.flow_facts.specs.Facts.{places, IsBetween}
use Rattle.flow_facts.specs.Reports.{Reported}
use Rattle.ipet_rows.specs.Uses.{run_cost}
use Rattle.recorder_rules.specs.LoopRules.{is_loop, own_of}
use Rattle.report_soundness.specs.BookTold.{IsCountedIn}
use Rattle.report_soundness.specs.ReportTold.{costs_of}
use Rattle.worklist_rules.specs.EndedRuns.{Passes}

-- of the executions of the scope, low is the least count and high the greatest
pub record AreExtremes (o : Shape) (s : ℕ) (trace : List ℕ) (count : List ℕ → ℕ) (low high : ℕ) : Type 0 where
  pub each : (execution : List ℕ) → IsExecution o s trace execution → IsBetween low high (count execution)
  pub least : (execution : List ℕ) × IsExecution o s trace execution × (count execution ≡ low)
  pub most : (execution : List ℕ) × IsExecution o s trace execution × (count execution ≡ high)

-- two nodes of the scope, none of them its header, are visited, but in no iteration of it together
pub record IsLonePair (o : Shape) (trace : List ℕ) (s a b : ℕ) : Type 0 where
  pub ordered : a < b
  pub first : Contains trace a
  pub second : Contains trace b
  pub own : own_of o a ≡ s
  pub other_own : own_of o b ≡ s
  pub no_header : (header_of o.scopes s ≢ a) × (header_of o.scopes s ≢ b)
  pub apart : (iteration : List ℕ) → IsIteration o s trace iteration → Contains iteration a → Contains iteration b → ⊥

-- the node is the last one of the trace
abbrev pub IsLast : List ℕ → ℕ → Type 0
IsLast trace n = (before : List ℕ) × (trace ≡ before ++ n ∷ [])

-- the report tells the run's own numbers, and nothing else
pub record IsExact (o : Outlined) (report : Reported) (trace : List ℕ) (fault : Option RunFault) : Type 0 where
  -- each node of the run has its own count twice, and the others are dead
  pub totals : (n low high : ℕ)
      → Contains report.facts (Total n low high) ↔ (Contains trace n × (low ≡ places n trace) × (high ≡ places n trace))
  pub deads : (n : ℕ) → Contains report.facts (Dead n) ↔ ((n < length o.nodes) × (places n trace ≡ 0))
  -- each loop with an execution has the least and the greatest count of its header, and of its other nodes that are
  -- visited
  pub loops : (s low high : ℕ) → Contains report.facts (Loop s low high)
      ↔ ((s < length o.scopes) × (is_loop (kind_of o.scopes s) ≡ true) × AreExtremes (shape_of o) s trace (places (header_of o.scopes s)) low high)
  pub counts : (s n low high : ℕ)
      → Contains report.facts (Count s n low high)
      ↔ (Contains trace n × IsCountedIn o s n × AreExtremes (shape_of o) s trace (places n) low high)
  pub pairs : (s a b : ℕ) → Contains report.facts (Pair s a b) ↔ IsLonePair (shape_of o) trace s a b
  -- the only alarm is the run's fault, and the bound its cost
  pub alarms : (n : ℕ) (kind : RunFault) → Contains report.facts (Alarm n kind) ↔ ((fault ≡ Some kind) × IsLast trace n)
  pub bound : report.count_bound ≡ run_cost (costs_of o) trace

-- a run passes through the trace, and the report tells exactly it
pub record LoneRun {C : Type 0} (system : System C) (o : Outlined) (report : Reported) (trace : List ℕ) : Type 0 where
  pub start : C
  pub starts : system.starts start
  pub fault : Option RunFault
  pub passes : Passes system 0 start trace fault
  pub exact : IsExact o report trace fault
