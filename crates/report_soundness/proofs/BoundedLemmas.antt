-- On the way to the laws of bounded.
--   facts_about, openings_fit   what is asked of facts for a path bound
--   kept_told          and the report is a told one
--   met_at_bound   where some run costs the count bound, the path bound is the count bound
--   lone_bound         where the given report tells one run exactly, both are the run's cost
use Rattle.std.proofs.Common.{◌≡◌, ◌≤◌, ◌<◌, ◌^◌, ℕ, pos, Bool, List, [], ◌∷◌, All, reverse, refl, sym, subst, arith}
use Rattle.std.specs.Prelude.{◌<ℤ◌}
use Rattle.std.proofs.lemmas.Int.{ints}
use Rattle.domain_core.specs.Outlines.{Outlined, shape_of}
use Rattle.domain_core.specs.Machines.{System, Machine}
use Rattle.flow_facts.specs.declared.report.BoundWord.{BoundWord}
use Rattle.flow_facts.specs.Facts.{IsAbout}
use Rattle.flow_facts.specs.Reports.{Reported}
use Rattle.ipet_rows.specs.Uses.{IsEnded, run_cost}
use Rattle.ipet_rows.specs.Shaped.{FitOutline}
use Rattle.ipet_rows.specs.Feasible.{MeetFacts}
use Rattle.worklist_rules.specs.Pools.{Pooled}
use Rattle.worklist_rules.specs.Kept.{IsKept}
use Rattle.path_lp.specs.Bounding.{opening_sum, told_path_bound, IsAbove}
use Rattle.report_soundness.specs.ReportTold.{FourRecorders, FourBooks, four_recording, found_of, costs_of, told_report}
use Rattle.report_soundness.specs.Exact.{LoneRun}
use Rattle.report_soundness.proofs.BoundToldLemmas.{told_about}
use Rattle.report_soundness.specs.Bounded.{IsTold, HasRun, with_path_bound, bounded, HasPathBound, IsPathSound, IsWithinCount}
use Rattle.report_soundness.specs.BoundedLaws.{openings_low, kept_totals, run_at_bound}

-- ---- told reports

module _ (o : Outlined) (report : Reported) (is : IsTold o report) where
  pub facts_about : All (λ f. IsAbout (shape_of o) f) report.facts
  facts_about = subst (λ (r : Reported). All (λ f. IsAbout (shape_of o) f) r.facts) (sym is.told) (told_about o is.found)

  pub openings_fit : report.count_bound < 2 ^ 64 → opening_sum o report.facts <ℤ pos (2 ^ 64)
  openings_fit low = let most = openings_low o report is in omega (arith, ints, most, low)

-- ---- closed explorations

-- and the report is a told one
pub kept_told : {S T C : Type 0} (machine : S → Machine T C) (w : Pooled S T FourRecorders FourBooks)
    → IsKept machine four_recording w → w.spots ≡ []
    → HasRun (machine w.stepper).system → IsTold w.outline (told_report w.outline (found_of w))
kept_told machine w kept empty run = record { found = found_of w; told = refl; totals = kept_totals machine w kept empty run }

-- ---- the count bound

-- where some run that meets the facts costs the count bound, what no such run passes and is at most the count bound is
-- the count bound
pub met_at_bound : (o : Outlined) (report : Reported) (v : ℕ) → IsAbove o report.facts v → v ≤ report.count_bound
    → FitOutline (shape_of o) report.facts
    → (fault : Bool) (k : ℕ) (past : List ℕ) → IsEnded (shape_of o) report.facts fault (k ∷ past) → MeetFacts (shape_of o) (reverse (k ∷ past)) report.facts
    → run_cost (costs_of o) (k ∷ past) ≡ report.count_bound → v ≡ report.count_bound
met_at_bound o report v above within fit fault k past run met cost =
    let low = above.runs fault k past run fit met in
    omega (arith, low, within, cost)

-- where the given report tells one run exactly, so does this one
still_lone : {C : Type 0} (system : System C) (o : Outlined) (given : Reported) (b : ℕ × BoundWord) (trace : List ℕ)
    → LoneRun system o given trace → LoneRun system o (with_path_bound given b) trace
still_lone system o given b trace run =
    let is = run.exact in
    record {
      start = run.start;
      starts = run.starts;
      fault = run.fault;
      passes = run.passes;
      exact = record { totals = is.totals; deads = is.deads; loops = is.loops; counts = is.counts; pairs = is.pairs; alarms = is.alarms; bound = is.bound };
    }

-- and both bounds are the run's cost
pub lone_bound : {C : Type 0} (system : System C) (o : Outlined) (given report : Reported) (n : ℕ) (trace : List ℕ)
    → report ≡ bounded o given n → IsPathSound system o report → IsWithinCount report
    → LoneRun system o given trace → HasPathBound (λ b. b.0 ≡ run_cost (costs_of o) trace) report
lone_bound system o given report n trace told sound within alone =
    let run = subst (λ (r : Reported). LoneRun system o r trace) (sym told) (still_lone system o given (told_path_bound o given.facts n) trace alone) in
    subst (λ (v : ℕ). HasPathBound (λ b. b.0 ≡ v) report) run.exact.bound
    (run_at_bound system o report sound within run.start trace run.fault run.starts run.passes (sym run.exact.bound))
