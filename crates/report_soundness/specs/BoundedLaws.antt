-- What the report with a path bound has of the given one.
--   facts_limited   what is asked of facts for a path bound
--   bound_most         what is at most the sum over the openings is at most the count bound
--   bounded_sound      each run that the report is sound for costs at most the path bound
--   sound_runs         a run of the system ends where the report is sound
--   kept_totals        where no place is left and some run ends, of each node that was stepped some total was collected
--   events_totals, events_told   so it is of each pool that events led to
--   run_at_bound   where some run costs the count bound, the path bound is the count bound
use Rattle.std.proofs.Common.{◌≡◌, ◌≤◌, ℕ, pos, List, [], ◌∷◌, Option, None, Some, length, refl, sym, subst, arith}
use Rattle.std.specs.Prelude.{◌≤ℤ◌}
use Rattle.std.proofs.lemmas.Int.{ints}
use Rattle.alf_ops.specs.declared.history.RunFault.{RunFault}
use Rattle.domain_core.specs.declared.event.Event.{Event}
use Rattle.domain_core.specs.Orders.{Order, IsOrder}
use Rattle.domain_core.specs.Outlines.{Outlined, IsOutline, shape_of}
use Rattle.domain_core.specs.Machines.{System, Machine, IsMachine, IsAlong}
use Rattle.flow_facts.specs.declared.report.BoundWord.{BoundWord}
use Rattle.flow_facts.specs.Reports.{Reported}
use Rattle.ipet_rows.specs.Uses.{run_cost}
use Rattle.ipet_rows.specs.Shaped.{FitOutline}
use Rattle.simplex_rules.specs.OutlineOpenings.{AreLimited}
use Rattle.worklist_rules.specs.Pools.{Pooled}
use Rattle.worklist_rules.specs.Events.{opened, HappenAll}
use Rattle.domain_core.specs.SystemRuns.{IsRun}
use Rattle.worklist_rules.specs.Kept.{IsKept}
use Rattle.path_lp.specs.Bounding.{opening_sum, told_path_bound, IsAbove}
use Rattle.report_soundness.specs.ReportTold.{FourRecorders, FourBooks, four_order, four_recording, found_of, costs_of, told_report}
use Rattle.worklist_rules.specs.EndedRuns.{Passes}
use Rattle.worklist_rules.specs.SummedLaws.{each_is_summed}
use Rattle.report_soundness.specs.Runs.{IsSound}
use Rattle.report_soundness.specs.EventLaws.{four_kept, events_one_on}
use Rattle.report_soundness.specs.BoundTold.{HaveTotals}
use Rattle.report_soundness.specs.BoundToldLaws.{told_fit, told_limited, told_within, summed_totals}
use Rattle.report_soundness.specs.RunLaws.{bound_above}
use Rattle.report_soundness.specs.Bounded.{IsTold, HasRun, with_path_bound, bounded, with_count_bound, IsOf, HasPathBound, IsPathSound, IsPathBounded, IsWithinCount}

-- ---- told reports

module _ (o : Outlined) (report : Reported) (is : IsTold o report) where
  pub facts_fit : FitOutline (shape_of o) report.facts
  facts_fit = subst (λ (r : Reported). FitOutline (shape_of o) r.facts) (sym is.told) (told_fit o is.found)

  pub facts_limited : AreLimited (length o.nodes) report.facts
  facts_limited = subst (λ (r : Reported). AreLimited (length o.nodes) r.facts) (sym is.told) (told_limited o is.found is.totals)

  -- the sum over the openings is at most the count bound
  pub openings_low : opening_sum o report.facts ≤ℤ pos report.count_bound
  openings_low = subst (λ (r : Reported). opening_sum o r.facts ≤ℤ pos r.count_bound) (sym is.told) (told_within o is.found)

  -- so is what is at most that sum
  pub bound_most : (v : ℕ) → pos v ≤ℤ opening_sum o report.facts → v ≤ report.count_bound
  bound_most v low = let most = openings_low in omega (arith, ints, most, low)

  path_sound : {T C : Type 0} (m : Machine T C) (b : ℕ × BoundWord) → IsAlong T C (shape_of o) m
      → IsSound m.system o report → IsAbove o report.facts b.0
      → IsPathSound m.system o (with_path_bound report b)
  path_sound m b along sound above = record {
    ends = sound.ends;
    right = λ c trace fault starts passes.
        let right = sound.right c trace fault starts passes in
        record { facts = right.facts; alarm = right.alarm; bound = bound_above m o report b.0 along sound facts_fit above c trace fault starts passes };
  }

-- each run that the given report is sound for costs at most the path bound
pub bounded_sound : {T C : Type 0} (m : Machine T C) (o : Outlined) (given report : Reported) (n : ℕ)
    → IsAlong T C (shape_of o) m → IsTold o given → IsSound m.system o given → report ≡ bounded o given n → IsPathBounded o report → IsPathSound m.system o report
bounded_sound m o given report n along is sound told above =
    let here : IsPathBounded o (bounded o given n) = subst (λ (r : Reported). IsPathBounded o r) told above in
    subst (λ (r : Reported). IsPathSound m.system o r) (sym told) (path_sound o given is m (told_path_bound o given.facts n) along sound here)

-- ---- closed explorations

-- a run of the system ends where the report is sound
pub sound_runs : {C : Type 0} (system : System C) (o : Outlined) (report : Reported) → IsSound system o report
    → (run : ℕ → Option (ℕ × C)) → IsRun system run → HasRun system
sound_runs system o report sound run is =
    let ended = sound.ends run is in
    record { start = ended.start; starts = ended.starts; trace = ended.trace; fault = ended.fault; passes = ended.passes }

-- where no place is left and some run ends, of each node that was stepped some total was collected
pub kept_totals : {S T C : Type 0} (machine : S → Machine T C) (w : Pooled S T FourRecorders FourBooks)
    → IsKept machine four_recording w → w.spots ≡ []
    → HasRun (machine w.stepper).system → HaveTotals w.outline (found_of w)
kept_totals machine w kept empty run =
    let is = (each_is_summed machine four_recording w kept.handled empty).right run.start run.trace run.fault run.starts run.passes in
    summed_totals w.outline (found_of w) (is.last ∷ is.past)
    (record { totals = is.summed.0.0; loops = is.summed.0.1; counts = is.summed.1.0; pairs = is.summed.1.1 })

-- so it is of each pool that events led to
pub events_totals : {S T C : Type 0} (machine : S → Machine T C) (states : Order T) (events : List Event) (stepper : S) (o : Outlined)
    (w : Pooled S T FourRecorders FourBooks) → IsOrder T states
    → ((s : S) → (machine s).kept → IsMachine T C states (machine s)) → (machine stepper).kept → IsOutline (shape_of o) → IsAlong T C (shape_of o) (machine stepper)
    → HappenAll machine states four_order four_recording (opened machine four_recording stepper o) events w → w.spots ≡ [] → HasRun (machine stepper).system
    → HaveTotals o (found_of w)
events_totals machine states events stepper o w states_laws machine_laws stepper_kept ok along happen empty run =
    let kept = four_kept machine states events stepper o w states_laws machine_laws stepper_kept ok along happen in
    let same = events_one_on machine states events (opened machine four_recording stepper o) w happen in
    let here : HasRun (machine w.stepper).system = subst (λ s. HasRun (machine s).system) (sym same.stepper) run in
    subst (λ (p : Outlined). HaveTotals p (found_of w)) same.outline (kept_totals machine w kept empty here)

pub events_told : {S T C : Type 0} (machine : S → Machine T C) (states : Order T) (events : List Event) (stepper : S) (o : Outlined)
    (w : Pooled S T FourRecorders FourBooks) → IsOrder T states
    → ((s : S) → (machine s).kept → IsMachine T C states (machine s)) → (machine stepper).kept → IsOutline (shape_of o) → IsAlong T C (shape_of o) (machine stepper)
    → HappenAll machine states four_order four_recording (opened machine four_recording stepper o) events w → w.spots ≡ [] → HasRun (machine stepper).system
    → IsTold o (told_report o (found_of w))
events_told machine states events stepper o w states_laws machine_laws stepper_kept ok along happen empty run =
    record { found = found_of w; told = refl; totals = events_totals machine states events stepper o w states_laws machine_laws stepper_kept ok along happen empty run }

-- ---- the count bound

on_bound : (P Q R : ℕ × BoundWord → Type 0) (t : Option (ℕ × BoundWord)) → ((b : ℕ × BoundWord) → P b → Q b → R b)
    → IsOf P t → IsOf Q t → IsOf R t
on_bound P Q R None each first second = absurd first
on_bound P Q R (Some b) each first second = each b first second

-- where some run costs the count bound, the path bound is the count bound
pub run_at_bound : {C : Type 0} (system : System C) (o : Outlined) (report : Reported) → IsPathSound system o report
    → IsWithinCount report
    → (c : C) (trace : List ℕ) (fault : Option RunFault) → system.starts c → Passes system 0 c trace fault → run_cost (costs_of o) trace ≡ report.count_bound
    → HasPathBound (λ b. b.0 ≡ report.count_bound) report
run_at_bound system o report sound within c trace fault starts passes cost =
    on_bound (λ b. IsSound system o (with_count_bound report b.0)) (λ b. b.0 ≤ report.count_bound) (λ b. b.0 ≡ report.count_bound) report.path_bound
    (λ b holds most. let low = (holds.right c trace fault starts passes).bound in omega (arith, low, most, cost)) sound within
