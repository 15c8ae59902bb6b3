-- Each run of a system costs at most the path bound of a sound report.
--   IsAboveRuns system o v   each run that ends costs at most this value
--   bound_above              so it is of a value that no run that meets the facts passes
use Rattle.std.proofs.Common.{◌≡◌, ◌≤◌, ℕ, Bool, true, false, List, [], ◌∷◌, ◌++◌, Option, Some, None, All, Contains, reverse, refl, sym, ap, ◌∙◌, subst, arith}
use Rattle.std.specs.Prelude.{slice_index}
use Rattle.std.proofs.lemmas.Bool.{eq-eqb}
use Rattle.std.proofs.lemmas.List.{reverse-append}
use Rattle.std.proofs.lemmas.List.Folds.{list_any_at}
use Rattle.std.proofs.lemmas.List.Sorted.{sum_by-IsPermutation, IsPermutation-reverse}
use Rattle.alf_ops.specs.declared.history.RunFault.{RunFault}
use Rattle.domain_core.specs.Outlines.{Outlined, shape_of}
use Rattle.domain_core.specs.Traces.{IsTrace}
use Rattle.domain_core.specs.Machines.{System, Machine, IsAlong}
use Rattle.flow_facts.specs.declared.fact.Fact.{Fact}
use Rattle.flow_facts.specs.declared.fact.Fact.TheVariants.{Alarm}
use Rattle.flow_facts.specs.Facts.{Meets}
use Rattle.flow_facts.specs.Reports.{Reported}
use Rattle.ipet_rows.specs.Columns.{is_alarm_at, has_alarm}
use Rattle.ipet_rows.specs.Uses.{EndsAt, run_cost}
use Rattle.ipet_rows.specs.Shaped.{FitOutline}
use Rattle.report_soundness.specs.ReportTold.{costs_of}
use Rattle.worklist_rules.specs.EndedRuns.{Passes, stops, moves}
use Rattle.worklist_rules.specs.SummedLaws.{in_order}
use Rattle.report_soundness.specs.Runs.{HasAlarm, IsSound}
use Rattle.path_lp.specs.Bounding.{IsAbove}

-- each run that ends costs at most this value
abbrev pub IsAboveRuns : {C : Type 0} → System C → Outlined → ℕ → Type 0
IsAboveRuns {C} system o v = (c : C) (trace : List ℕ) (fault : Option RunFault) → system.starts c → Passes system 0 c trace fault → run_cost (costs_of o) trace ≤ v

-- ---- lists

-- the last node
same_last : (xs ys : List ℕ) (a b : ℕ) → xs ++ a ∷ [] ≡ ys ++ b ∷ [] → a ≡ b
same_last xs ys a b same =
    let turned : a ∷ reverse xs ≡ b ∷ reverse ys = sym (reverse-append xs (a ∷ [])) ∙ ap (λ (zs : List ℕ). reverse zs) same ∙ reverse-append ys (b ∷ []) in
    cc

alarm_there : (facts : List Fact) (n : ℕ) (fault : RunFault) → Contains facts (Alarm n fault) → has_alarm facts n ≡ true
alarm_there facts n fault there =
    list_any_at (λ f. is_alarm_at n f) facts there.0 (Alarm n fault) there.1 (ap (λ (f : Fact). is_alarm_at n f) there.2 ∙ eq-eqb n n refl)

-- ---- runs

module _ {T C : Type 0} (m : Machine T C) (o : Outlined) (along : IsAlong T C (shape_of o) m)
    (facts : List Fact) (fit : FitOutline (shape_of o) facts) (v : ℕ) (above : IsAbove o facts v) where
  -- the run is over at its newest node
  over_at : (past : List ℕ) (n : ℕ) (fault : Bool) → IsTrace (shape_of o) (n ∷ past)
      → EndsAt (shape_of o) facts fault (n ∷ past)
      → All (Meets (shape_of o) (reverse past ++ n ∷ [])) facts → run_cost (costs_of o) (reverse past ++ n ∷ []) ≤ v
  over_at past n fault walk ends met =
      let same : reverse (n ∷ past) ≡ reverse past ++ n ∷ [] = reverse-append (n ∷ []) past in
      let most = above.runs fault n past (record { trace = walk; ends = ends }) fit (subst (λ (trace : List ℕ). All (Meets (shape_of o) trace) facts) (sym same) met) in
      let turned : run_cost (costs_of o) (reverse (n ∷ past)) ≡ run_cost (costs_of o) (n ∷ past) =
      sum_by-IsPermutation (λ k. slice_index (costs_of o) k) (n ∷ past) (reverse (n ∷ past)) (IsPermutation-reverse (n ∷ past)) in
      subst (λ (trace : List ℕ). run_cost (costs_of o) trace ≤ v) same (omega (arith, most, turned))

  -- a run that goes on
  follow : (past : List ℕ) {n : ℕ} {c : C} {trace : List ℕ} {fault : Option RunFault} → IsTrace (shape_of o) (n ∷ past)
      → Passes m.system n c trace fault → All (Meets (shape_of o) (reverse past ++ trace)) facts
      → HasAlarm facts (reverse past ++ trace) fault → run_cost (costs_of o) (reverse past ++ trace) ≤ v
  follow past {n} {c} walk (stops {fault = None} way) met alarm = over_at past n false walk (along.ends_along n c way) met
  follow past {n} {c} walk (stops {fault = Some kind} way) met alarm =
      let last : n ≡ alarm.node = same_last (reverse past) alarm.before n alarm.node alarm.last in
      over_at past n true walk (alarm_there facts n kind (subst (λ (k : ℕ). Contains facts (Alarm k kind)) (sym last) alarm.among)) met
  follow past {n} {c} {fault = fault} walk (moves {k = k} {d = d} {trace = trace} step rest) met alarm =
      let edge = along.goes_along n k c d step in
      let same = in_order past trace n in
      let more : IsTrace (shape_of o) (k ∷ n ∷ past) = (edge.0, edge.1, walk) in
      let most = follow (n ∷ past) more rest (subst (λ (nodes : List ℕ). All (Meets (shape_of o) nodes) facts) (sym same) met)
      (subst (λ (nodes : List ℕ). HasAlarm facts nodes fault) (sym same) alarm) in
      subst (λ (nodes : List ℕ). run_cost (costs_of o) nodes ≤ v) same most

-- so it is of a value that no run that meets the facts passes
pub bound_above : {T C : Type 0} (m : Machine T C) (o : Outlined) (report : Reported) (v : ℕ)
    → IsAlong T C (shape_of o) m → IsSound m.system o report → FitOutline (shape_of o) report.facts → IsAbove o report.facts v → IsAboveRuns m.system o v
bound_above m o report v along sound fit above = λ c trace fault starts passes.
    let right = sound.right c trace fault starts passes in
    follow m o along report.facts fit v above [] refl passes right.facts right.alarm
