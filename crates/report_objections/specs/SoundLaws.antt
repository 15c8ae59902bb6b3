-- A report against which nothing speaks is sound.
--   accepted_sound    whatever the events of its certificate
use Rattle.std.proofs.Common.{◌≡◌, ◌<◌, ◌≤◌, ◌+◌, ◌==◌, ◌&&◌, ◌||◌, not, ◌^◌, ◌-◌, ℕ, zero, suc, List, [], ◌∷◌, Bool, true, false, Option, Some, None, cond, length, get_or, map, All, Contains, inl, inr, refl, sym, ap, ◌∙◌, subst, arith}
use Rattle.std.specs.Prelude.{◌<ℤ◌, pos, nat_lt, reverse, IfSome}
use Rattle.std.specs.List.{list_any}
use Rattle.std.specs.Option.{option_map, option_map_or}
use Rattle.std.proofs.lemmas.Bool.{and_parts, ltb-false, eqb-true}
use Rattle.std.proofs.lemmas.List.{length-map}
use Rattle.lists.specs.MemberLaws.{no_member, first_member, further_member, first_or_further, all_members}
use Rattle.lists.specs.TestLaws.{by_test}
use Rattle.graph_walks.specs.ListLaws.{same_or_not}
use Rattle.alf_ops.specs.declared.history.RunFault.{RunFault}
use Rattle.alf_ops.specs.declared.history.RunFault.TheVariants.{Divide, Uninit, Mixed, Bounds, Dead as DeadFrame, Kind, Pointers}
use Rattle.domain_core.specs.declared.fault_set.FaultSet.{FaultSet}
use Rattle.domain_core.specs.FaultSets.{has_fault}
use Rattle.domain_core.specs.Orders.{Order, IsOrder}
use Rattle.domain_core.specs.Outlines.{Outlined, Shape, shape_of, IsOutline}
use Rattle.domain_core.specs.Machines.{System, Machine, IsMachine, IsAlong}
use Rattle.flow_facts.specs.declared.fact.Fact.{Fact}
use Rattle.flow_facts.specs.declared.fact.Fact.TheVariants.{Loop, Count, Dead, Total, Pair, Alarm}
use Rattle.flow_facts.specs.declared.report.BoundWord.{BoundWord}
use Rattle.flow_facts.specs.Facts.{Meets}
use Rattle.flow_facts.specs.Reports.{Certificate, Reported}
use Rattle.flow_facts.specs.Writable.{fault_code}
use Rattle.ipet_rows.specs.Programs.{Program, Row, IsProgram, IsWithin, row_at}
use Rattle.ipet_rows.specs.Columns.{Column, columns_of}
use Rattle.ipet_rows.specs.Weights.{Weighing, weighings}
use Rattle.ipet_rows.specs.Rows.{row_of, cost_of, program_of}
use Rattle.ipet_rows.specs.Shaped.{FitsOutline}
use Rattle.ipet_rows.specs.PathSparseLaws.{terms_within}
use Rattle.ipet_rows.specs.declared.verdict.Verdict.{Verdict}
use Rattle.ipet_rows.specs.declared.verdict.Verdict.TheVariants as verdicts
use Rattle.ipet_rows.specs.Firsts.{first, or_else}
use Rattle.ipet_rows.specs.Bounds.{BoundsAll}
use Rattle.ipet_rows.specs.Verdicts.{verdict}
use Rattle.ipet_rows.specs.VerdictLaws.{holds_bounds}
use Rattle.worklist_rules.specs.Pools.{Spot, Pooled, alarm_at}
use Rattle.worklist_rules.specs.Events.{opened, HappenAll}
use Rattle.worklist_rules.specs.Kept.{IsKept}
use Rattle.report_soundness.specs.ReportTold.{FourRecorders, FourBooks, four_order, four_recording, Found, found_of, all_faults, costs_of}
use Rattle.report_soundness.specs.Runs.{IsSound}
use Rattle.report_soundness.specs.CollectedLaws.{SummedUp, HoldsOfCollected, collected_sound}
use Rattle.report_soundness.specs.EventLaws.{four_kept, events_one_on}
use Rattle.report_objections.specs.declared.objection.Objection.{Objection}
use Rattle.report_objections.specs.declared.objection.Objection.TheVariants as objections
use Rattle.report_objections.specs.Shaping.{rows_of, IsShaped, HasShape}
use Rattle.report_objections.specs.Objecting.{place_of, excludes, first_line, fact_objection, is_alarm, lacks, first_lacking, alarm_objection, most_cost, count_objection, path_bound_of, verdict_objection, path_objection, found_objection, left_objection, end_objection}
use Rattle.report_objections.specs.Checks.{IsChecked, uncertified, unshaped, refused, applied}
use Rattle.report_objections.specs.Accepted.{CostAtMost, IsSoundWithPath, IsScaled}
use Rattle.report_objections.specs.MetLaws.{fact_is_met}
use Rattle.report_objections.specs.CountLaws.{cost_within}
use Rattle.report_objections.specs.PathLaws.{path_above}

-- ---- no answer

or_none : {A : Type 0} (a b : Option A) → or_else a b ≡ None → (a ≡ None) × (b ≡ None)
or_none None b e = (refl, e)
or_none (Some v) b e = absurd cc

first_never : {A : Type 0} (n k : ℕ) (f : ℕ → Option A) → first n f ≡ None → k < n → f k ≡ None
first_never zero k f none low = absurd (omega arith)
first_never (suc n) k f none low =
    let parts = or_none (first n f) (f n) none in
    elim (same_or_not k n) [
      | inl same ↦ ap f same ∙ parts.1
      | inr other ↦ first_never n k f parts.0 (omega arith)
    ]

no_image : {A B : Type 0} (f : A → B) (o : Option A) → option_map f o ≡ None → o ≡ None
no_image f None e = refl
no_image f (Some x) e = absurd cc

-- no place passes
never_placed : {A : Type 0} (p : A → Bool) (b : ℕ) (xs : List A) → place_of p b xs ≡ None → (x : A) → Contains xs x
    → p x ≡ false
never_placed p b [] none x there = no_member x there
never_placed p b (y ∷ xs) none x there =
    by_test (p y)
    (λ is. absurd (let bad : Some b ≡ None = sym (ap (λ (v : Bool). cond v (Some b) (place_of p (b + 1) xs)) is) ∙ none in cc))
    (λ is.
    let later : place_of p (b + 1) xs ≡ None = sym (ap (λ (v : Bool). cond v (Some b) (place_of p (b + 1) xs)) is) ∙ none in
    first_or_further y xs x there (λ same. subst (λ (z : _). p z ≡ false) same is) (λ further. never_placed p (b + 1) xs later x further))

-- ---- alarms

-- the fault of a number
fault_at : ℕ → RunFault
fault_at k = cond (k == 30) Divide (cond (k == 31) Uninit (cond (k == 32) Mixed (cond (k == 33) Bounds (cond (k == 34) DeadFrame (cond (k == 35) Kind Pointers)))))

fault_found : (fault : RunFault) → fault_at (fault_code fault) ≡ fault
unfolding fault_at
fault_found Divide = refl
fault_found Uninit = refl
fault_found Mixed = refl
fault_found Bounds = refl
fault_found DeadFrame = refl
fault_found Kind = refl
fault_found Pointers = refl

-- a number is that of one fault
pub same_fault : (f g : RunFault) → fault_code f ≡ fault_code g → f ≡ g
same_fault f g same = sym (fault_found f) ∙ ap fault_at same ∙ fault_found g

-- each fault is among all
among_all : (fault : RunFault) → Contains all_faults fault
among_all Divide = (0, omega arith, refl)
among_all Uninit = (1, omega arith, refl)
among_all Mixed = (2, omega arith, refl)
among_all Bounds = (3, omega arith, refl)
among_all DeadFrame = (4, omega arith, refl)
among_all Kind = (5, omega arith, refl)
among_all Pointers = (6, omega arith, refl)

alarm_is : (n : ℕ) (fault : RunFault) (f : Fact) → is_alarm n fault f ≡ true → f ≡ Alarm n fault
alarm_is n fault (Loop s low high) is = absurd (let bad : false ≡ true = is in cc)
alarm_is n fault (Count s m low high) is = absurd (let bad : false ≡ true = is in cc)
alarm_is n fault (Dead m) is = absurd (let bad : false ≡ true = is in cc)
alarm_is n fault (Total m low high) is = absurd (let bad : false ≡ true = is in cc)
alarm_is n fault (Pair s a b) is = absurd (let bad : false ≡ true = is in cc)
alarm_is n fault (Alarm m other) is =
    let tests = and_parts (n == m) (fault_code fault == fault_code other) is in
    let node : n ≡ m = eqb-true n m tests.0 in
    let same : fault ≡ other = same_fault fault other (eqb-true (fault_code fault) (fault_code other) tests.1) in
    sym (ap (λ (k : ℕ). Alarm k fault) node ∙ ap (λ (g : RunFault). Alarm m g) same)

found_alarm : (n : ℕ) (fault : RunFault) (facts : List Fact) → list_any (λ f. is_alarm n fault f) facts ≡ true
    → Contains facts (Alarm n fault)
found_alarm n fault [] is = absurd (let bad : false ≡ true = is in cc)
found_alarm n fault (f ∷ facts) is =
    by_test (is_alarm n fault f)
    (λ here. subst (λ (g : Fact). Contains (f ∷ facts) g) (alarm_is n fault f here) (first_member f facts))
    (λ other. further_member f facts (Alarm n fault) (found_alarm n fault facts (sym (ap (λ (v : Bool). v || list_any (λ g. is_alarm n fault g) facts) other) ∙ is)))

none_lacking : (facts : List Fact) (set : FaultSet) (n : ℕ) (faults : List RunFault)
    → first_lacking facts set n faults ≡ None → (fault : RunFault) → Contains faults fault
    → lacks facts set n fault ≡ false
none_lacking facts set n [] none fault there = no_member fault there
none_lacking facts set n (first ∷ more) none fault there =
    by_test (lacks facts set n first)
    (λ is. absurd (let bad : Some (objections.NoAlarm n first) ≡ None = sym (ap (λ (v : Bool). cond v (Some (objections.NoAlarm n first)) (first_lacking facts set n more)) is) ∙ none in cc))
    (λ is.
    let later : first_lacking facts set n more ≡ None = sym (ap (λ (v : Bool). cond v (Some (objections.NoAlarm n first)) (first_lacking facts set n more)) is) ∙ none in
    first_or_further first more fault there (λ same. subst (λ (g : RunFault). lacks facts set n g ≡ false) same is) (λ further. none_lacking facts set n more later fault further))

-- a fault that was told and does not lack an alarm has one
has_it : (told there : Bool) → told ≡ true → (told && not there) ≡ false → there ≡ true
has_it true true is none = refl
has_it true false is none = absurd (let bad : true ≡ false = none in cc)
has_it false there is none = absurd (let bad : false ≡ true = is in cc)

alarms_told : (o : Outlined) (found : Found) (facts : List Fact) → alarm_objection o found facts ≡ None
    → (n : ℕ) (fault : RunFault) → n < length o.nodes
    → has_fault (alarm_at found.alarms n) fault ≡ true → Contains facts (Alarm n fault)
alarms_told o found facts none n fault low told =
    let here = first_never (length o.nodes) n (λ m. first_lacking facts (alarm_at found.alarms m) m all_faults) none low in
    let not_lacking = none_lacking facts (alarm_at found.alarms n) n all_faults here fault (among_all fault) in
    found_alarm n fault facts (has_it (has_fault (alarm_at found.alarms n) fault) (list_any (λ f. is_alarm n fault f) facts) told not_lacking)

-- ---- bounds

count_fits : (o : Outlined) (report : Reported) → count_objection o report ≡ None
    → most_cost o report.facts ≤ report.count_bound
count_fits o report none =
    by_test (nat_lt report.count_bound (most_cost o report.facts))
    (λ is. absurd (let bad : Some objections.NoCountBound ≡ None = sym (ap (λ (v : Bool). cond v (Some objections.NoCountBound) None) is) ∙ none in cc))
    (λ is. ltb-false report.count_bound (most_cost o report.facts) is)

record Holding (w : Verdict) : Type 0 where
  value : ℕ
  is : w ≡ verdicts.Holds value

verdict_holds : (w : Verdict) → verdict_objection w ≡ None → Holding w
verdict_holds (verdicts.Holds v) none = record { value = v; is = refl }
verdict_holds (verdicts.Negative k) none = absurd cc
verdict_holds (verdicts.Wide k) none = absurd cc
verdict_holds (verdicts.Column e) none = absurd cc
verdict_holds (verdicts.Bound v) none = absurd cc

-- the program of an outline and facts is one of its columns
rows_within : (columns : List Column) (ws : List Weighing) (n k : ℕ) → n ≡ length columns
    → IsWithin n (row_at (map (λ w. row_of columns w) ws) k).terms
rows_within columns [] n k is = tt
rows_within columns (w ∷ ws) n zero is = terms_within w.weight 0 n columns (omega (arith, is))
rows_within columns (w ∷ ws) n (suc k) is = rows_within columns ws n k is

program_within : (o : Shape) (costs : List ℕ) (facts : List Fact) → IsProgram (program_of o costs facts)
program_within o costs facts k = rows_within (columns_of o facts) (weighings o facts) (length (map (λ c. cost_of costs c) (columns_of o facts))) k (length-map (columns_of o facts) (λ c. cost_of costs c))

none_left : {T R : Type 0} (o : Outlined) (spots : List (Spot T R)) → left_objection o spots ≡ None → spots ≡ []
none_left o [] none = refl
none_left o (spot ∷ spots) none = absurd cc

-- ---- the report

module _ {S T C : Type 0} (machine : S → Machine T C) (w : Pooled S T FourRecorders FourBooks) (report : Reported) (cert : Certificate)
    (kept : IsKept machine four_recording w) (shape : HasShape w.outline report cert) (scaled : pos 0 <ℤ cert.scale) (none : end_objection w report cert ≡ None) where
  left : (left_objection w.outline w.spots ≡ None) × (found_objection w.outline (found_of w) report cert ≡ None)
  left = or_none (left_objection w.outline w.spots) (found_objection w.outline (found_of w) report cert) none

  alarms : (alarm_objection w.outline (found_of w) report.facts ≡ None) × (or_else (fact_objection (found_of w) report) (or_else (count_objection w.outline report) (path_objection w.outline report cert)) ≡ None)
  alarms = or_none (alarm_objection w.outline (found_of w) report.facts) (or_else (fact_objection (found_of w) report) (or_else (count_objection w.outline report) (path_objection w.outline report cert))) left.1

  facts : (fact_objection (found_of w) report ≡ None)
      × (or_else (count_objection w.outline report) (path_objection w.outline report cert) ≡ None)
  facts = or_none (fact_objection (found_of w) report) (or_else (count_objection w.outline report) (path_objection w.outline report cert)) alarms.1

  bounds : (count_objection w.outline report ≡ None) × (path_objection w.outline report cert ≡ None)
  bounds = or_none (count_objection w.outline report) (path_objection w.outline report cert) facts.1

  ok : IsOutline (shape_of w.outline)
  ok = kept.suited.kept

  free : (f : Fact) → Contains report.facts f → excludes (found_of w) f ≡ false
  free f there = never_placed (λ g. excludes (found_of w) g) (first_line report) report.facts (no_image (λ line. objections.NoFact line) (place_of (λ g. excludes (found_of w) g) (first_line report) report.facts) facts.0) f there

  fits : (f : Fact) → Contains report.facts f → FitsOutline (shape_of w.outline) f
  fits f there = subst (λ (g : Fact). FitsOutline (shape_of w.outline) g) there.2 (shape.shaped.facts there.0 f there.1)

  facts_met : (past : List ℕ) → SummedUp w.outline (found_of w) past
      → All (Meets (shape_of w.outline) (reverse past)) report.facts
  facts_met past run = all_members (Meets (shape_of w.outline) (reverse past)) report.facts (λ f there. fact_is_met w.outline (found_of w) past run f (fits f there) (free f there))

  holds : HoldsOfCollected w.outline (found_of w) report
  holds = record {
    facts = facts_met;
    bound = λ past run.
        let within = cost_within w.outline (found_of w) past report.facts run shape.shaped.facts shape.shaped.totals (facts_met past run) in
        let most = count_fits w.outline report bounds.0 in
        omega (arith, within, most);
    alarms = alarms_told w.outline (found_of w) report.facts alarms.0;
  }

  sound_here : IsSound (machine w.stepper).system w.outline report
  sound_here = collected_sound machine w report ok kept.handled (none_left w.outline w.spots left.0) holds

  path_here : CostAtMost (machine w.stepper).system w.outline (path_bound_of report)
  path_here =
      let program = (rows_of w.outline report.facts) in
      let held = verdict_holds (verdict program cert.scale cert.multipliers (path_bound_of report)) bounds.1 in
      let all : BoundsAll program held.value (path_bound_of report) =
      holds_bounds program cert.scale cert.multipliers (path_bound_of report) held.value (program_within (shape_of w.outline) (costs_of w.outline) report.facts) scaled held.is in
      path_above (machine w.stepper) w.outline report held.value (path_bound_of report) ok kept.along sound_here shape.shaped.facts all

  sound_end : IsSoundWithPath (machine w.stepper).system w.outline report
  sound_end = record { sound = sound_here; path = by report.path_bound path_here }
    where
      by : (t : Option (ℕ × BoundWord))
          → CostAtMost (machine w.stepper).system w.outline (option_map_or (λ b. b.0) t (2 ^ 64 - 1))
          → IfSome t (λ b. CostAtMost (machine w.stepper).system w.outline b.0)
      by None at_most = tt
      by (Some b) at_most = at_most

no_answer : {A : Type 0} (x : Option A) (y : A) → x ≡ None → x ≡ Some y → ⊥
no_answer x y none some = let bad : None ≡ Some y = sym none ∙ some in cc

-- a report against which nothing speaks is sound, whatever the events of its certificate
pub accepted_sound : {S T C : Type 0} (machine : S → Machine T C) (states : Order T) (stepper : S) (o : Outlined) (report : Reported)
    → IsOrder T states → ((s : S) → (machine s).kept → IsMachine T C states (machine s)) → (machine stepper).kept → IsOutline (shape_of o) → IsAlong T C (shape_of o) (machine stepper)
    → IsScaled report → (answer : Option Objection) → answer ≡ None → IsChecked machine states stepper o report answer → IsSoundWithPath (machine stepper).system o report
accepted_sound machine states stepper o report states_laws machine_laws stepper_kept ok along scaled answer none (uncertified absent is) = absurd (no_answer answer objections.NoCertificate none is)
accepted_sound machine states stepper o report states_laws machine_laws stepper_kept ok along scaled answer none (unshaped cert there shapeless is) = absurd (no_answer answer objections.NoShape none is)
accepted_sound machine states stepper o report states_laws machine_laws stepper_kept ok along scaled answer none (refused cert k event w there shape found happen never is) =
    absurd (no_answer answer (objections.NoEvent k) none is)
accepted_sound {S = S} machine states stepper o report states_laws machine_laws stepper_kept ok along scaled answer none (applied cert w there shape happen is) =
    let kept = four_kept machine states cert.events stepper o w states_laws machine_laws stepper_kept ok along happen in
    let same = events_one_on machine states cert.events (opened machine four_recording stepper o) w happen in
    let at_least : pos 0 <ℤ cert.scale = subst (λ (t : Option Certificate). IfSome t (λ c. pos 0 <ℤ c.scale)) there scaled in
    let here = sound_end machine w report cert kept (subst (λ (p : Outlined). HasShape p report cert) (sym same.outline) shape) at_least (sym is ∙ none) in
    subst (λ (p : Outlined). IsSoundWithPath (machine stepper).system p report) same.outline
    (subst (λ (s : S). IsSoundWithPath (machine s).system w.outline report) same.stepper here)
