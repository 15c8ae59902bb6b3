-- Where a system has one start, a closed exploration tells exactly the run that passes through its trace.
--   only_fault    a set of one fault has no other
--   lone_report   the report of the pool tells exactly the run
use Rattle.std.proofs.Common.{◌≡◌, ◌≢◌, ◌==◌, ◌↔◌, ℕ, suc, List, [], ◌∷◌, Option, Some, None, true, false, reverse, slice_get, Contains, inl, inr, refl, sym, ap, ◌∙◌, subst}
use Rattle.std.proofs.lemmas.Bool.{eqb-true, eq-eqb}
use Rattle.std.proofs.lemmas.Option.{none-some, same_Some}
use Rattle.lists.specs.MemberLaws.{no_member, first_member}
use Rattle.lists.specs.TestLaws.{by_test}
use Rattle.graph_walks.specs.ListLaws.{same_or_not}
use Rattle.alf_ops.specs.declared.history.RunFault.{RunFault}
use Rattle.domain_core.specs.declared.event.Event.{Event}
use Rattle.domain_core.specs.declared.fault_set.FaultSet.{FaultSet}
use Rattle.domain_core.specs.FaultSets.{has_fault, no_faults, with_fault}
use Rattle.domain_core.specs.FaultLaws.{is_empty, is_new, is_kept}
use Rattle.domain_core.specs.Orders.{Order, IsOrder}
use Rattle.domain_core.specs.Outlines.{Outlined, IsOutline, shape_of}
use Rattle.domain_core.specs.Machines.{System, Machine, IsMachine, IsAlong}
use Rattle.flow_facts.specs.declared.fact.Fact.TheVariants.{Alarm}
use Rattle.flow_facts.specs.Writable.{fault_code}
use Rattle.flow_facts.specs.OrderLaws.{one_before, never_itself}
use Rattle.std.specs.Cmp.Lexicographic.{slice_cmp}
use Rattle.std.specs.Ordering.{nat_cmp}
use Rattle.std.specs.declared.cmp.Ordering.TheVariants.{Less}
use Rattle.worklist_rules.specs.Pools.{Spot, Pooled, alarm_at}
use Rattle.worklist_rules.specs.Events.{opened, HappenAll}
use Rattle.worklist_rules.specs.EventLaws.{start_kept}
use Rattle.domain_core.specs.SystemRuns.{trace_to}
use Rattle.worklist_rules.specs.Sharp.{IsSharp, IsSharpOver}
use Rattle.worklist_rules.specs.SharpLaws.{sharp_start, sharp_events}
use Rattle.report_soundness.specs.ReportTold.{FourRecorders, FourBooks, four_order, four_recording, found_of, told_report}
use Rattle.worklist_rules.specs.EndedRuns.{EndsWith, Passes}
use Rattle.report_soundness.specs.Exact.{IsExact, LoneRun}
use Rattle.report_soundness.specs.EventLaws.{four_is_order, four_is_recording, four_suited, four_kept, events_one_on}
use Rattle.report_soundness.specs.PointLaws.{points, is_run, ends_so, trace_is}
use Rattle.report_soundness.specs.ExactLaws.{Alone, exact_report}

-- ---- faults

-- two faults of one number are one
same_fault : (a b : RunFault) → fault_code a ≡ fault_code b → a ≡ b
same_fault a b same =
    elim (one_before (Alarm 0 a) (Alarm 0 b)) [
      | inl is ↦ cc
      | inr other ↦ elim other [
        | inl before ↦ absurd (never_itself (Alarm 0 a) (subst (λ (k : ℕ). slice_cmp nat_cmp (5 ∷ 0 ∷ fault_code a ∷ []) (5 ∷ 0 ∷ k ∷ []) ≡ Less) (sym same) before))
        | inr after ↦ absurd (never_itself (Alarm 0 a) (subst (λ (k : ℕ). slice_cmp nat_cmp (5 ∷ 0 ∷ k ∷ []) (5 ∷ 0 ∷ fault_code a ∷ []) ≡ Less) (sym same) after))
      ]
    ]

-- a set of one fault has no other
only_fault : (a b : RunFault) → has_fault (with_fault no_faults a) b ≡ true → a ≡ b
only_fault a b there = by_test (fault_code a == fault_code b)
    (λ hit. same_fault a b (eqb-true (fault_code a) (fault_code b) hit))
    (λ miss.
    let other : a ≢ b = λ (same : a ≡ b). (let hit = eq-eqb (fault_code a) (fault_code b) (ap fault_code same) in let bad : true ≡ false = sym hit ∙ miss in cc) in
    absurd (let bad : true ≡ false = sym there ∙ is_kept no_faults a b other ∙ is_empty b in cc))

-- ---- pools

-- which faults are told at a node
abbrev ToldAt : List FaultSet → ℕ → Option RunFault → Type 0
ToldAt alarms n fault = (k : ℕ) (kind : RunFault) → (has_fault (alarm_at alarms k) kind ≡ true) ↔ ((fault ≡ Some kind) × (k ≡ n))

quiet_told : (alarms : List FaultSet) (n : ℕ) → ((k : ℕ) → alarm_at alarms k ≡ no_faults) → ToldAt alarms n None
quiet_told alarms n quiet k kind =
    (λ there. absurd (let bad : true ≡ false = sym there ∙ ap (λ (set : FaultSet). has_fault set kind) (quiet k) ∙ is_empty kind in cc), λ so. absurd (none-some kind so.0))

one_told : (alarms : List FaultSet) (n : ℕ) (fault : RunFault) → alarm_at alarms n ≡ with_fault no_faults fault
    → ((k : ℕ) → k ≢ n → alarm_at alarms k ≡ no_faults) → ToldAt alarms n (Some fault)
one_told alarms n fault here others k kind = (
  λ there. elim (same_or_not k n) [
    | inl same ↦ (
      ap Some (only_fault fault kind (sym (ap (λ (set : FaultSet). has_fault set kind) (ap (λ (m : ℕ). alarm_at alarms m) same ∙ here)) ∙ there)),
      same,
    )
    | inr other ↦ absurd (let bad : true ≡ false = sym there ∙ ap (λ (set : FaultSet). has_fault set kind) (others k other) ∙ is_empty kind in cc)
  ],
  λ so. ap (λ (set : FaultSet). has_fault set kind) (ap (λ (m : ℕ). alarm_at alarms m) so.1 ∙ here)
      ∙ ap (λ (f : RunFault). has_fault (with_fault no_faults f) kind) (same_Some fault kind so.0) ∙ is_new no_faults kind,
)

module _ {S T C : Type 0} (machine : S → Machine T C) (states : Order T) (events : List Event) (stepper : S) (o : Outlined) (w : Pooled S T FourRecorders FourBooks) (states_laws : IsOrder T states)
    (machine_laws : (s : S) → (machine s).kept → IsMachine T C states (machine s)) (stepper_kept : (machine stepper).kept) (ok : IsOutline (shape_of o)) (along : IsAlong T C (shape_of o) (machine stepper))
    (happen : HappenAll machine states four_order four_recording (opened machine four_recording stepper o) events w) (none : w.spots ≡ []) (c : C) (trace : List ℕ) (fault : Option RunFault)
    (starts : (machine stepper).system.starts c) (alone : (d e : C) → (machine stepper).system.starts d → (machine stepper).system.starts e → e ≡ d)
    (passes : Passes (machine stepper).system 0 c trace fault) where
  abbrev system : System C
  system = (machine stepper).system

  abbrev run : ℕ → Option (ℕ × C)
  run = λ i. slice_get (points (machine stepper).system passes) i

  sharp : IsSharp (machine stepper) four_recording w run
  sharp =
      let laws = machine_laws stepper stepper_kept in
      let begun = start_kept machine states four_order four_recording stepper o laws four_is_recording stepper_kept (four_suited o ok) along in
      let is = is_run system passes starts in
      sharp_events machine states four_order four_recording events stepper (opened machine four_recording stepper o) w run refl states_laws machine_laws four_is_order four_is_recording begun is
      (sharp_start machine states four_order four_recording stepper o run laws four_is_recording (four_suited o ok) is alone)
      happen

  -- the run was over, and ends so
  told_so : (k n : ℕ) (d : C) (ending : Option RunFault) → run k ≡ Some (n, d) → run (suc k) ≡ None
      → IsSharpOver (machine stepper) four_recording w (trace_to run k) n d
      → EndsWith system n d ending → ToldAt w.alarms n ending → LoneRun system o (told_report o (found_of w)) trace
  told_so k n d ending here over is ends told =
      let kept = four_kept machine states events stepper o w states_laws machine_laws stepper_kept ok along happen in
      let same = events_one_on machine states events (opened machine four_recording stepper o) w happen in
      let (loops_sized, (counts_sized, (owned_is, pairs_sized))) = kept.book in
      let one : Alone w.outline (found_of w) (trace_to run k) n ending = record {
        kept = kept.suited.kept;
        walk = is.walk;
        sized = pairs_sized;
        books = record { totals = is.book.0.0; loops = is.book.0.1; counts = is.book.1.0; pairs = is.book.1.1 };
        flags = kept.flags;
        all = is.stepped.all;
        only = is.stepped.only;
        told = told;
      } in
      let exact = exact_report w.outline (found_of w) (trace_to run k) n ending one in
      let in_order : reverse (n ∷ trace_to run k) ≡ trace = trace_is system passes k n d here over in
      record {
        start = c;
        starts = starts;
        fault = ending;
        passes = ends_so system passes k n d ending here over ends;
        exact = subst (λ (p : Outlined). IsExact p (told_report p (found_of w)) trace ending) same.outline
            (subst (λ (nodes : List ℕ). IsExact w.outline (told_report w.outline (found_of w)) nodes ending) in_order exact);
      }

  -- the report of the pool tells exactly the run
  pub lone_report : LoneRun (machine stepper).system o (told_report o (found_of w)) trace
  lone_report =
      elim sharp [
        | inl (k, n, d, here, at) ↦ no_member at.spot (subst (λ (spots : List (Spot T FourRecorders)). Contains spots at.spot) (sym at.one ∙ none) (first_member at.spot []))
        | inr (k, n, d, here, over, is) ↦ elim is.way [
          | inl (ends, quiet) ↦ told_so k n d None here over is ends (quiet_told w.alarms n quiet)
          | inr (kind, fails, at_n, others) ↦ told_so k n d (Some kind) here over is fails (one_told w.alarms n kind at_n others)
        ]
      ]
