-- What the report of an exploration promises of runs.
--   line_is_met      a run that was collected meets each line
--   met_bound        and costs no more than the count bound
--   sound_report     where no place is left, the report is sound
use Rattle.std.proofs.Common.{◌≡◌, ◌<◌, ◌≤◌, ◌+◌, ◌*◌, ℕ, List, [], ◌∷◌, Option, Some, Bool, true, false, cond, length, reverse, All, Contains, refl, sym, ap, ◌∙◌, subst, arith}
use Rattle.std.specs.Prelude.{slice_index, slice_index_or}
use Rattle.std.specs.Option.{option_map_or}
use Rattle.std.proofs.lemmas.Bool.{ne_eqb}
use Rattle.std.proofs.lemmas.Nat.{mul-le}
use Rattle.std.proofs.lemmas.Option.{get_or_from_slice_get}
use Rattle.lists.specs.MemberLaws.{no_member, first_member, further_member, first_or_further, all_members}
use Rattle.lists.specs.TestLaws.{by_test}
use Rattle.domain_core.specs.Outlines.{Outlined, shape_of, IsOutline}
use Rattle.domain_core.specs.OutlineLaws.{of_reverse}
use Rattle.domain_core.specs.Machines.{Machine}
use Rattle.flow_facts.specs.declared.fact.Fact.{Fact}
use Rattle.flow_facts.specs.declared.fact.Fact.TheVariants.{Loop, Count, Dead, Total, Pair, Alarm}
use Rattle.flow_facts.specs.Facts.{Meets}
use Rattle.ipet_rows.specs.Uses.{run_cost}
use Rattle.recorder_rules.specs.Spans.{visits}
use Rattle.recorder_rules.specs.TotalRules.{spread_at}
use Rattle.recorder_rules.specs.BookLaws.{total_bounds}
use Rattle.report_soundness.specs.BookToldLaws.{places_are_visits, turned, told_is_met}
use Rattle.worklist_rules.specs.Pools.{Pooled}
use Rattle.worklist_rules.specs.Runs.{AllStepped, EachIsHandled}
use Rattle.report_soundness.specs.ReportTold.{FourRecorders, FourBooks, four_recording, Found, found_of, is_stepped, told_facts, greatest_total, costs_of, count_bound, told_report}
use Rattle.report_soundness.specs.CollectedLaws.{trace_low, node_in, SummedUp, HoldsOfCollected, collected_sound}
use Rattle.report_soundness.specs.Lines.{IsLine}
use Rattle.report_soundness.specs.Runs.{IsSound}
use Rattle.report_soundness.specs.BelowLaws.{sum_rises}
use Rattle.report_soundness.specs.LineLaws.{told_line, line_told}
use Rattle.report_soundness.specs.CostLaws.{cost_is}

-- a node that is not there has no visit
absent_visits : (n : ℕ) (nodes : List ℕ) → (Contains nodes n → ⊥) → visits n nodes ≡ 0
absent_visits n [] absent = refl
absent_visits n (m ∷ nodes) absent =
    ap (λ (v : Bool). cond v (visits n nodes + 1) (visits n nodes)) (ne_eqb n m (λ (same : n ≡ m). absent (subst (λ (k : ℕ). Contains (m ∷ nodes) k) (sym same) (first_member m nodes))))
    ∙ absent_visits n nodes (λ there. absent (further_member m nodes n there))

-- a visited node was stepped
pub stepped_there : (stepped : List Bool) (past : List ℕ) → AllStepped stepped past → (n : ℕ) → Contains past n
    → slice_index_or stepped n false ≡ true
stepped_there stepped [] all n there = no_member n there
stepped_there stepped (m ∷ past) all n there =
    first_or_further m past n there
    (λ same. subst (λ (k : ℕ). slice_index_or stepped k false ≡ true) same (get_or_from_slice_get stepped m true false all.0))
    (λ older. stepped_there stepped past all.1 n older)

pub greatest_is : (v : Bool) (spread : Option (ℕ × ℕ)) (s : ℕ × ℕ) → v ≡ true → spread ≡ Some s
    → cond v (option_map_or (λ span. span.1) spread 0) 0 ≡ s.1
greatest_is v spread s is there = ap (λ (u : Bool). cond u (option_map_or (λ span. span.1) spread 0) 0) is ∙ ap (λ (t : Option (ℕ × ℕ)). option_map_or (λ span. span.1) t 0) there

module _ (o : Outlined) (found : Found) (past : List ℕ) (run : SummedUp o found past) where
  -- a node that was not stepped has no visit
  pub no_visit : (n : ℕ) → is_stepped found n ≡ false → visits n past ≡ 0
  no_visit n never = absent_visits n past (λ there. let bad : true ≡ false = sym (stepped_there found.stepped past run.stepped n there) ∙ never in cc)

  -- the run meets each line
  pub line_is_met : (fact : Fact) → IsLine o found fact → Meets (shape_of o) (reverse past) fact
  line_is_met (Loop s low high) is = told_is_met o run.kept found.books past run.books (Loop s low high) is.1
  line_is_met (Count s n low high) (within, stepped, counted, span) = told_is_met o run.kept found.books past run.books (Count s n low high) (span, counted)
  line_is_met (Dead n) is = turned n past ∙ no_visit n is.1
  line_is_met (Total n low high) is = told_is_met o run.kept found.books past run.books (Total n low high) is.1
  line_is_met (Pair s a b) is = told_is_met o run.kept found.books past run.books (Pair s a b) is.1.apart
  line_is_met (Alarm n fault) is = tt

  pub facts_are_met : All (Meets (shape_of o) (reverse past)) (told_facts o found)
  facts_are_met = all_members (Meets (shape_of o) (reverse past)) (told_facts o found) (λ fact there. line_is_met fact (told_line o found fact there))

  -- no node is visited more often than its greatest total
  visits_low : (n : ℕ) → n < length o.nodes → visits n past ≤ greatest_total found n
  visits_low n low = by_test (is_stepped found n)
      (λ is.
      let bounds = total_bounds o found.books.totals past n run.books.totals low in
      let greatest : greatest_total found n ≡ bounds.span.1 = greatest_is (is_stepped found n) (spread_at found.books.totals n) bounds.span is bounds.is in
      let within = bounds.within.1 in
      omega (arith, greatest, within))
      (λ never. let none = no_visit n never in omega (arith, none))

  pub node_low : (n : ℕ) → Contains (reverse past) n → n < length o.nodes
  node_low n there = node_in o n (trace_low (shape_of o) run.kept past run.walk n (of_reverse past n there))

  -- in the order of the run
  pub visits_turned : (n : ℕ) → visits n (reverse past) ≡ visits n past
  visits_turned n = sym (places_are_visits n (reverse past)) ∙ turned n past

  -- the run costs no more than the count bound
  pub met_bound : run_cost (costs_of o) (reverse past) ≤ count_bound o found
  met_bound =
      let costs = costs_of o in
      let cost = cost_is costs (reverse past) (length o.nodes) node_low in
      let rises = sum_rises (λ n. slice_index costs n * visits n (reverse past)) (λ n. slice_index costs n * greatest_total found n) (length o.nodes)
      (λ n low. mul-le (slice_index costs n) (visits n (reverse past)) (slice_index costs n) (greatest_total found n) (omega arith) (let a = visits_turned n in let b = visits_low n low in omega (arith, a, b))) in
      omega (arith, cost, rises)

-- ---- the report

-- the report holds of each run that was collected
told_holds : (o : Outlined) (found : Found) → HoldsOfCollected o found (told_report o found)
told_holds o found = record {
  facts = facts_are_met o found;
  bound = met_bound o found;
  alarms = λ n fault low told. line_told o found (Alarm n fault) (low, told);
}

-- where no place is left, the report is sound
pub sound_report : {S T C : Type 0} (machine : S → Machine T C) (w : Pooled S T FourRecorders FourBooks)
    → IsOutline (shape_of w.outline) → EachIsHandled machine four_recording w → w.spots ≡ []
    → IsSound (machine w.stepper).system w.outline (told_report w.outline (found_of w))
sound_report machine w ok handled empty = collected_sound machine w (told_report w.outline (found_of w)) ok handled empty (told_holds w.outline (found_of w))
