-- Checks along two outlines of one shape, with the same names and costs: one answer.
--   checked_along      an answer along the one is one along the other
use Rattle.std.proofs.Common.{◌≡◌, ◌<◌, ℕ, List, [], ◌∷◌, take, length, Option, Some, None, refl, sym, ap, ◌∙◌, subst}
use Rattle.std.specs.Prelude.{sum_by, nat_lt, if◌then◌else◌}
use Rattle.domain_core.specs.declared.event.Event.{Event}
use Rattle.domain_core.specs.Orders.{Order}
use Rattle.domain_core.specs.Outlines.{Outlined, Shape, shape_of}
use Rattle.domain_core.specs.Machines.{Machine}
use Rattle.flow_facts.specs.Reports.{Certificate, Reported}
use Rattle.ipet_rows.specs.Programs.{Program}
use Rattle.ipet_rows.specs.Rows.{program_of}
use Rattle.ipet_rows.specs.Shaped.{FitOutline}
use Rattle.recorder_rules.specs.LoopRules.{own_of}
use Rattle.worklist_rules.specs.Pools.{Spot, Pooled, alarm_at}
use Rattle.worklist_rules.specs.Events.{opened, HappenAll, IsOneOn}
use Rattle.worklist_rules.specs.EventLaws.{event_one_on}
use Rattle.ipet_rows.specs.Firsts.{first, or_else}
use Rattle.ipet_rows.specs.Verdicts.{verdict}
use Rattle.report_soundness.specs.ReportTold.{FourRecorders, FourBooks, four_order, four_recording, Found, found_of, all_faults, costs_of, named_nodes}
use Rattle.report_soundness.specs.EventLaws.{events_one_on}
use Rattle.report_objections.specs.declared.objection.Objection.{Objection}
use Rattle.report_objections.specs.declared.objection.Objection.TheVariants as objections
use Rattle.report_objections.specs.Shaping.{rows_of, HasShape}
use Rattle.report_objections.specs.Objecting.{line_cost, first_lacking, alarm_objection, fact_objection, count_objection, path_bound_of, verdict_objection, path_objection, left_objection, found_objection, end_objection}
use Rattle.report_objections.specs.Checks.{IsChecked, uncertified, unshaped, refused, applied}
use Rattle.program_analysis.specs.Twins.{AreTwins, along}
use Rattle.program_analysis.specs.TwinLaws.{opened_along, happens_along}
use Rattle.program_analysis.specs.FourTwinLaws.{four_twins}
use Rattle.program_analysis.specs.AnalysisLaws.{AreAlike, same_named}

-- the objection to the count bound, by costs
abbrev count_with : List ℕ → Reported → Option Objection
count_with costs report = if nat_lt report.count_bound (sum_by (λ f. line_cost costs f) report.facts) then Some objections.NoCountBound else None

module _ (o other : Outlined) (alike : AreAlike o other) where
  scopes_same : o.scopes ≡ other.scopes
  scopes_same = ap (λ (s : Shape). s.scopes) alike.shape

  count_same : length o.nodes ≡ length other.nodes
  count_same = (four_twins o other alike.shape).count

  named_same : named_nodes o ≡ named_nodes other
  named_same = same_named o.nodes other.nodes (ap (λ (s : Shape). s.own) alike.shape) alike.costs alike.names

  rows_same : (report : Reported) → rows_of o report.facts ≡ rows_of other report.facts
  rows_same report = ap (λ (s : Shape). program_of s (costs_of o) report.facts) alike.shape ∙ ap (λ (costs : List ℕ). program_of (shape_of other) costs report.facts) alike.costs

  shape_along : (report : Reported) (cert : Certificate) → HasShape o report cert → HasShape other report cert
  shape_along report cert is = record {
    shaped = record {
      nodes = is.shaped.nodes ∙ named_same;
      scopes = is.shaped.scopes ∙ scopes_same;
      facts = subst (λ (s : Shape). FitOutline s report.facts) alike.shape is.shaped.facts;
      totals = λ n low. is.shaped.totals n (subst (λ (k : ℕ). n < k) (sym count_same) low);
    };
    multipliers = is.multipliers ∙ ap (λ (p : Program). length p.rows) (rows_same report);
  }

  found_along : (found : Found) (report : Reported) (cert : Certificate)
      → found_objection o found report cert ≡ found_objection other found report cert
  found_along found report cert =
      let alarm : alarm_objection o found report.facts ≡ alarm_objection other found report.facts =
      ap (λ (k : ℕ). first k (λ n. first_lacking report.facts (alarm_at found.alarms n) n all_faults)) count_same in
      let count : count_objection o report ≡ count_objection other report = ap (λ (costs : List ℕ). count_with costs report) alike.costs in
      let path : path_objection o report cert ≡ path_objection other report cert =
      ap (λ (p : Program). verdict_objection (verdict p cert.scale cert.multipliers (path_bound_of report))) (rows_same report) in
      ap (λ (t : Option Objection). or_else t (or_else (fact_objection found report) (or_else (count_objection o report) (path_objection o report cert)))) alarm
      ∙ ap (λ (t : Option Objection). or_else (alarm_objection other found report.facts) (or_else (fact_objection found report) (or_else t (path_objection o report cert)))) count
      ∙ ap (λ (t : Option Objection). or_else (alarm_objection other found report.facts) (or_else (fact_objection found report) (or_else (count_objection other report) t))) path

  left_along : {T : Type 0} (spots : List (Spot T FourRecorders)) → left_objection o spots ≡ left_objection other spots
  left_along [] = refl
  left_along (spot ∷ spots) = ap (λ (s : Shape). Some (objections.NoEnd (own_of s spot.node))) alike.shape

-- ---- events

module _ {S T C : Type 0} (machine : S → Machine T C) (states : Order T) where
  pub events_along : (events : List Event) (old new : Pooled S T FourRecorders FourBooks) (other : Outlined)
      → AreTwins four_recording old.outline other
      → HappenAll machine states four_order four_recording old events new
      → HappenAll machine states four_order four_recording (along old other) events (along new other)
  events_along [] old new other twins is = ap (λ (w : Pooled S T FourRecorders FourBooks). along w other) is
  events_along (event ∷ events) old new other twins (mid, happens, rest) =
      let on : IsOneOn old mid = event_one_on machine states four_order four_recording old mid event happens in (
        along mid other,
        happens_along machine states four_order four_recording old mid other event twins happens,
        events_along events mid new other (subst (λ (o : Outlined). AreTwins four_recording o other) (sym on.outline) twins) rest,
      )

  happen_along : (events : List Event) (stepper : S) (o other : Outlined) (w : Pooled S T FourRecorders FourBooks)
      → AreAlike o other
      → HappenAll machine states four_order four_recording (opened machine four_recording stepper o) events w
      → HappenAll machine states four_order four_recording (opened machine four_recording stepper other) events (along w other)
  happen_along events stepper o other w alike happen =
      let twins = four_twins o other alike.shape in
      subst (λ (p : Pooled S T FourRecorders FourBooks). HappenAll machine states four_order four_recording p events (along w other))
      (opened_along machine states four_order four_recording stepper o other twins)
      (events_along events (opened machine four_recording stepper o) w other twins happen)

  end_along : (events : List Event) (stepper : S) (o other : Outlined) (w : Pooled S T FourRecorders FourBooks) (report : Reported) (cert : Certificate) → AreAlike o other
      → w.outline ≡ o → end_objection w report cert ≡ end_objection (along w other) report cert
  end_along events stepper o other w report cert alike same =
      let alike_here : AreAlike w.outline other = subst (λ (p : Outlined). AreAlike p other) (sym same) alike in
      ap (λ (t : Option Objection). or_else t (found_objection w.outline (found_of w) report cert)) (left_along w.outline other alike_here w.spots)
      ∙ ap (λ (t : Option Objection). or_else (left_objection other w.spots) t) (found_along w.outline other alike_here (found_of w) report cert)

  -- an answer along the one is one along the other
  pub checked_along : (stepper : S) (o other : Outlined) (report : Reported) (answer : Option Objection)
      → AreAlike o other → IsChecked machine states stepper o report answer
      → IsChecked machine states stepper other report answer
  checked_along stepper o other report answer alike (uncertified absent is) = uncertified absent is
  checked_along stepper o other report answer alike (unshaped cert there less is) =
      unshaped cert there (λ shape. less (shape_along other o (record { shape = sym alike.shape; costs = sym alike.costs; names = sym alike.names }) report cert shape)) is
  checked_along stepper o other report answer alike (refused cert k event w there shape found happen never is) =
      refused cert k event (along w other) there (shape_along o other alike report cert shape) found (happen_along (take k cert.events) stepper o other w alike happen) never is
  checked_along stepper o other report answer alike (applied cert w there shape happen is) =
      let same = (events_one_on machine states cert.events (opened machine four_recording stepper o) w happen).outline in
      applied cert (along w other) there (shape_along o other alike report cert shape) (happen_along cert.events stepper o other w alike happen)
      (is ∙ end_along cert.events stepper o other w report cert alike same)
