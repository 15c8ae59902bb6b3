-- Checks by two machines that answer alike: one answer.
--   events_beside    events of the one are events of the other
--   checked_beside   an answer by the one is one by the other
use Rattle.std.proofs.Common.{◌≡◌, ℕ, List, [], ◌∷◌, take, Option, Some, refl, sym, ap, ◌∙◌, subst}
use Rattle.std.specs.List.{AllZip}
use Rattle.domain_core.specs.declared.event.Event.{Event}
use Rattle.domain_core.specs.Orders.{Order}
use Rattle.domain_core.specs.Outlines.{Outlined, shape_of}
use Rattle.domain_core.specs.Machines.{Machine}
use Rattle.flow_facts.specs.Reports.{Certificate, Reported}
use Rattle.recorder_rules.specs.LoopRules.{own_of}
use Rattle.worklist_rules.specs.Pools.{Spot, Pooled}
use Rattle.worklist_rules.specs.Events.{opened, HappenAll, IsOneOn}
use Rattle.worklist_rules.specs.EventLaws.{event_one_on}
use Rattle.ipet_rows.specs.Firsts.{or_else}
use Rattle.report_soundness.specs.ReportTold.{FourRecorders, FourBooks, four_order, four_recording, found_of}
use Rattle.report_objections.specs.declared.objection.Objection.{Objection}
use Rattle.report_objections.specs.declared.objection.Objection.TheVariants as objections
use Rattle.report_objections.specs.Objecting.{left_objection, found_objection, end_objection}
use Rattle.report_objections.specs.Checks.{IsAllowed, IsChecked, uncertified, unshaped, refused, applied}
use Rattle.program_analysis.specs.TwinRuns.{AreTwins, IsBeside, beside}
use Rattle.program_analysis.specs.TwinRunLaws.{positions_same, event_beside}

module _ {S T C : Type 0} (machine : S → Machine T C) (states : Order T) (Twin : T → T → Type 0) (other : S) where
  -- what events make of the pool beside
  pub record HappenAlso (old new : Pooled S T FourRecorders FourBooks) (spots : List (Spot T FourRecorders)) (events : List Event) : Type 0 where
    pub others : List (Spot T FourRecorders)
    pub beside_new : AllZip (IsBeside Twin) new.spots others
    pub happen : HappenAll machine states four_order four_recording (beside old other spots) events (beside new other others)

  -- events of the one are events of the other
  pub events_beside : (events : List Event) (old new : Pooled S T FourRecorders FourBooks) (spots : List (Spot T FourRecorders)) → AreTwins (machine old.stepper) (machine other) states Twin
      → AllZip (IsBeside Twin) old.spots spots → HappenAll machine states four_order four_recording old events new → HappenAlso old new spots events
  events_beside [] old new spots twins h is = record {
    others = spots;
    beside_new = subst (λ (w : Pooled S T FourRecorders FourBooks). AllZip (IsBeside Twin) w.spots spots) (sym is) h;
    happen = ap (λ (w : Pooled S T FourRecorders FourBooks). beside w other spots) is;
  }
  events_beside (event ∷ events) old new spots twins h (mid, happens, rest) =
      let one = event_beside machine states four_order four_recording Twin other old mid spots event twins h happens in
      let on : IsOneOn old mid = event_one_on machine states four_order four_recording old mid event happens in
      let after = events_beside events mid new one.others (subst (λ (s : S). AreTwins (machine s) (machine other) states Twin) (sym on.stepper) twins) one.beside_new rest in
      record { others = after.others; beside_new = after.beside_new; happen = (beside mid other one.others, one.happens, after.happen) }

  left_same : (o : Outlined) (xs ys : List (Spot T FourRecorders)) → AllZip (IsBeside Twin) xs ys
      → left_objection o xs ≡ left_objection o ys
  left_same o [] [] h = refl
  left_same o [] (y ∷ ys) h = absurd h
  left_same o (x ∷ xs) [] h = absurd h
  left_same o (x ∷ xs) (y ∷ ys) h = ap (λ (spot : Spot T FourRecorders). Some (objections.NoEnd (own_of (shape_of o) spot.node))) (sym h.0.2)

  end_same : (w : Pooled S T FourRecorders FourBooks) (others : List (Spot T FourRecorders)) (report : Reported) (cert : Certificate) → AllZip (IsBeside Twin) w.spots others
      → end_objection w report cert ≡ end_objection (beside w other others) report cert
  end_same w others report cert h = ap (λ (t : Option Objection). or_else t (found_objection w.outline (found_of w) report cert)) (left_same w.outline w.spots others h)

  -- an answer by the one is one by the other
  pub checked_beside : (stepper : S) (o : Outlined) (report : Reported) (answer : Option Objection)
      → AreTwins (machine stepper) (machine other) states Twin
      → Twin (machine stepper).first (machine other).first → IsChecked machine states stepper o report answer → IsChecked machine states other o report answer
  checked_beside stepper o report answer twins twin (uncertified absent is) = uncertified absent is
  checked_beside stepper o report answer twins twin (unshaped cert there less is) = unshaped cert there less is
  checked_beside stepper o report answer twins twin (refused cert k event w there shape found happen never is) =
      let also = events_beside (take k cert.events) (opened machine four_recording stepper o) w (opened machine four_recording other o).spots twins (((machine other).first, twin, refl), tt) happen in
      refused cert k event (beside w other also.others) there shape found also.happen
      (λ allowed. never (subst (λ (ps : List (List ℕ)). IsAllowed ps event) (sym (positions_same Twin w.spots also.others also.beside_new)) allowed)) is
  checked_beside stepper o report answer twins twin (applied cert w there shape happen is) =
      let also = events_beside cert.events (opened machine four_recording stepper o) w (opened machine four_recording other o).spots twins (((machine other).first, twin, refl), tt) happen in
      applied cert (beside w other also.others) there shape also.happen (is ∙ end_same w also.others report cert also.beside_new)
