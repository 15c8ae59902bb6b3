-- What the parts of a check answer.
--   placed_later   the place of the first that passes, where the first of all does not
--   first_low      the node of the first place is there
--   left_is        the scope of the first place that is left
--   refused_check, applied_check   the answers from the events on
use Rattle.std.proofs.Common.{◌≡◌, ◌<◌, ◌+◌, ℕ, List, [], ◌∷◌, Bool, false, cond, map, length, Option, Some, refl, sym, ap, ◌∙◌, subst}
use Rattle.std.specs.Prelude.{slice_get}
use Rattle.std.specs.Option.{option_map}
use Rattle.std.proofs.lemmas.Option.{none-some, same_Some, slice_get-map, get_or_from_slice_get}
use Rattle.lists.specs.MemberLaws.{contained}
use Rattle.lists.specs.ImageLaws.{mapped_at}
use Rattle.domain_core.specs.declared.event.Event.{Event}
use Rattle.domain_core.specs.declared.outline.NodeRow.{NodeRow}
use Rattle.domain_core.specs.Orders.{Order}
use Rattle.domain_core.specs.Outlines.{Outlined, shape_of}
use Rattle.domain_core.specs.Machines.{Machine}
use Rattle.flow_facts.specs.Reports.{Certificate, Reported}
use Rattle.recorder_rules.specs.LoopRules.{own_of}
use Rattle.worklist_rules.specs.Pools.{Spot, Pooled}
use Rattle.worklist_rules.specs.Events.{opened, HappenAll}
use Rattle.worklist_rules.specs.Kept.{IsKept}
use Rattle.ipet_rows.specs.Firsts.{or_else}
use Rattle.report_soundness.specs.ReportTold.{FourRecorders, FourBooks, four_order, four_recording, found_of}
use Rattle.report_soundness.specs.EventLaws.{events_one_on}
use Rattle.report_objections.specs.declared.objection.Objection.{Objection}
use Rattle.report_objections.specs.declared.objection.Objection.TheVariants as objections
use Rattle.report_objections.specs.Shaping.{HasShape}
use Rattle.report_objections.specs.Objecting.{place_of, left_objection, found_objection, end_objection}
use Rattle.report_objections.specs.Checks.{IsChecked, refused, applied}
use Rattle.report_checks.specs.Applied.{IsRefusedAt}

pub placed_later : {A : Type 0} (p : A → Bool) (b : ℕ) (xs more : List A) (x : A) (answer : Option ℕ) → xs ≡ x ∷ more
    → p x ≡ false → place_of p b xs ≡ answer → place_of p (b + 1) more ≡ answer
placed_later {A} p b xs more x answer split miss is =
    sym (ap (λ (v : Bool). cond v (Some b) (place_of p (b + 1) more)) miss) ∙ sym (ap (λ (zs : List A). place_of p b zs) split) ∙ is

module _ {S T C : Type 0} (machine : S → Machine T C) (w : Pooled S T FourRecorders FourBooks) (n : ℕ) (at : slice_get (map (λ (spot : Spot T FourRecorders). spot.node) w.spots) 0 ≡ Some n) where
  pub first_low : (o : Outlined) → w.outline ≡ o → IsKept machine four_recording w → n < length o.nodes
  first_low o same kept =
      let spot = mapped_at (λ (s : Spot T FourRecorders). s.node) w.spots 0 n at in
      let low = (kept.placed spot.0 (contained w.spots 0 spot.0 spot.1)).in_range in
      subst (λ (p : Outlined). n < length p.nodes) same (subst (λ (k : ℕ). k < length w.outline.nodes) spot.2 low)

left_at : {T : Type 0} (o : Outlined) (spots : List (Spot T FourRecorders)) (n : ℕ) (row : NodeRow)
    → slice_get (map (λ (spot : Spot T FourRecorders). spot.node) spots) 0 ≡ Some n → slice_get o.nodes n ≡ Some row
    → left_objection o spots ≡ Some (objections.NoEnd row.scope)
left_at o [] n row at there = absurd (none-some n at)
left_at o (spot ∷ spots) n row at there =
    let node : spot.node ≡ n = same_Some spot.node n at in
    let scope : own_of (shape_of o) n ≡ row.scope =
    get_or_from_slice_get (map (λ (r : NodeRow). r.scope) o.nodes) n row.scope 0 (slice_get-map (λ (r : NodeRow). r.scope) o.nodes n ∙ ap (λ (t : Option NodeRow). option_map (λ r. r.scope) t) there) in
    ap (λ (k : ℕ). Some (objections.NoEnd (own_of (shape_of o) k))) node ∙ ap (λ (s : ℕ). Some (objections.NoEnd s)) scope

pub left_is : {S T : Type 0} (w : Pooled S T FourRecorders FourBooks) (o : Outlined) (report : Reported) (cert : Certificate) (n : ℕ) (row : NodeRow)
    → slice_get (map (λ (spot : Spot T FourRecorders). spot.node) w.spots) 0 ≡ Some n → w.outline ≡ o → slice_get o.nodes n ≡ Some row
    → Some (objections.NoEnd row.scope) ≡ end_objection w report cert
left_is w o report cert n row at same there =
    let rest = found_objection w.outline (found_of w) report cert in
    sym (ap (λ (t : Option Objection). or_else t rest) (ap (λ (p : Outlined). left_objection p w.spots) same ∙ left_at o w.spots n row at there))

no_places : {S T : Type 0} (w : Pooled S T FourRecorders FourBooks) (o : Outlined) (report : Reported) (cert : Certificate) → w.spots ≡ [] → w.outline ≡ o
    → found_objection o (found_of w) report cert ≡ end_objection w report cert
no_places {T = T} w o report cert none same =
    sym (ap (λ (spots : List (Spot T FourRecorders)). or_else (left_objection w.outline spots) (found_objection w.outline (found_of w) report cert)) none
    ∙ ap (λ (p : Outlined). found_objection p (found_of w) report cert) same)

module _ {S T C : Type 0} (machine : S → Machine T C) (states : Order T) (stepper : S) (o : Outlined) (report : Reported) (cert : Certificate)
    (there : report.cert ≡ Some cert) (shape : HasShape o report cert) (old : Pooled S T FourRecorders FourBooks) (events : List Event)
    (start : old ≡ opened machine four_recording stepper o) (own : events ≡ cert.events) where
  pub refused_check : (w : Pooled S T FourRecorders FourBooks) (k : ℕ) → IsRefusedAt machine states old events k w
      → IsChecked machine states stepper o report (Some (objections.NoEvent k))
  refused_check w k is =
      let here : IsRefusedAt machine states (opened machine four_recording stepper o) cert.events k w =
      subst (λ (p : Pooled S T FourRecorders FourBooks). IsRefusedAt machine states p cert.events k w) start (subst (λ (es : List Event). IsRefusedAt machine states old es k w) own is) in
      refused cert k here.event w there shape here.there here.so_far here.never refl

  all_here : (w : Pooled S T FourRecorders FourBooks) → HappenAll machine states four_order four_recording old events w
      → HappenAll machine states four_order four_recording (opened machine four_recording stepper o) cert.events w
  all_here w happen = subst (λ (p : Pooled S T FourRecorders FourBooks). HappenAll machine states four_order four_recording p cert.events w) start
      (subst (λ (es : List Event). HappenAll machine states four_order four_recording old es w) own happen)

  pub same_outline : (w : Pooled S T FourRecorders FourBooks)
      → HappenAll machine states four_order four_recording old events w → w.outline ≡ o
  same_outline w happen = (events_one_on machine states cert.events (opened machine four_recording stepper o) w (all_here w happen)).outline

  pub applied_check : (w : Pooled S T FourRecorders FourBooks) (answer : Option Objection)
      → HappenAll machine states four_order four_recording old events w → answer ≡ end_objection w report cert
      → IsChecked machine states stepper o report answer
  applied_check w answer happen is = applied cert w there shape (all_here w happen) is
