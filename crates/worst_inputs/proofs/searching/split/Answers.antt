use Rattle.std.proofs.Common.{ℕ, List, sym, subst, rules}
use Rattle.std.specs.Global.{Vec}
use Rattle.worst_inputs.specs.declared.area.Range.{Range}
use Rattle.worst_inputs.specs.declared.bounder.Bounded.TheVariants.{At}
use Rattle.worst_inputs.specs.Boxes.{IsCutAt}
use Rattle.worst_inputs.specs.Searches.{seen_box, seen_boxes, IsLeftOf}
use Rattle.worst_inputs.proofs.Cutting.{lower_suits, upper_suits, split_here, lower_stopped, upper_stopped}
use Rattle.worst_inputs.proofs.searching.split.Goals as goal

pub bounded-requires : goal.bounded-requires
bounded-requires g c =
    let at = subst (λ (ps : List (Vec Range × ℕ)). IsCutAt (seen_boxes ps) c.in_ok-place.place c.in_ok-place.lower.items c.in_ok-place.upper.items) c.deref.ensures.value c.in_ok-place.ensures in
    lower_suits (g.B.Bounder.bounding (g.B.Bounder.named c.args.bounder.now)) (g.met.B.Bounder.is_bounding (g.B.Bounder.named c.args.bounder.now)) (seen_boxes c.args.boxes.now.items) c.requires.made c.requires.more
    c.in_ok-place.place c.in_ok-place.lower.items c.in_ok-place.upper.items at

pub bounded-requires-2 : goal.bounded-requires-2
bounded-requires-2 g c =
    let at = subst (λ (ps : List (Vec Range × ℕ)). IsCutAt (seen_boxes ps) c.in_ok-place.place c.in_ok-place.lower.items c.in_ok-place.upper.items) c.deref.ensures.value c.in_ok-place.ensures in
    subst (λ (n : g.B.Bounder.Named). (g.B.Bounder.bounding n).suits c.in_ok-place.upper.items) (sym c.bounded.ensures.unchanged)
    (upper_suits (g.B.Bounder.bounding (g.B.Bounder.named c.args.bounder.now)) (g.met.B.Bounder.is_bounding (g.B.Bounder.named c.args.bounder.now)) (seen_boxes c.args.boxes.now.items) c.requires.made c.requires.more
    c.in_ok-place.place c.in_ok-place.lower.items c.in_ok-place.upper.items at)

pub returns-in_err-lower-clause-stopped : goal.returns-in_err-lower-clause-stopped
returns-in_err-lower-clause-stopped g c =
    let at = subst (λ (ps : List (Vec Range × ℕ)). IsCutAt (seen_boxes ps) c.in_ok-place.place c.in_ok-place.lower.items c.in_ok-place.upper.items) c.deref.ensures.value c.in_ok-place.ensures in
    let stopped = lower_stopped (g.B.Bounder.bounding (g.B.Bounder.named c.args.bounder.now)).answers (seen_boxes c.args.boxes.now.items)
    c.in_ok-place.place c.in_ok-place.lower.items c.in_ok-place.upper.items at c.in_err-lower.field-0.0 c.in_err-lower.ensures.left in
    search rules

pub returns-in_err-upper-clause-stopped : goal.returns-in_err-upper-clause-stopped
returns-in_err-upper-clause-stopped g c =
    let at = subst (λ (ps : List (Vec Range × ℕ)). IsCutAt (seen_boxes ps) c.in_ok-place.place c.in_ok-place.lower.items c.in_ok-place.upper.items) c.deref.ensures.value c.in_ok-place.ensures in
    let left = subst (λ (n : g.B.Bounder.Named). IsLeftOf (g.B.Bounder.bounding n).answers c.in_ok-place.upper.items c.in_err-upper.field-0.0) c.bounded.ensures.unchanged c.in_err-upper.ensures.left in
    let stopped = upper_stopped (g.B.Bounder.bounding (g.B.Bounder.named c.args.bounder.now)).answers (seen_boxes c.args.boxes.now.items)
    c.in_ok-place.place c.in_ok-place.lower.items c.in_ok-place.upper.items at c.in_ok-lower.lower.1 c.in_ok-lower.ensures.at c.in_err-upper.field-0.0 left in
    search rules

pub returns-clause-split : goal.returns-clause-split
returns-clause-split g c =
    let at = subst (λ (ps : List (Vec Range × ℕ)). IsCutAt (seen_boxes ps) c.in_ok-place.place c.in_ok-place.lower.items c.in_ok-place.upper.items) c.deref.ensures.value c.in_ok-place.ensures in
    let high = subst (λ (n : g.B.Bounder.Named). (g.B.Bounder.bounding n).answers c.in_ok-place.upper.items (At c.in_ok-upper.upper.1)) c.bounded.ensures.unchanged c.in_ok-upper.ensures.at in
    split_here (g.B.Bounder.bounding (g.B.Bounder.named c.args.bounder.now)).answers (seen_boxes c.args.boxes.now.items) c.in_ok-place.place c.in_ok-place.lower.items c.in_ok-place.upper.items at
    (seen_box c.in_ok-lower.lower) (seen_box c.in_ok-upper.upper) (seen_boxes c.put.new.boxes.items) c.in_ok-lower.ensures.area c.in_ok-upper.ensures.area c.in_ok-lower.ensures.at high c.in_ok-put.ensures
