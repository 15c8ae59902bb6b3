use Rattle.std.proofs.Common.{ℕ, max, sym, ◌∙◌, ap}
use Rattle.worst_inputs.specs.Areas.{width_of}
use Rattle.worst_inputs.proofs.Greatest.{most_more, most_all, never_none, none_more, first_read}
use Rattle.worst_inputs.proofs.places.widest.Goals as goal

pub loop-range-preserved : goal.loop-range-preserved
loop-range-preserved c = c.max-most.ensures ∙ ap (λ (n : ℕ). max n c.loop-range.most) c.width.ensures
    ∙ most_more width_of c.args.area.now c.loop-range.range-index _ c.loop-range.most c.loop-range-test.true c.loop-range.invariant

pub returns-then-width-most : goal.returns-then-width-most
returns-then-width-most c = first_read width_of c.args.area.now c.loop-place.place c.loop-range.most _ c.loop-place-test.true
    (most_all width_of c.args.area.now c.loop-range.range-index c.loop-range.most c.loop-range-test.false c.loop-range.invariant)
    (sym c.width-in-loop-place.ensures ∙ c.if-width-most.true) c.loop-place.invariant

pub loop-place-preserved : goal.loop-place-preserved
loop-place-preserved c = none_more width_of c.args.area.now c.loop-place.place c.loop-range.most _ c.loop-place-test.true c.loop-place.invariant
    (λ e. c.if-width-most.false (c.width-in-loop-place.ensures ∙ e))

pub returns : goal.returns
returns c = absurd (never_none width_of c.args.area.now c.loop-place.place c.loop-range.most c.requires.some c.loop-place-test.false
    (most_all width_of c.args.area.now c.loop-range.range-index c.loop-range.most c.loop-range-test.false c.loop-range.invariant) c.loop-place.invariant)
