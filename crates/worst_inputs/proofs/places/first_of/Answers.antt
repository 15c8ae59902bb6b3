use Rattle.std.proofs.Common.{◌∙◌, ap}
use Rattle.worst_inputs.specs.Searches.{seen_box}
use Rattle.worst_inputs.specs.Boxes.{bound_of}
use Rattle.worst_inputs.proofs.Greatest.{first_here, first_of_map, never_none, none_more, most_by-map}
use Rattle.worst_inputs.proofs.places.first_of.Goals as goal

pub returns-then-pair-worst : goal.returns-then-pair-worst
returns-then-pair-worst c = first_of_map bound_of seen_box c.args.boxes.now c.loop-place.place
    (first_here (λ pair. pair.1) c.args.boxes.now c.loop-place.place c.args.worst c.index-boxes-place.result c.loop-place-test.true c.index-boxes-place.is
    (c.requires.worst ∙ most_by-map bound_of seen_box c.args.boxes.now) c.if-pair-worst.true c.loop-place.invariant)

pub loop-place-preserved : goal.loop-place-preserved
loop-place-preserved c = none_more (λ pair. pair.1) c.args.boxes.now c.loop-place.place c.args.worst c.index-boxes-place.result c.loop-place-test.true c.loop-place.invariant
    (λ e. c.if-pair-worst.false (ap (λ pair. pair.1) c.index-boxes-place.is ∙ e))

pub returns : goal.returns
returns c = absurd (never_none (λ pair. pair.1) c.args.boxes.now c.loop-place.place c.args.worst c.requires.some c.loop-place-test.false
    (c.requires.worst ∙ most_by-map bound_of seen_box c.args.boxes.now) c.loop-place.invariant)
