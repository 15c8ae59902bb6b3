use Rattle.std.proofs.Common.{max, sym, ◌∙◌, ap}
use Rattle.worst_inputs.specs.Searches.{seen_box}
use Rattle.worst_inputs.specs.Boxes.{bound_of}
use Rattle.worst_inputs.proofs.Greatest.{most_more, most_all, most_by-map}
use Rattle.worst_inputs.proofs.places.worst.Goals as goal

pub loop-pair-preserved : goal.loop-pair-preserved
loop-pair-preserved c = c.max-most.ensures ∙ ap (λ pair. max pair.1 c.loop-pair.most) c.pair-item.is
    ∙ most_more (λ pair. pair.1) c.args.boxes.now c.loop-pair.pair-index c.pair-item.result c.loop-pair.most c.loop-pair-test.true c.loop-pair.invariant

pub returns : goal.returns
returns c = most_all (λ pair. pair.1) c.args.boxes.now c.loop-pair.pair-index c.loop-pair.most c.loop-pair-test.false c.loop-pair.invariant ∙ sym (most_by-map bound_of seen_box c.args.boxes.now)
