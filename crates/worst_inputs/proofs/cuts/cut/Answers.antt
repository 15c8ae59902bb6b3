use Rattle.std.proofs.Common.{◌∙◌}
use Rattle.worst_inputs.specs.Searches.{seen_boxes}
use Rattle.worst_inputs.proofs.Cutting.{cut_here, read_area}
use Rattle.worst_inputs.proofs.cuts.cut.Goals as goal

pub returns : goal.returns
returns c = cut_here (seen_boxes c.args.boxes.now) c.first_worst-place.result c.first_worst-place.ensures c.requires.more c.deref.result.now c.in_ok-lower.lower.items c.in_ok-lower.upper.items
    (c.deref.ensures.value ∙ read_area c.args.boxes.now c.first_worst-place.result c.first_worst-place.ensures _)
    c.in_ok-lower.ensures
