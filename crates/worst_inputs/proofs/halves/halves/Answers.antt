use Rattle.worst_inputs.specs.Areas.{width_of}
use Rattle.worst_inputs.proofs.Cutting.{made_halves, read}
use Rattle.worst_inputs.proofs.halves.halves.Goals as goal

pub returns : goal.returns
returns c = made_halves c.args.area.now c.widest-place.result c.widest-place.ensures _ _ _ (read width_of c.args.area.now c.widest-place.result c.widest-place.ensures _) c.halved.ensures c.in_ok-lower.lower.items c.in_ok-upper.upper.items
    c.in_ok-lower.ensures c.in_ok-upper.ensures
