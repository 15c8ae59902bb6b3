use Rattle.std.proofs.Common.{◌<◌, length, ap, ◌∙◌, arith}
use Rattle.std.proofs.lemmas.List.{length-map}
use Rattle.worst_inputs.specs.Searches.{seen_box, seen_boxes}
use Rattle.worst_inputs.proofs.Cutting.{two_seen}
use Rattle.worst_inputs.proofs.cuts.put.Goals as goal

pub returns : goal.returns
returns c =
    let low : c.args.place < length c.args.boxes.now.items = let e = length-map c.args.boxes.now.items seen_box in let l = c.requires in omega arith in
    ap seen_boxes c.in_ok-insert.ensures.items ∙ two_seen c.args.boxes.now.items c.args.place c.args.lower c.args.upper low
