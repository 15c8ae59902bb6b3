use Rattle.std.proofs.Common.{map, arith}
use Rattle.std.proofs.lemmas.List.{take-map, drop-map, length-map}
use Rattle.alf_program.specs.Tree.{item_of}
use Rattle.alf_check.specs.Cut.{first_length}
use Rattle.alf_check.proofs.Blocks.{first_cut}
use Rattle.alf_check.proofs.cut.split_block.Goals as goal

pub returns-clause-cut : goal.returns-clause-cut
returns-clause-cut c =
    let items = c.args.items.now in
    let n = first_length (map item_of items) in
    rw (c.split_at.ensures.front, c.split_at.ensures.back, c.first_length.ensures, ← take-map item_of n items, ← drop-map item_of n items)
    (first_cut (map item_of items) (let long = length-map items item_of in omega arith))
