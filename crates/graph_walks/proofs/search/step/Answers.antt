-- What is left to show of `step`.
use Rattle.graph_walks.specs.TableLaws.{row_low}
use Rattle.std.proofs.Common.{arith}
use Rattle.graph_walks.proofs.search.step.Goals as goal

pub fresh_place-requires : goal.fresh_place-requires
fresh_place-requires c = λ k d low.
    let inside = row_low c.args.table.now c.args.node c.index-table-node.result c.as_slice-row.result.now c.requires.inside c.index-table-node.is c.as_slice-row.ensures.value c.requires.closed k d low in
    let long = c.requires.long in
    omega arith

pub bounds-marks-row : goal.bounds-marks-row
bounds-marks-row c =
    let fresh = c.in-Some.ensures.some in
    let inside = row_low c.args.table.now c.args.node c.index-table-node.result c.as_slice-row.result.now c.requires.inside c.index-table-node.is c.as_slice-row.ensures.value c.requires.closed c.in-Some.place 0 fresh.within in
    let long = c.requires.long in
    omega arith
