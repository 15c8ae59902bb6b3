use Rattle.std.proofs.Common.{arith}
use Rattle.std.specs.Int.{w128}
use Rattle.std.proofs.lemmas.Int.{ints, to_z-of_z}
use Rattle.left_cells.proofs.Held.{moved_row, low_fits, high_fits, no_overflow, less_is, low_small, high_large}
use Rattle.left_cells.proofs.cells.lies_moved.Goals as goal

pub overflow_sub-row : goal.overflow_sub-row
overflow_sub-row c =
    let row = c.args.row.now in
    no_overflow row.size row.low c.args.by (low_fits row c.requires.small) c.ranges.by c.requires.small.least (low_small row c.requires.small) c.requires.by

pub overflow_sub-result : goal.overflow_sub-result
overflow_sub-result c =
    let row = c.args.row.now in
    no_overflow row.size row.high c.args.by (high_fits row c.requires.small) c.ranges.by (high_large row c.requires.small) c.requires.small.most c.requires.by

pub returns-then-row-by : goal.returns-then-row-by
returns-then-row-by c = λ high.
    let row = c.args.row.now in
    let low_is = less_is row.size row.low c.args.by (low_fits row c.requires.small) c.ranges.by c.requires.small.least (low_small row c.requires.small) c.requires.by in
    let high_is = less_is row.size row.high c.args.by (high_fits row c.requires.small) c.ranges.by (high_large row c.requires.small) c.requires.small.most c.requires.by in
    let lo_is = to_z-of_z w128 c.lo.result (record { sfits = c.lo.type_inv }) in
    let hi_is = to_z-of_z w128 c.hi.result (record { sfits = c.hi.type_inv }) in
    moved_row row c.args.words.numbers.lo c.args.words.numbers.hi c.args.by c.requires.by.is
    (omega (arith, ints, low_is, lo_is, c.if-row-by.true, c.lo.ensures))
    (omega (arith, ints, high_is, hi_is, high, c.hi.ensures))
