-- A sum that is wide ends the walk; else it is the sum up to the next row.
use Rattle.std.proofs.Common.{◌≡◌, None, Some, arith, length}
use Rattle.ipet_rows.specs.Sums.{total}
use Rattle.ipet_rows.specs.Duals.{right_part}
use Rattle.ipet_rows.specs.Verdicts.{summed}
use Rattle.ipet_rows.specs.FirstLaws.{wide_here, narrow_here}
use Rattle.dual_check.proofs.right_sides.sum_of_rights.Goals as goal

pub returns-in-None : goal.returns-in-None
returns-in-None c =
    let f = right_part c.args.rows.now.program c.args.multipliers.now in
    let e : summed (total c.loop-row.row f) (f c.loop-row.row) ≡ None = cc (c.multiplier_of-multiplier.ensures, c.with_product.ensures, c.in-None.is, c.loop-row.invariant.sum, c.right_of-right.ensures) in
    wide_here (length c.args.rows.now.program.rows) c.loop-row.row f (omega arith) c.loop-row.invariant.narrow e

pub loop-row-preserved : goal.loop-row-preserved
loop-row-preserved c =
    let f = right_part c.args.rows.now.program c.args.multipliers.now in
    let e : summed (total c.loop-row.row f) (f c.loop-row.row) ≡ Some c.in-Some.more = cc (c.multiplier_of-multiplier.ensures, c.with_product.ensures, c.in-Some.is, c.loop-row.invariant.sum, c.right_of-right.ensures) in
    let n = narrow_here c.loop-row.row f c.in-Some.more c.loop-row.invariant.narrow e in
    record { sum = n.0; narrow = n.1 }
