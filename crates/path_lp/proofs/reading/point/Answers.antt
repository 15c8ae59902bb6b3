-- One column more.
use Rattle.std.proofs.Common.{rules, ◌≡◌, ◌<◌, ◌+◌, ◌++◌, ◌∷◌, [], length}
use Rattle.path_lp.specs.Fractions.{fractions}
use Rattle.path_lp.proofs.FractionLaws.{fractions_more}
use Rattle.path_lp.proofs.reading.point.Goals as goal

pub loop-column-preserved : goal.loop-column-preserved
loop-column-preserved c =
    let hs = c.args.tableau.now.tableau.rows in
    let n = length c.args.rows.now.program.costs in
    let below : c.loop-column.column < length c.args.rows.now.program.costs = search (rules) in
    let made : c.push.new.self.items ≡ c.loop-column.out.items ++ (c.fraction.result ∷ []) = search (rules) in
    fractions_more hs n c.loop-column.column c.loop-column.out.items c.push.new.self.items (fractions hs n 2) c.fraction.result below made c.fraction.ensures c.loop-column.invariant
