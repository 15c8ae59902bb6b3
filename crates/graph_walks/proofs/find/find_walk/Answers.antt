-- What is left to show of `find_walk`.
use Rattle.std.proofs.Common.{arith}
use Rattle.std.proofs.lemmas.Grind.{common_steps}
use Rattle.graph_walks.specs.Tables.{HasEdge, rows_of}
use Rattle.graph_walks.specs.WalkLaws.{walk_begins}
use Rattle.graph_walks.proofs.Spreading.{barred_found}
use Rattle.graph_walks.proofs.find.find_walk.Goals as goal

pub returns-then-marks-from-clause-none : goal.returns-then-marks-from-clause-none
returns-then-marks-from-clause-none c = λ path walk.
    (c.args.from, walk_begins (HasEdge (rows_of c.args.table.now)) c.args.from c.args.to path walk, c.if-marks-from.true)

pub returns-clause-none : goal.returns-clause-none
returns-clause-none c =
    barred_found (rows_of c.args.table.now) c.deref_mut.result.now c.args.marks.now c.args.from c.args.to c.search.new.marks (grind (arith, common_steps)) c.search.result c.search.ensures.found
