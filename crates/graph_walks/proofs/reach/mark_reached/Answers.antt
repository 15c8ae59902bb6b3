-- What is left to show of `mark_reached`.
use Rattle.std.proofs.Common.{None}
use Rattle.graph_walks.specs.Tables.{HasEdge, rows_of}
use Rattle.graph_walks.specs.WalkLaws.{walk_begins}
use Rattle.graph_walks.proofs.Spreading.{spread_all, spread_found}
use Rattle.graph_walks.proofs.reach.mark_reached.Goals as goal

pub returns-in_ok-search-clause-all : goal.returns-in_ok-search-clause-all
returns-in_ok-search-clause-all c =
    let rows = rows_of c.args.table.now in
    spread_all rows c.args.marks.now c.args.from None c.search.new.marks (spread_found rows c.args.marks.now c.args.from c.search.new.marks c.in_ok-search.field-0 c.in_ok-search.ensures.found)

pub returns-else-not-marks-from-clause-all : goal.returns-else-not-marks-from-clause-all
returns-else-not-marks-from-clause-all c = λ n way.
    absurd (way.avoids c.args.from (walk_begins (HasEdge (rows_of c.args.table.now)) c.args.from n way.path way.walk) c.if-not-marks-from.false)
