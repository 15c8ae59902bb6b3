-- What the loop of `search` keeps, and what it goes down by.
use Rattle.std.proofs.Common.{◌+◌, ◌-◌, length}
use Rattle.graph_walks.specs.Tables.{rows_of}
use Rattle.graph_walks.specs.MarkedNodes.{marked_count}
use Rattle.graph_walks.specs.Searching.{IsSearch}
use Rattle.graph_walks.proofs.search.search.Given as goal

abbrev pub invariant-loop-node : goal.invariant-loop-node
invariant-loop-node l = IsSearch (rows_of l.table) l.fn.marks l.from l.goal l.marks l.looked l.path.items

abbrev pub decreases-loop-node : goal.decreases-loop-node
decreases-loop-node l = (length l.marks - marked_count l.marks) + (length l.marks - marked_count l.marks) + length l.path.items
