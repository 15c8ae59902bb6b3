-- What the loop of `visit` keeps, and what its recursion goes down by.
use Rattle.std.proofs.Common.{◌-◌, length, take}
use Rattle.graph_walks.specs.Tables.{rows_of}
use Rattle.graph_walks.specs.MarkedNodes.{marked_count}
use Rattle.scope_graph.proofs.Descents.{IsDescending}
use Rattle.scope_graph.proofs.descend.+visit.Given as goal

abbrev pub decreases-visit : goal.decreases-visit
decreases-visit l = length l.table.now - marked_count l.seen.now

abbrev pub invariant-loop-next : goal.invariant-loop-next
invariant-loop-next l = IsDescending (rows_of l.table) l.node l.fn.seen l.seen l.fn.path.items l.path.items l.fn.back.items l.back.items (take l.next-index l.next-items)
