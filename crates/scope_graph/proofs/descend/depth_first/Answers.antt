-- What is left to show of `depth_first`.
use Rattle.std.proofs.Common.{ℕ, List, subst}
use Rattle.graph_walks.specs.Walks.{stays}
use Rattle.graph_walks.specs.Tables.{rows_of}
use Rattle.scope_graph.specs.Descending.{IsDescent, IsVisited}
use Rattle.scope_graph.proofs.Descents.{descend_done}
use Rattle.scope_graph.proofs.descend.depth_first.Goals as goal

pub visit-requires-clause-walk : goal.visit-requires-clause-walk
visit-requires-clause-walk c = rw c.new-path.ensures.items stays

pub returns-in-None : goal.returns-in-None
returns-in-None c =
    let rows = rows_of c.args.table.now in
    let v : IsVisited rows 0 c.deref_mut.result.now c.visit.new.seen c.new-path.result.items c.visit.new.path.items c.new-back.result.items c.visit.new.back.items = rw c.in-None.is at c.in_ok-visit.ensures in
    descend_done rows c.visit.new.back.items c.visit.new.seen v.order (subst (λ (xs : List ℕ). IsDescent rows c.visit.new.seen xs c.visit.new.back.items v.order) c.new-path.ensures.items v.descent) v.here c.requires.reached
