-- What the loop of `with_parents` keeps.
use Rattle.scope_graph.specs.Inner.{lists_of}
use Rattle.scope_graph.specs.Assembled.{IsParented}
use Rattle.scope_graph.proofs.rows.with_parents.Given as goal

abbrev pub invariant-loop-s : goal.invariant-loop-s
invariant-loop-s l = IsParented l.s l.rows (lists_of l.holds) l.ranks l.scopes.items
