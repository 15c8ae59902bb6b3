-- What the loop of `is_called` keeps.
use Rattle.std.proofs.Common.{◌<◌, ℕ}
use Rattle.graph_walks.specs.MarkedNodes.{IsMarked}
use Rattle.domain_core.specs.Scopes.{IsCalledFrom}
use Rattle.scope_graph.specs.Placing.{plan_of}
use Rattle.scope_graph.proofs.members.is_called.Given as goal

abbrev pub invariant-loop-m : goal.invariant-loop-m
invariant-loop-m l = (k : ℕ) → k < l.m → IsMarked l.body k → IsCalledFrom (plan_of l.graph) k l.n → ⊥
