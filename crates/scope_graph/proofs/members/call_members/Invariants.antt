-- What the loop of `call_members` keeps.
use Rattle.domain_core.specs.Scopes.{path_at, Extends}
use Rattle.scope_graph.specs.Placing.{plan_of}
use Rattle.scope_graph.specs.Members.{MarksExactly}
use Rattle.scope_graph.proofs.members.call_members.Given as goal

abbrev pub invariant-loop-n : goal.invariant-loop-n
invariant-loop-n l = MarksExactly l.n (λ n. Extends (path_at (plan_of l.graph) n) (path_at (plan_of l.graph) l.header)) l.marks.items
