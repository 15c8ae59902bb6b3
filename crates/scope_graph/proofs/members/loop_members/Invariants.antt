-- What the loop of `loop_members` keeps.
use Rattle.std.proofs.Common.{◌<◌, ◌-◌}
use Rattle.scope_graph.specs.Placing.{plan_of}
use Rattle.scope_graph.specs.Members.{MarksExactly, IsTaken, IsCalled, Tells}
use Rattle.scope_graph.proofs.members.loop_members.Given as goal

abbrev pub invariant-loop-n : goal.invariant-loop-n
invariant-loop-n l = record {
  marked : MarksExactly l.n (IsTaken (plan_of l.graph) l.body) l.marks.items;
  told : 0 < l.n → Tells l.called (IsCalled (plan_of l.graph) l.body (l.n - 1));
}
