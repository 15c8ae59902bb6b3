use Rattle.std.proofs.Common.{◌≡◌, ◌≤◌, reverse, take}
use Rattle.domain_core.specs.Outlines.{shape_of}
use Rattle.flow_facts.specs.Walking.{tally_of}
use Rattle.flow_facts.proofs.executions.tally_along.Given as goal

-- what is known of the nodes that are past, which are at least as many as are counted
abbrev pub invariant-loop-n : goal.invariant-loop-n
invariant-loop-n l = record {
  known : l.tally ≡ tally_of (shape_of l.outline) l.scope l.node l.span.low l.span.high (reverse (take l.n-index l.trace));
  few : l.tally.count ≤ l.n-index;
}
