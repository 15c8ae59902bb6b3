use Rattle.std.proofs.Common.{◌≡◌, reverse, take}
use Rattle.domain_core.specs.Outlines.{shape_of, header_of}
use Rattle.flow_facts.specs.Walking.{seen_of}
use Rattle.flow_facts.proofs.iterations.seen_along.Given as goal

-- what is known of the nodes that are past
abbrev pub invariant-loop-n : goal.invariant-loop-n
invariant-loop-n l = record {
  known : l.seen ≡ seen_of (shape_of l.outline) l.scope l.a l.b (reverse (take l.n-index l.trace));
  header : l.header ≡ header_of l.outline.scopes l.scope;
}
