-- What the loop keeps.
use Rattle.std.proofs.Common.{◌≡◌}
use Rattle.domain_core.specs.Outlines.{shape_of}
use Rattle.recorder_rules.specs.LoopRules.{counted_node}
use Rattle.recorder_rules.specs.Generated.{generated}
use Rattle.flow_recorders.proofs.begun.counted_nodes.Given as goal

abbrev pub invariant-loop-n : goal.invariant-loop-n
invariant-loop-n l = l.keys.items ≡ generated l.n (counted_node (shape_of l.outline))
