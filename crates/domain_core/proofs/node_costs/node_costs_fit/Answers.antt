-- One cost more.
use Rattle.std.proofs.Common.{map}
use Rattle.std.specs.Prelude.{slice_index}
use Rattle.domain_core.specs.declared.outline.NodeRow.{NodeRow}
use Rattle.domain_core.proofs.Costs.{costs_more}
use Rattle.domain_core.proofs.node_costs.node_costs_fit.Goals as goal

pub loop-node-preserved : goal.loop-node-preserved
loop-node-preserved c = costs_more (slice_index (map (λ (row : NodeRow). row.cost) c.args.nodes.now)) c.loop-node.node c.cost_at-cost.result c.loop-node.invariant c.cost_at-cost.ensures c.cost_at-cost.type_inv
