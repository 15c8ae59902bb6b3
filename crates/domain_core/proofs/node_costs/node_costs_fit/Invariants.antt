-- What the loop keeps.
use Rattle.std.proofs.Common.{◌<◌, ◌^◌, ℕ, map}
use Rattle.std.specs.Prelude.{slice_index}
use Rattle.domain_core.specs.declared.outline.NodeRow.{NodeRow}
use Rattle.domain_core.proofs.node_costs.node_costs_fit.Given as goal

abbrev pub invariant-loop-node : goal.invariant-loop-node
invariant-loop-node l = (k : ℕ) → k < l.node → slice_index (map (λ (row : NodeRow). row.cost) l.nodes) k < 2 ^ 32
