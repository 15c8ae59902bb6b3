use Rattle.std.proofs.Common.{◌≡◌, length}
use Rattle.program_analysis.specs.Pricing.{IsPricedAs, ArePaid}
use Rattle.program_analysis.proofs.node_costs.set_costs.Given as goal

abbrev pub invariant-loop-n : goal.invariant-loop-n
invariant-loop-n l = record {
  end : l.n-end ≡ length l.fn.graph.nodes;
  kept : IsPricedAs l.fn.outline l.outline;
  paid : ArePaid l.graph l.costs l.n l.outline.nodes;
}
