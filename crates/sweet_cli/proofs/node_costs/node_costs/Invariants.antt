use Rattle.std.proofs.Common.{◌≡◌, take, map}
use Rattle.alf_check.specs.CheckedPrograms.{NumberedProgram}
use Rattle.flow_graph.specs.Numbering.{IsGraph}
use Rattle.program_machines.specs.NodeCosts.{node_cost}
use Rattle.sweet_cli.proofs.node_costs.node_costs.Given as goal

abbrev pub invariant-loop-n : goal.invariant-loop-n
invariant-loop-n l = (program : NumberedProgram) → IsGraph program l.graph → l.all.items ≡ map (node_cost program l.costs) (take l.n l.graph.nodes)
