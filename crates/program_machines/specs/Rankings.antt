-- A graph has one ranking, and so its outlines have one shape.
--   HasOneRanking, HasOneShape   any two outlines of a graph have the same ranks, and are one but for costs, names and notes
use Rattle.std.proofs.Common.{◌≡◌}
use Rattle.domain_core.specs.Outlines.{Shape}
use Rattle.domain_core.specs.OutlineOf.{IsOutlineOf}
use Rattle.flow_graph.specs.Numbering.{GraphParts}
use Rattle.flow_graph.specs.Graphs.{HasProgram}
use Rattle.scope_graph.specs.Placing.{plan_of}

-- any two outlines of a graph have the same ranks
abbrev pub HasOneRanking : Type 0
HasOneRanking = (graph : GraphParts) (o other : Shape) → HasProgram graph → IsOutlineOf (plan_of graph) o → IsOutlineOf (plan_of graph) other → o.ranks ≡ other.ranks

-- and are one
abbrev pub HasOneShape : Type 0
HasOneShape = (graph : GraphParts) (o other : Shape) → HasProgram graph → IsOutlineOf (plan_of graph) o → IsOutlineOf (plan_of graph) other → o ≡ other
