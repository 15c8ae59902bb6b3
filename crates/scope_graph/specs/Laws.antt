-- What holds of every outline of a graph.
--   IsSameOutline o other   two outlines have the same scopes, and the same scope for each node
--   HasOneOutline           so have any two outlines of a graph
use Rattle.std.specs.Prelude.{◌≡◌}
use Rattle.domain_core.specs.Outlines.{Shape}
use Rattle.domain_core.specs.OutlineOf.{IsOutlineOf}
use Rattle.flow_graph.specs.Numbering.{GraphParts}
use Rattle.flow_graph.specs.Graphs.{HasProgram}
use Rattle.scope_graph.specs.Placing.{plan_of}

-- two outlines have the same scopes, and the same scope for each node
pub record IsSameOutline (o other : Shape) : Type 0 where
  pub scopes : o.scopes ≡ other.scopes
  pub own : o.own ≡ other.own

-- so have any two outlines of a graph
abbrev pub HasOneOutline : Type 0
HasOneOutline = (graph : GraphParts) (o other : Shape) → HasProgram graph → IsOutlineOf (plan_of graph) o → IsOutlineOf (plan_of graph) other → IsSameOutline o other
