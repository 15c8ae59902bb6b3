-- Edges, as they are listed one after another.
--   IsListed Done edges               the edges are those that are done, each once, in their order
--   IsDoneBefore program nodes k u v  an edge leads from u, which comes before k, to v
use Rattle.std.specs.Prelude.{◌<◌, ℕ, List, Contains, All, AllPairs}
use Rattle.alf_check.specs.CheckedPrograms.{NumberedProgram}
use Rattle.flow_graph.specs.Nodes.{Node}
use Rattle.flow_graph.specs.Numbering.{IsStep, IsEdgeBefore}

-- the edges are those that are done, each once, in their order
pub record IsListed (Done : ℕ → ℕ → Type 0) (edges : List (ℕ × ℕ)) : Type 0 where
  pub ascends : AllPairs IsEdgeBefore edges
  pub each : All (λ (edge : ℕ × ℕ). Done edge.0 edge.1) edges
  pub all : (u v : ℕ) → Done u v → Contains edges (u, v)

-- an edge leads from u, which comes before k, to v
abbrev pub IsDoneBefore : NumberedProgram → List Node → ℕ → ℕ → ℕ → Type 0
IsDoneBefore program nodes k u v = (u < k) × IsStep program nodes u v
