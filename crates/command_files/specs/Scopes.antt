-- The scopes of a graph, as commands tell them.
--   Scoped                      the number of each node's scope, and the scopes
--   IsScoped graph scoped       they are those of the outline of the graph
--   ScopesMean graph meaning    the scopes of the graph, or the line of walks into a loop with two ways in
--   ScopedProgram               a program with its graph and its scopes
--   scoped_in given root        a file is read, and its program checked, expanded and given scopes
use Rattle.std.specs.Prelude.{◌≡◌, ℕ, List, Result, Ok, Err}
use Rattle.domain_core.specs.declared.outline.ScopeRow.{ScopeRow}
use Rattle.domain_core.specs.Reducible.{IsEdge, IsReducible, IsCrossing}
use Rattle.domain_core.specs.OutlineOf.{IsOutlineOf}
use Rattle.flow_graph.specs.Numbering.{GraphParts}
use Rattle.scope_graph.specs.Placing.{plan_of}
use Rattle.command_plans.specs.Outcome.{Outcome, Example}
use Rattle.command_plans.specs.Work.{Work, judged, done, ◌>>=◌}
use Rattle.program_files.specs.Expanding.{Expanded, expanded_in}
use Rattle.answer_texts.specs.ScopeLines.{irreducible_line}
use Rattle.sweet_words.specs.Files.{ProgramFile}

-- the number of each node's scope, and the scopes
pub record Scoped : Type 0 where
  pub own : List ℕ
  pub scopes : List ScopeRow

-- they are those of the outline of the graph
pub record IsScoped (graph : GraphParts) (scoped : Scoped) : Type 0 where
  pub ranks : List ℕ
  pub outline : IsOutlineOf (plan_of graph) (record { edges = graph.edges; own = scoped.own; ranks = ranks; scopes = scoped.scopes })
  pub reducible : IsReducible (IsEdge graph.edges)

-- the line shows that the graph is not reducible
pub record IsIrreducible (graph : GraphParts) (outcome : Outcome) : Type 0 where
  pub to_header : List ℕ
  pub to_tail : List ℕ
  pub around : List ℕ
  pub crossing : IsCrossing (IsEdge graph.edges) to_header to_tail around
  pub line : outcome ≡ record { cause = Example; text = irreducible_line graph to_header to_tail around }

-- the scopes of the graph, or such a line
abbrev pub ScopesMean : GraphParts → Result Scoped Outcome → Type 0
ScopesMean graph (Ok scoped) = IsScoped graph scoped
ScopesMean graph (Err outcome) = IsIrreducible graph outcome

-- a program with its graph and its scopes
pub record ScopedProgram : Type 0 where
  pub expanded : Expanded
  pub scoped : Scoped

unfoldable pub scoped_in : ProgramFile → List ℕ → Work ScopedProgram
scoped_in given root = do
  expanded ← expanded_in given root
  scoped ← judged (ScopesMean expanded.graph)
  done (record { expanded = expanded; scoped = scoped })
