-- What the code's values stand for.
--   scoped_of value       a program with its scopes
--   IsOutlined graph outline   the outline is that of the graph, with the names of its nodes
--   tables_of value       rows and costs
use Rattle.std.specs.Prelude.{◌≡◌, map}
use Rattle.domain_core.specs.Outlines.{Outlined, shape_of}
use Rattle.domain_core.specs.OutlineOf.{IsOutlineOf}
use Rattle.flow_graph.specs.Numbering.{GraphParts}
use Rattle.scope_graph.specs.Placing.{plan_of}
use Rattle.program_files.specs.Seen.{expanded_of}
use Rattle.command_files.specs.declared.tables.Tables.{Tables as TablesValue}
use Rattle.command_files.specs.declared.scopes.ScopedProgram.{ScopedProgram as ScopedValue}
use Rattle.command_files.specs.Scopes.{Scoped, ScopedProgram}
use Rattle.command_files.specs.Tables.{Tables}

-- rows and costs
abbrev pub tables_of : TablesValue → Tables
tables_of value = record { rows = value.rows.items; costs = value.costs }

-- the scopes of an outline
abbrev pub scopes_seen : Outlined → Scoped
scopes_seen outline = record { own = map (λ row. row.scope) outline.nodes; scopes = outline.scopes }

-- a program with its scopes
abbrev pub scoped_of : ScopedValue → ScopedProgram
scoped_of value = record { expanded = expanded_of value.expanded; scoped = scopes_seen value.outline }

-- the outline is that of the graph, with the names of its nodes
pub record IsOutlined (graph : GraphParts) (outline : Outlined) : Type 0 where
  pub outline_is : IsOutlineOf (plan_of graph) (shape_of outline)
  pub named : map (λ row. row.name.items) outline.nodes ≡ graph.names
