-- The line of a run that has more nodes than the turns.
--   own_scope scoped n          the number of a node's scope
--   unbounded_line program n    the line of work that is left in the scope of a node
use Rattle.std.specs.Prelude.{ℕ, List, slice_index}
use Rattle.answer_texts.specs.ScopeLines.{left_line}
use Rattle.command_files.specs.Scopes.{Scoped, ScopedProgram}

-- the number of a node's scope
abbrev pub own_scope : Scoped → ℕ → ℕ
own_scope scoped n = slice_index scoped.own n

-- the line of work that is left in the scope of a node
abbrev pub unbounded_line : ScopedProgram → ℕ → List ℕ
unbounded_line program n = left_line program.expanded.graph program.scoped.scopes (own_scope program.scoped n)
