-- Lines that name nodes and scopes.
--   name_of graph n             the name of a node, by its number
--   walk_text graph nodes       the names of the nodes of a walk
--   irreducible_line graph ..   the line of three walks that show that a loop can be entered past its header
--   left_line graph scopes s    the line of work that is left in a scope, with the name of its header
use Rattle.std.specs.Prelude.{ℕ, List, [], ◌∷◌, ◌++◌, codes, decimal, slice_index_or}
use Rattle.std.specs.List.{flat_map}
use Rattle.domain_core.specs.declared.outline.ScopeRow.{ScopeRow}
use Rattle.domain_core.specs.Outlines.{header_of}
use Rattle.flow_graph.specs.Numbering.{GraphParts}

-- the name of a node, by its number
abbrev pub name_of : GraphParts → ℕ → List ℕ
name_of graph n = slice_index_or graph.names n []

-- the names of the nodes of a walk, with a space before each
abbrev pub walk_text : GraphParts → List ℕ → List ℕ
walk_text graph nodes = flat_map (λ n. 32 ∷ name_of graph n) nodes

-- three walks: to a header, from it to a node with an edge back to it, and to that node without the header
abbrev pub irreducible_line : GraphParts → List ℕ → List ℕ → List ℕ → List ℕ
irreducible_line graph to_header to_tail around =
    codes "fault 40 irreducible to-header" ++ (walk_text graph to_header ++ (codes " to-tail" ++ (walk_text graph to_tail ++ (codes " around" ++ (walk_text graph around ++ 10 ∷ [])))))

-- `unbounded S NODE`: the scope, and the name of its header
abbrev pub left_line : GraphParts → List ScopeRow → ℕ → List ℕ
left_line graph scopes s = codes "unbounded " ++ (decimal s ++ (codes " " ++ (name_of graph (header_of scopes s) ++ 10 ∷ [])))
