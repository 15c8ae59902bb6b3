-- What a graph tells of the node of a number.
--   func_is    its function is that of its call path
--   block_is   its block
use Rattle.std.proofs.Common.{◌≡◌, ◌<◌, ℕ, List, length, Option, Some, slice_get, sym, ap, ◌∙◌}
use Rattle.std.proofs.lemmas.Option.{same_Some, get_or_from_slice_get}
use Rattle.alf_check.specs.CheckedPrograms.{NumberedProgram}
use Rattle.flow_graph.specs.Nodes.{Node, function_at, first_node}
use Rattle.flow_graph.specs.Numbering.{GraphParts}
use Rattle.flow_graph.specs.Expansions.{IsExpansion, node_number}
use Rattle.flow_graph.specs.Places.{node_at}

-- its function is that of its call path
pub func_is : (program : NumberedProgram) (graph : GraphParts) (n func : ℕ) → IsExpansion program graph
    → n < length graph.nodes → slice_get graph.funcs n ≡ Some func
    → function_at program (node_number graph n).path ≡ func
func_is program graph n func expansion low at = same_Some (function_at program (node_number graph n).path) func (sym (expansion.funcs n low) ∙ at)

-- its block
pub block_is : (graph : GraphParts) (n : ℕ) (path : List ℕ) (block : Option ℕ)
    → slice_get graph.nodes n ≡ Some (node_at path block) → (node_number graph n).block ≡ block
block_is graph n path block at = ap (λ (node : Node). node.block) (get_or_from_slice_get graph.nodes n (node_at path block) first_node at)
