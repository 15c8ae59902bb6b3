-- Sums over the first members of a list, and parts of the first nodes.
--   summed_more   one member more
--   function_sum  the statements of all blocks of a function are the function's
--   own_statements   the statements of a block that is there
--   parts_more    one node more
use Rattle.std.proofs.Common.{◌≡◌, ℕ, ◌+◌, ◌<◌, List, [], ◌∷◌, ◌++◌, map, take, length, get_or, Option, Some, slice_get, sym, ap, ◌∙◌, arith}
use Rattle.std.specs.Prelude.{sum_by}
use Rattle.std.specs.Option.{option_map_or}
use Rattle.std.proofs.lemmas.Option.{slice_get_within, get_or_from_slice_get}
use Rattle.std.proofs.lemmas.List.{take_more, take_all, map-append}
use Rattle.std.proofs.lemmas.List.Sums.{sum_by_more}
use Rattle.alf_check.specs.CheckedPrograms.{NumberedProgram, NumberedBlock, blocks_at}
use Rattle.flow_graph.specs.Nodes.{first_node}
use Rattle.flow_graph.specs.Numbering.{GraphParts}
use Rattle.code_layout.specs.Layouts.{statements_in, statements_of, block_statements, node_part}
use Rattle.code_layout.specs.LayoutLaws.{no_function, blocks_of}

-- one member more
pub summed_more : {X : Type 0} (f : X → ℕ) (xs : List X) (i total count : ℕ) (x : X) → slice_get xs i ≡ Some x
    → count ≡ f x → total ≡ sum_by f (take i xs) → total + count ≡ sum_by f (take (i + 1) xs)
summed_more f xs i total count x at count_is before =
    ap (λ (k : ℕ). k + count) before ∙ ap (λ (k : ℕ). sum_by f (take i xs) + k) (count_is ∙ ap f (sym (get_or_from_slice_get xs i x x at))) ∙ sym (sum_by_more f xs i x (slice_get_within xs i x at))

-- the statements of all blocks of a function are the function's
pub function_sum : (program : NumberedProgram) (f : ℕ) → f < length program.funcs → sum_by statements_in (take (length (blocks_at program f)) (blocks_at program f)) ≡ statements_of (get_or program.funcs f no_function)
function_sum program f low =
    ap (λ (bs : List NumberedBlock). sum_by statements_in bs) (take_all (length (blocks_at program f)) (blocks_at program f) (omega arith) ∙ blocks_of program f low)

-- the statements of a block that is there
pub own_statements : (program : NumberedProgram) (f b count : ℕ) (block : NumberedBlock)
    → slice_get (blocks_at program f) b ≡ Some block → count ≡ statements_in block
    → count ≡ block_statements program f b
own_statements program f b count block at is = is ∙ sym (ap (λ (found : Option NumberedBlock). option_map_or statements_in found 0) at)

-- one node more
pub parts_more : (program : NumberedProgram) (graph : GraphParts) (n : ℕ) (part : ℕ × ℕ) → n < length graph.nodes
    → part ≡ node_part program (get_or graph.nodes n first_node)
    → map (node_part program) (take n graph.nodes) ++ part ∷ [] ≡ map (node_part program) (take (n + 1) graph.nodes)
parts_more program graph n part low is =
    sym (ap (map (node_part program)) (take_more graph.nodes n first_node low) ∙ map-append (node_part program) (take n graph.nodes) (get_or graph.nodes n first_node ∷ [])
    ∙ ap (λ (p : ℕ × ℕ). map (node_part program) (take n graph.nodes) ++ p ∷ []) (sym is))
