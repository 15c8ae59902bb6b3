-- What is laid out lies low.
--   no_function, no_block   what look-ups past the end give
--   blocks_of      the blocks of a function that is there
--   lies_within    the statements before a block and its own are among all statements
--   IsLow part     an address and a size of at most 262,144 bytes
--   parts_low      so are those of each node of a program that is laid out
use Rattle.std.proofs.Common.{◌≡◌, ℕ, suc, ◌+◌, ◌<◌, ◌≤◌, List, [], ◌∷◌, map, length, get_or, All, Option, None, Some, slice_get, sym, ap, arith}
use Rattle.std.specs.Prelude.{sum_by}
use Rattle.std.specs.Option.{option_map_or}
use Rattle.std.proofs.lemmas.Option.{slice_get-get_or}
use Rattle.std.proofs.lemmas.List.Elements.{All-nil, All-cons}
use Rattle.std.proofs.lemmas.List.Sums.{sum_by_more_le}
use Rattle.alf_check.specs.CheckedPrograms.{NumberedProgram, NumberedFunction, NumberedBlock, Return, blocks_at}
use Rattle.flow_graph.specs.Nodes.{Node, function_at, first_node}
use Rattle.flow_graph.specs.Numbering.{GraphParts}
use Rattle.flow_graph.specs.Expansions.{IsExpansion}
use Rattle.flow_graph.specs.Paths.{HasBlock}
use Rattle.code_layout.specs.Layouts.{statements_in, statements_of, all_statements, most_statements, statements_before, block_statements, place_part, node_part, parts_of}

-- what look-ups past the end give
abbrev pub no_function : NumberedFunction
no_function = record { name = []; args = []; frames = []; inits = []; blocks = [] }

abbrev pub no_block : NumberedBlock
no_block = record { statements = []; ending = Return None }

-- the blocks of a function that is there
pub blocks_of : (program : NumberedProgram) (f : ℕ) → f < length program.funcs
    → blocks_at program f ≡ (get_or program.funcs f no_function).blocks
blocks_of program f low = ap (λ (found : Option NumberedFunction). option_map_or (λ (g : NumberedFunction). g.blocks) found []) (slice_get-get_or program.funcs f no_function low)

-- the statements before block b of function f, and those of the block, are among all
pub lies_within : (program : NumberedProgram) (f b : ℕ) → f < length program.funcs → b < length (blocks_at program f)
    → statements_before program f b + block_statements program f b ≤ all_statements program
lies_within program f b low there =
    let blocks : List NumberedBlock = blocks_at program f in
    let funcs = sum_by_more_le statements_of program.funcs f no_function low in
    let more = sum_by_more_le statements_in blocks b no_block there in
    let function : statements_of (get_or program.funcs f no_function) ≡ sum_by statements_in blocks = ap (λ (bs : List NumberedBlock). sum_by statements_in bs) (sym (blocks_of program f low)) in
    let own : block_statements program f b ≡ statements_in (get_or blocks b no_block) = ap (λ (found : Option NumberedBlock). option_map_or statements_in found 0) (slice_get-get_or blocks b no_block there) in
    omega (arith, funcs, more, function, own)

-- an address and a size of at most 262,144 bytes
abbrev pub IsLow : ℕ × ℕ → Type 0
IsLow part = (part.0 ≤ 262144) × (part.1 ≤ 262144)

place_low : (program : NumberedProgram) (f : ℕ) (block : Option ℕ) → all_statements program ≤ most_statements
    → f < length program.funcs → HasBlock program f block → IsLow (place_part program f block)
place_low program f None few low there = (omega arith, omega arith)
place_low program f (Some b) few low there = let within = lies_within program f b low there in (omega (arith, within, few), omega (arith, within, few))

-- what holds of each node holds of what is made of them
all_made : (made : Node → ℕ × ℕ) (nodes : List Node)
    → ((n : ℕ) → n < length nodes → IsLow (made (get_or nodes n first_node))) → All IsLow (map made nodes)
all_made made [] each = All-nil IsLow
all_made made (node ∷ nodes) each = All-cons IsLow (made node) (map made nodes) (each 0 (omega arith)) (all_made made nodes (λ n low. each (suc n) (omega (arith, low))))

-- so are those of each node of a program that is laid out
pub parts_low : (program : NumberedProgram) (graph : GraphParts) → IsExpansion program graph
    → all_statements program ≤ most_statements → All IsLow (parts_of program graph)
parts_low program graph expansion few = all_made (node_part program) graph.nodes (λ n low. let placed = (expansion.places n low).placed in place_low program (function_at program (get_or graph.nodes n first_node).path) (get_or graph.nodes n first_node).block few placed.function placed.block)
