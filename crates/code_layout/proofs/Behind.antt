-- Blocks that lie one behind the other.
--   at_first       the first block of the first function lies at 0
--   behind         a block lies where the one before it ended
--   behind_all     a function begins where the one before it ended
--   going_on, ended   the bytes of a block that goes on to the next, and of one that a statement ends
--   each_part      the part of each node
use Rattle.std.proofs.Common.{◌≡◌, ◌≢◌, ◌<◌, ◌+◌, ◌*◌, ℕ, zero, suc, List, [], ◌∷◌, map, take, length, get_or, Option, Some, slice_get, refl, sym, ap, ◌∙◌, arith}
use Rattle.std.specs.Prelude.{sum_by}
use Rattle.std.specs.Option.{option_map_or}
use Rattle.std.proofs.lemmas.Option.{slice_get-get_or}
use Rattle.std.proofs.lemmas.List.{take_all}
use Rattle.std.proofs.lemmas.List.Sums.{sum_by_more}
use Rattle.alf_check.specs.CheckedPrograms.{NumberedProgram, NumberedFunction, NumberedBlock, NumberedStatement, BlockEnding, Fall, Jump, Switch, Call, Return, blocks_at}
use Rattle.flow_graph.specs.Nodes.{Node, first_node}
use Rattle.flow_graph.specs.Numbering.{GraphParts}
use Rattle.code_layout.specs.Layouts.{ending_statements, statements_in, statements_of, block_statements, block_part, node_part, parts_of}
use Rattle.code_layout.specs.LayoutLaws.{no_function, no_block, blocks_of}
use Rattle.code_layout.proofs.Summing.{function_sum}

pub at_first : (program : NumberedProgram) → (block_part program 0 0).0 ≡ 0
at_first program = refl

-- a block lies where the one before it ended
pub behind : (program : NumberedProgram) (f b : ℕ) → b < length (blocks_at program f)
    → (block_part program f (b + 1)).0 ≡ (block_part program f b).0 + (block_part program f b).1
behind program f b low =
    let block : NumberedBlock = get_or (blocks_at program f) b no_block in
    let more = sum_by_more statements_in (blocks_at program f) b no_block low in
    let own : block_statements program f b ≡ statements_in block = ap (λ (found : Option NumberedBlock). option_map_or statements_in found 0) (slice_get-get_or (blocks_at program f) b no_block low) in
    omega (arith, more, own)

-- a function begins where the one before it ended
pub behind_all : (program : NumberedProgram) (f : ℕ) → f < length program.funcs
    → (block_part program (f + 1) 0).0 ≡ (block_part program f (length (blocks_at program f))).0
behind_all program f low =
    let more = sum_by_more statements_of program.funcs f no_function low in
    let all = function_sum program f low in
    omega (arith, more, all)

own : (program : NumberedProgram) (f b : ℕ) (block : NumberedBlock) → slice_get (blocks_at program f) b ≡ Some block
    → (block_part program f b).1 ≡ 4 * statements_in block
own program f b block at = ap (λ (found : Option NumberedBlock). 4 * option_map_or statements_in found 0) at

-- a block that goes on to the next
pub going_on : (program : NumberedProgram) (f b next : ℕ) (statements : List NumberedStatement)
    → slice_get (blocks_at program f) b ≡ Some (record { statements = statements; ending = Fall next })
    → (block_part program f b).1 ≡ 4 * length statements
going_on program f b next statements at = let is = own program f b (record { statements = statements; ending = Fall next }) at in omega (arith, is)

one : (ending : BlockEnding) → ((next : ℕ) → ending ≢ Fall next) → ending_statements ending ≡ 1
one (Fall next) other = absurd (other next refl)
one (Jump to) other = refl
one (Switch value targets others) other = refl
one (Call f args result next) other = refl
one (Return value) other = refl

-- a block that a statement ends
pub ended : (program : NumberedProgram) (f b : ℕ) (statements : List NumberedStatement) (ending : BlockEnding)
    → ((next : ℕ) → ending ≢ Fall next)
    → slice_get (blocks_at program f) b ≡ Some (record { statements = statements; ending = ending })
    → (block_part program f b).1 ≡ 4 * (length statements + 1)
ended program f b statements ending other at =
    own program f b (record { statements = statements; ending = ending }) at ∙ ap (λ (n : ℕ). 4 * (length statements + n)) (one ending other)

-- ---- nodes

each_made : (made : Node → ℕ × ℕ) (nodes : List Node) (n : ℕ) → n < length nodes
    → get_or (map made nodes) n (0, 0) ≡ made (get_or nodes n first_node)
each_made made [] n low = absurd (omega arith)
each_made made (node ∷ nodes) zero low = refl
each_made made (node ∷ nodes) (suc n) low = each_made made nodes n (omega arith)

pub each_part : (program : NumberedProgram) (graph : GraphParts) (n : ℕ) → n < length graph.nodes
    → get_or (parts_of program graph) n (0, 0) ≡ node_part program (get_or graph.nodes n first_node)
each_part program graph n low = each_made (node_part program) graph.nodes n low
