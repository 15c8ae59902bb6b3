-- Where the code of a program lies in memory: the blocks of all functions one after the other from address 0, functions
-- in the order of the text and blocks by number, 4 bytes for each statement.
--   ending_statements ending     1 where a statement ends the block, and 0 where the block goes on to the next without one
--   statements_in block          the statements of a block, the one that ends it among them
--   statements_of function       the statements of a function's blocks
--   all_statements program       the statements of all blocks of all functions
--   most_statements              the most that are laid out
--   statements_before program f b   those of the functions before f, and of its blocks before b
--   block_statements program f b    those of block b of function f
--   bytes_of statements          their bytes
--   block_part program f b       the address and the size of block b of function f
--   node_part program node       the same of a node; an entry has neither
--   parts_of program graph       the same of each node of a graph
use Rattle.std.specs.Prelude.{ℕ, ◌+◌, ◌*◌, List, map, take, length, Option, None, Some, slice_get, sum_by}
use Rattle.std.specs.Option.{option_map_or}
use Rattle.alf_check.specs.CheckedPrograms.{NumberedProgram, NumberedFunction, NumberedBlock, BlockEnding, Fall, Jump, Switch, Call, Return, blocks_at}
use Rattle.flow_graph.specs.Nodes.{Node, function_at}
use Rattle.flow_graph.specs.Numbering.{GraphParts}

-- 1 where a statement ends the block
abbrev pub ending_statements : BlockEnding → ℕ
ending_statements (Fall next) = 0
ending_statements (Jump to) = 1
ending_statements (Switch value targets others) = 1
ending_statements (Call f args result next) = 1
ending_statements (Return value) = 1

-- the statements of a block, the one that ends it among them
abbrev pub statements_in : NumberedBlock → ℕ
statements_in block = length block.statements + ending_statements block.ending

-- the statements of a function's blocks
abbrev pub statements_of : NumberedFunction → ℕ
statements_of function = sum_by statements_in function.blocks

-- the statements of all blocks of all functions
abbrev pub all_statements : NumberedProgram → ℕ
all_statements program = sum_by statements_of program.funcs

-- the most that are laid out
abbrev pub most_statements : ℕ
most_statements = 65536

-- those of the functions before f, and of its blocks before b
abbrev pub statements_before : NumberedProgram → ℕ → ℕ → ℕ
statements_before program f b = sum_by statements_of (take f program.funcs) + sum_by statements_in (take b (blocks_at program f))

-- those of block b of function f
abbrev pub block_statements : NumberedProgram → ℕ → ℕ → ℕ
block_statements program f b = option_map_or statements_in (slice_get (blocks_at program f) b) 0

-- 4 bytes for each
abbrev pub bytes_of : ℕ → ℕ
bytes_of statements = 4 * statements

-- the address and the size of block b of function f
abbrev pub block_part : NumberedProgram → ℕ → ℕ → ℕ × ℕ
block_part program f b = (bytes_of (statements_before program f b), bytes_of (block_statements program f b))

-- an entry has neither
abbrev pub place_part : NumberedProgram → ℕ → Option ℕ → ℕ × ℕ
place_part program f None = (0, 0)
place_part program f (Some b) = block_part program f b

-- the address and the size of a node
abbrev pub node_part : NumberedProgram → Node → ℕ × ℕ
node_part program node = place_part program (function_at program node.path) node.block

-- the same of each node of a graph
abbrev pub parts_of : NumberedProgram → GraphParts → List (ℕ × ℕ)
parts_of program graph = map (node_part program) graph.nodes
