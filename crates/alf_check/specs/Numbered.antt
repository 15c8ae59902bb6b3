-- Programs with numbers in place of their names.
--   statements_by frame item       what control goes through at an item
--   end_by numbers next item       what the item ends its block with, where the next block has this number
--   numbered_block numbers next items    the block of these items, where the next one has this number
--   numbered_blocks numbers k blocks     blocks, of which the first has this number
--   numbered_inits start frames inits    what frames hold at first, where the first of the frames has number start
--   numbered_function whole first func   a function whose first frame has this number
--   numbered whole root                  the program, which starts with the function of this name
use Rattle.std.specs.Prelude.{ℕ, suc, ◌+◌, ◌-◌, List, [], ◌∷◌, map, length, slice_get, unwrap_or}
use Rattle.std.specs.Option.{option_map, option_map_or}
use Rattle.std.specs.List.{flat_map, range_with_len}
use Rattle.alf_program.specs.declared.program.Num.{Num}
use Rattle.alf_program.specs.Tree.{BodyItem, Label, Do, Allocation, InitialValue, Function, WholeProgram, with_frames}
use Rattle.alf_program.specs.Tree as text
use Rattle.alf_check.specs.declared.rows.InitRow.{InitRow}
use Rattle.alf_check.specs.Blocks.{blocks_of}
use Rattle.alf_check.specs.CheckedPrograms.{NumberedStatement, Null, Store, BlockEnding, Fall, Jump, Switch, Call, Return, NumberedBlock, NumberedFunction, NumberedProgram}
use Rattle.alf_check.specs.Numbers.{Numbers, frame_rows, placed, func_number, numbers_in}

-- what control goes through at an item, if it does not end the block
abbrev pub statements_by : (List ℕ → ℕ) → BodyItem → List NumberedStatement
statements_by frame (Label label) = []
statements_by frame (Do text.Null) = Null ∷ []
statements_by frame (Do (text.Store at value)) = Store (with_frames frame at) (with_frames frame value) ∷ []
statements_by frame (Do (text.Jump label)) = []
statements_by frame (Do (text.Switch value targets others)) = []
statements_by frame (Do (text.Call label args result)) = []
statements_by frame (Do (text.Return value)) = []

-- targets by their numbers and blocks
abbrev pub numbered_targets : (List ℕ → ℕ) → List (Num × List ℕ) → List (ℕ × ℕ)
numbered_targets block targets = map (λ target. (target.0.bits, block target.1)) targets

-- what a block ends with where this is its last item, and what number the next block has
abbrev pub end_by : Numbers → ℕ → BodyItem → BlockEnding
end_by numbers next (Label label) = Fall next
end_by numbers next (Do text.Null) = Fall next
end_by numbers next (Do (text.Store at value)) = Fall next
end_by numbers next (Do (text.Jump label)) = Jump (numbers.block label)
end_by numbers next (Do (text.Switch value targets others)) = Switch (with_frames numbers.frame value) (numbered_targets numbers.block targets) (numbers.block others)
end_by numbers next (Do (text.Call label args result)) =
    Call (numbers.func label) (map (with_frames numbers.frame) args) (option_map (λ at. (numbers.frame at.0, at.1)) result) next
end_by numbers next (Do (text.Return value)) = Return (option_map (with_frames numbers.frame) value)

-- what the items of a block end with
abbrev pub numbered_end : Numbers → ℕ → List BodyItem → BlockEnding
numbered_end numbers next items = option_map_or (end_by numbers next) (slice_get items (length items - 1)) (Fall next)

-- the block of these items
abbrev pub numbered_block : Numbers → ℕ → List BodyItem → NumberedBlock
numbered_block numbers next items = record { statements = flat_map (statements_by numbers.frame) items; ending = numbered_end numbers next items }

-- blocks, of which the first has this number
abbrev pub numbered_blocks : Numbers → ℕ → List (List BodyItem) → List NumberedBlock
numbered_blocks numbers k [] = []
numbered_blocks numbers k (block ∷ blocks) = numbered_block numbers (suc k) block ∷ numbered_blocks numbers (suc k) blocks

-- what the frame of the name holds at first
abbrev pub numbered_init : ℕ → List Allocation → InitialValue → InitRow
numbered_init start frames init = record { frame = unwrap_or (placed start frames init.name) 0; offset = init.offset; num = init.num }

-- what frames hold at first
abbrev pub numbered_inits : ℕ → List Allocation → List InitialValue → List InitRow
numbered_inits start frames inits = map (numbered_init start frames) inits

-- a function whose first frame has this number
abbrev pub numbered_function : WholeProgram → ℕ → Function → NumberedFunction
numbered_function whole first func = record {
  name = func.name;
  args = range_with_len first (length func.args);
  frames = range_with_len first (length func.args + length func.decls);
  inits = numbered_inits (first + length func.args) func.decls func.inits;
  blocks = numbered_blocks (numbers_in whole first func) 0 (blocks_of func.items);
}

-- functions, of which the first has this first frame
abbrev pub functions_from : WholeProgram → ℕ → List Function → List NumberedFunction
functions_from whole first [] = []
functions_from whole first (func ∷ funcs) = numbered_function whole first func ∷ functions_from whole (first + (length func.args + length func.decls)) funcs

-- the exported frame of the name
abbrev pub export_number : WholeProgram → List ℕ → ℕ
export_number whole name = unwrap_or (placed 0 whole.decls name) 0

-- the program, which starts with the function of this name
abbrev pub numbered : WholeProgram → List ℕ → NumberedProgram
numbered whole root = record {
  frames = frame_rows whole;
  funcs = functions_from whole (length whole.decls) whole.funcs;
  inits = numbered_inits 0 whole.decls whole.inits;
  exports = map (export_number whole) whole.exports;
  root = func_number whole.funcs root;
}
