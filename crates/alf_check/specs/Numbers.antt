-- Numbers of names, by where they stand. A name that stands for nothing has number 0.
--   frame_rows whole           the frames: the global ones first, then function by function its arguments and its declarations
--   frames_before funcs k      how many frames the functions before function k have
--   first_frame whole k        the number of the first frame of function k
--   placed start frames name   the number of the first of the frames that has the name, where the first of all has number start
--   frame_number globals args decls first_arg first_decl name   the number of a frame that is global, or an argument or a declaration of a function
--   func_number funcs name     the number of the function of this name
--   block_number items label   the number of the block in which the label stands
--   Numbers, numbers_in        what each name in a function stands for
use Rattle.std.specs.Prelude.{ℕ, zero, suc, ◌+◌, Bool, List, [], ◌∷◌, ◌++◌, map, length, Option, Some, None, is_some, unwrap_or}
use Rattle.std.specs.Option.{option_map}
use Rattle.alf_program.specs.Tree.{BodyItem, Allocation, Function, WholeProgram}
use Rattle.alf_faults.specs.Places.{place_of, frame_place, function_place, label_place}
use Rattle.alf_check.specs.declared.rows.FrameRow.{FrameRow}
use Rattle.alf_check.specs.Blocks.{blocks_of}

-- the row of a frame of this owner
abbrev pub row_for : Option ℕ → Allocation → FrameRow
row_for owner frame = record { owner = owner; name = frame.name; bits = frame.bits }

-- the frames of one owner
abbrev pub rows_of : Option ℕ → List Allocation → List FrameRow
rows_of owner frames = map (row_for owner) frames

-- the frames of functions, of which the first has this number
abbrev pub rows_from : ℕ → List Function → List FrameRow
rows_from k [] = []
rows_from k (func ∷ funcs) = rows_of (Some k) func.args ++ (rows_of (Some k) func.decls ++ rows_from (suc k) funcs)

abbrev pub frame_rows : WholeProgram → List FrameRow
frame_rows whole = rows_of None whole.decls ++ rows_from 0 whole.funcs

-- how many frames the functions before function k have
abbrev pub frames_before : List Function → ℕ → ℕ
frames_before [] k = 0
frames_before (func ∷ funcs) zero = 0
frames_before (func ∷ funcs) (suc k) = (length func.args + length func.decls) + frames_before funcs k

-- the number of the first frame of function k
abbrev pub first_frame : WholeProgram → ℕ → ℕ
first_frame whole k = length whole.decls + frames_before whole.funcs k

-- the number of the first of the frames that has the name, where the first of all has number start
abbrev pub placed : ℕ → List Allocation → List ℕ → Option ℕ
placed start frames name = option_map (λ place. start + place) (frame_place frames name)

-- the number of a frame that is global, or an argument or a declaration of a function
abbrev pub frame_number : List Allocation → List Allocation → List Allocation → ℕ → ℕ → List ℕ → ℕ
frame_number globals args decls first_arg first_decl name =
    unwrap_or (placed 0 globals name) (unwrap_or (placed first_arg args name) (unwrap_or (placed first_decl decls name) 0))

abbrev pub func_number : List Function → List ℕ → ℕ
func_number funcs name = unwrap_or (function_place funcs name) 0

-- the label stands among these items
abbrev pub has_label : List ℕ → List BodyItem → Bool
has_label label items = is_some (label_place items label)

abbrev pub block_number : List BodyItem → List ℕ → ℕ
block_number items label = unwrap_or (place_of (has_label label) (blocks_of items)) 0

-- what each name in a function stands for
pub record Numbers : Type 0 where
  pub frame : List ℕ → ℕ
  pub func : List ℕ → ℕ
  pub block : List ℕ → ℕ

-- in a function whose first frame has this number
abbrev pub numbers_in : WholeProgram → ℕ → Function → Numbers
numbers_in whole first func = record {
  frame = frame_number whole.decls func.args func.decls first (first + length func.args);
  func = func_number whole.funcs;
  block = block_number func.items;
}
