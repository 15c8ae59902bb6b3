-- The faults of a program's names and sizes.
--   faults_in whole   all of them, in the order of the text
-- The text goes through the exported frames and labels, the global frames, what these hold at first, and the functions;
-- a function through its name, its arguments, its declarations, what these hold at first, and its items. At one place a
-- duplicate comes before unknown names, and these before a size.
use Rattle.std.specs.Prelude.{ℕ, not, List, [], ◌∷◌, ◌++◌, Option, Some, None, slice_get}
use Rattle.std.specs.List.{flat_map}
use Rattle.alf_program.specs.Tree.{BodyItem, Allocation, InitialValue, Function, WholeProgram}
use Rattle.alf_faults.specs.Places.{frame_place}
use Rattle.alf_faults.specs.Fault.{Fault, Unknown, Size, when, each_from}
use Rattle.alf_faults.specs.Duplicates.{frame_duplicates, function_duplicates, entry_duplicates}
use Rattle.alf_faults.specs.Unknowns.{unknown_function, entry_unknowns}
use Rattle.alf_faults.specs.Sizes.{start_fits, is_export_size, entry_fits}

-- the first frame of a name, if there is one
abbrev pub frame_at : List Allocation → Option ℕ → Option Allocation
frame_at frames None = None
frame_at frames (Some place) = slice_get frames place

-- an exported frame that is no frame, or one of another size than may be exported
abbrev pub export_faults_at : List ℕ → Option Allocation → List Fault
export_faults_at name None = Unknown name ∷ []
export_faults_at name (Some frame) = when (not (is_export_size frame.bits)) (Size name None)

abbrev pub export_faults : List Allocation → List ℕ → List Fault
export_faults frames name = export_faults_at name (frame_at frames (frame_place frames name))

-- what is held at first by no frame, or does not fit its frame
abbrev pub start_faults_at : InitialValue → Option Allocation → List Fault
start_faults_at start None = Unknown start.name ∷ []
start_faults_at start (Some frame) = when (not (start_fits frame.bits start)) (Size start.name None)

abbrev pub start_faults : List Allocation → InitialValue → List Fault
start_faults frames start = start_faults_at start (frame_at frames (frame_place frames start.name))

-- item i of function k
abbrev pub entry_faults : WholeProgram → ℕ → Function → ℕ → BodyItem → List Fault
entry_faults whole k func i item = entry_duplicates whole func i item ++ (entry_unknowns whole func item ++ when (not (entry_fits whole k func i item)) (Size func.name (Some i)))

-- the name and the frames of function k
abbrev pub header_faults : WholeProgram → ℕ → Function → List Fault
header_faults whole k func =
    function_duplicates whole.funcs k func ++ (each_from (frame_duplicates whole.decls [] func.args) 0 func.args
    ++ (each_from (frame_duplicates whole.decls func.args func.decls) 0 func.decls ++ flat_map (start_faults func.decls) func.inits))

-- function k
abbrev pub function_faults : WholeProgram → ℕ → Function → List Fault
function_faults whole k func = header_faults whole k func ++ each_from (entry_faults whole k func) 0 func.items

-- what stands before the functions
abbrev pub global_faults : WholeProgram → List Fault
global_faults whole =
    flat_map (export_faults whole.decls) whole.exports ++ (flat_map (unknown_function whole) whole.labels
    ++ (each_from (frame_duplicates [] [] whole.decls) 0 whole.decls ++ flat_map (start_faults whole.decls) whole.inits))

-- the whole program
abbrev pub faults_in : WholeProgram → List Fault
faults_in whole = global_faults whole ++ each_from (function_faults whole) 0 whole.funcs
