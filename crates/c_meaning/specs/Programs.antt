-- What whole programs do.
--   entered program f values history   the history after a function is entered with these arguments
--   body_done program n callees f history   what the block of function f does once it is entered; reaching its end returns 0, or nothing
--   function_done program n depth f values history   what a call does, where calls stand at most so deep in one another
--   Cell                               a cell of an object that the input gives, and its word
--   start_history unit root cells      the history at the start: the globals hold what they hold at first, the root is entered, and the cells are stored
--   ProgramOutcome                     the value that the root returned, if any, and for each global integer in order what it holds, or none; or a
--                                      fault; or none with so many turns
--   ending_within unit root n depth cells, ending unit root n cells   how the root ends
--   outcome unit root n cells          that of the program with this root and input, where each loop makes at most n turns at each of its executions
use Rattle.std.specs.Prelude.{ℕ, zero, suc, ◌+◌, List, [], ◌∷◌, map, length, Option, Some, None, slice_get}
use Rattle.std.specs.Option.{option_map_or}
use Rattle.std.specs.Result.{result_ok}
use Rattle.alf_ops.specs.declared.history.Value.{Value}
use Rattle.alf_ops.specs.declared.history.Value.TheVariants as values
use Rattle.alf_ops.specs.declared.history.RunFault.{RunFault}
use Rattle.alf_ops.specs.declared.history.RunEvent.TheVariants.{Enter, Leave, Store}
use Rattle.alf_ops.specs.declared.history.FrameShape.{FrameShape}
use Rattle.alf_ops.specs.Histories.{load}
use Rattle.alf_ops.specs.Values.{size_of}
use Rattle.c_unit.specs.declared.types.Integer.{Integer}
use Rattle.c_unit.specs.declared.types.Outcome.{Outcome}
use Rattle.c_unit.specs.declared.types.Outcome.TheVariants as outcomes
use Rattle.c_unit.specs.declared.types.Constant.{Constant}
use Rattle.c_unit.specs.declared.external.Parameter.{Parameter}
use Rattle.c_unit.specs.Tree.{ShapeTree, GlobalInteger, GlobalArray, FunctionOf, DeclaratorTree, ExternalTree, Declaration, Definition}
use Rattle.c_unit.specs.Units.{UnitTree}
use Rattle.c_rules.specs.Units.{element_of}
use Rattle.c_meaning.specs.Values.{bits_of_type, bytes_of_type}
use Rattle.c_meaning.specs.Objects.{Program, program_of, object_at, shapes_of, function_at, count_at, token_of_parameter, integers_of}
use Rattle.c_meaning.specs.Endings.{History, Ending, Normal, Broke, Continued, Returned, Faulted, UsedUp}
use Rattle.c_meaning.specs.Statements.{Callees, statements_done, zero_value, constant_value, first_element, further_elements, number_named}

-- ---- functions

-- each value is stored in the object of its parameter, in order
abbrev pub with_arguments : Program → List Parameter → List Value → History → History
with_arguments program [] values history = history
with_arguments program (p ∷ ps) [] history = history
with_arguments program (p ∷ ps) (value ∷ values) history =
    with_arguments program ps values (Store (object_at program.objects (token_of_parameter p)) 0 (size_of value) value ∷ history)

abbrev pub entered : Program → ℕ → List Value → History → History
entered program f values history = with_arguments program (function_at program f).parameters values (Enter f ∷ history)

-- what a function gives that reaches its end
abbrev pub at_end : Outcome → Option Value
at_end outcomes.Nothing = None
at_end (outcomes.Integer i) = Some (zero_value i)

-- the function is left; no `break` and no `continue` leads out of it
abbrev pub left : Outcome → ℕ → Ending → Ending
left o f (Normal history) = Returned (at_end o) (Leave f ∷ history)
left o f (Broke history) = Returned (at_end o) (Leave f ∷ history)
left o f (Continued history) = Returned (at_end o) (Leave f ∷ history)
left o f (Returned value history) = Returned value (Leave f ∷ history)
left o f (Faulted fault) = Faulted fault
left o f UsedUp = UsedUp

abbrev pub body_done : Program → ℕ → Callees → ℕ → History → Ending
body_done program n callees f history =
    left (function_at program f).result f
    (statements_done (record { program = program; result = (function_at program f).result; turns = n; callees = callees })
    (function_at program f).scopes (function_at program f).body history)

abbrev pub function_done : Program → ℕ → ℕ → Callees
function_done program n zero f values history = UsedUp
function_done program n (suc depth) f values history = body_done program n (function_done program n depth) f (entered program f values history)

-- ---- the start

abbrev pub elements_first : Program → ℕ → Integer → ℕ → ℕ → List Constant → History → History
elements_first program object kind offset zero cs history = history
elements_first program object kind offset (suc count) cs history =
    elements_first program object kind (offset + bytes_of_type kind) count (further_elements cs)
    (Store object offset (bits_of_type kind) (first_element program.words kind cs) ∷ history)

-- an integer or an array holds its constants, and 0 where none is given
abbrev pub global_first : Program → Integer → ℕ → ShapeTree → History → History
global_first program kind object (GlobalInteger first) history =
    Store object 0 (bits_of_type kind) (option_map_or (constant_value program.words kind) first (zero_value kind)) ∷ history
global_first program kind object (GlobalArray size firsts) history =
    elements_first program object kind 0 (count_at program.words size) (option_map_or (λ cs. cs) firsts []) history
global_first program kind object (FunctionOf params) history = history

abbrev pub declarators_first : Program → Integer → List DeclaratorTree → History → History
declarators_first program kind [] history = history
declarators_first program kind (d ∷ ds) history = declarators_first program kind ds (global_first program kind (object_at program.objects d.name) d.shape history)

abbrev pub globals_first : Program → List ExternalTree → History → History
globals_first program [] history = history
globals_first program (Declaration first o ds ∷ xs) history = globals_first program xs (declarators_first program (element_of o) ds history)
globals_first program (Definition first o name params body ∷ xs) history = globals_first program xs history

-- a cell that the input gives
pub record Cell : Type 0 where
  pub object : ℕ
  pub offset : ℕ
  pub size : ℕ
  pub word : ℕ

abbrev pub with_cells : List Cell → History → History
with_cells [] history = history
with_cells (c ∷ cs) history = with_cells cs (Store c.object c.offset c.size (values.Int c.size c.word) ∷ history)

abbrev pub start_history : UnitTree → ℕ → List Cell → History
start_history unit root cells = with_cells cells (entered (program_of unit) root [] (globals_first (program_of unit) unit.externals []))

-- ---- outcomes

pub data ProgramOutcome : Type 0 where
  Ended : Option Value → List (Option Value) → ProgramOutcome
  Stopped : RunFault → ProgramOutcome
  Unfinished : ProgramOutcome

abbrev pub bits_at : Program → ℕ → ℕ
bits_at program object = option_map_or (λ (shape : FrameShape). shape.bits) (slice_get (shapes_of program) object) 0

-- what the global integer that this token declares holds, or none where its load would fault
abbrev pub held : Program → History → ℕ → Option Value
held program history token =
    result_ok (load (shapes_of program) history (values.Ptr (object_at program.objects token) 0) (bits_at program (object_at program.objects token)))

abbrev pub outcome_of : UnitTree → Ending → ProgramOutcome
outcome_of unit (Normal history) = Ended None (map (held (program_of unit) history) (integers_of unit))
outcome_of unit (Broke history) = Ended None (map (held (program_of unit) history) (integers_of unit))
outcome_of unit (Continued history) = Ended None (map (held (program_of unit) history) (integers_of unit))
outcome_of unit (Returned value history) = Ended value (map (held (program_of unit) history) (integers_of unit))
outcome_of unit (Faulted fault) = Stopped fault
outcome_of unit UsedUp = Unfinished

-- calls nest as deep as this at most
abbrev pub ending_within : UnitTree → ℕ → ℕ → ℕ → List Cell → Ending
ending_within unit root n depth cells = body_done (program_of unit) n (function_done (program_of unit) n depth) root (start_history unit root cells)

-- calls nest as deep as there are functions and turns at most; in a program no call is too deep
abbrev pub ending : UnitTree → ℕ → ℕ → List Cell → Ending
ending unit root n cells = ending_within unit root n (length (program_of unit).functions + n) cells

abbrev pub root_of : UnitTree → List ℕ → ℕ
root_of unit name = number_named unit.words (program_of unit).functions name

abbrev pub outcome : UnitTree → List ℕ → ℕ → List Cell → ProgramOutcome
outcome unit root n cells = outcome_of unit (ending unit (root_of unit root) n cells)
