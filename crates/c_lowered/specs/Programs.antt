-- Units, lowered.
--   last_return o            what stands at the end of each function: 0 is returned, or nothing
--   function_items program f the items of function f
--   lowered_function program f function   function f, lowered
--   lowered unit             the program that a unit is lowered to
use Rattle.std.specs.Prelude.{ℕ, suc, List, [], ◌∷◌, map, Some, None}
use Rattle.alf_program.specs.Tree.{Return, BodyItem, Do, WholeProgram}
use Rattle.alf_program.specs.Tree as alf
use Rattle.c_unit.specs.declared.types.Outcome.{Outcome}
use Rattle.c_unit.specs.declared.types.Outcome.TheVariants as outcomes
use Rattle.c_unit.specs.Units.{UnitTree}
use Rattle.c_meaning.specs.Objects.{Program, Function, program_of, integers_of}
use Rattle.c_lowered.specs.Names.{frame_of, function_name}
use Rattle.c_lowered.specs.Values.{whole, cut}
use Rattle.c_lowered.specs.Statements.{Around, all_items_of}
use Rattle.c_lowered.specs.Frames.{all_frames_in, parameter_frames, global_frames, first_words}

-- the end of a function returns 0, converted, or nothing
abbrev pub last_return : Outcome → BodyItem
last_return outcomes.Nothing = Do (Return None)
last_return (outcomes.Integer i) = Do (Return (Some (cut i (whole 0))))

-- no `break` and no `continue` leads out of a function
abbrev pub nowhere : Around
nowhere = record { break = []; continue = [] }

abbrev pub function_items : Program → ℕ → Function → List BodyItem
function_items program f function =
    all_items_of (record { program = program; function = f }) function.scopes function.body 0 0 nowhere (last_return function.result ∷ [])

abbrev pub lowered_function : Program → ℕ → Function → alf.Function
lowered_function program f function = record {
  name = function_name program f;
  args = parameter_frames program function.parameters;
  decls = all_frames_in program f 0 function.body;
  inits = [];
  items = function_items program f function;
}

-- the functions, of which the first has this number
abbrev pub lowered_from : Program → ℕ → List Function → List alf.Function
lowered_from program f [] = []
lowered_from program f (function ∷ functions) = lowered_function program f function ∷ lowered_from program (suc f) functions

abbrev pub lowered : UnitTree → WholeProgram
lowered unit = record {
  exports = map (frame_of (program_of unit)) (integers_of unit);
  labels = [];
  decls = global_frames (program_of unit);
  inits = first_words (program_of unit) unit.externals;
  funcs = lowered_from (program_of unit) 0 (program_of unit).functions;
}
