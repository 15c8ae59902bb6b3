-- Frames of a lowered program.
--   object_frame program o       the frame of an object: its name and its size
--   frames_in program f calls s  the frames of the locals and of the calls of a statement in function f, in the order of the text
--   all_frames_in program f calls ss   those of statements in a row
--   parameter_frames program ps  the frames of parameters
--   global_frames program        those of the globals, in order
--   first_words program xs       what the globals hold at first
use Rattle.std.specs.Prelude.{ℕ, zero, suc, ◌+◌, List, [], ◌∷◌, ◌++◌, map, Option}
use Rattle.std.specs.List.{flat_map}
use Rattle.std.specs.Option.{option_map_or}
use Rattle.alf_ops.specs.TwosComplement.{word}
use Rattle.alf_program.specs.declared.program.Num.{Num}
use Rattle.alf_program.specs.Tree.{Allocation, InitialValue}
use Rattle.c_unit.specs.declared.types.Integer.{Integer}
use Rattle.c_unit.specs.declared.types.Outcome.{Outcome}
use Rattle.c_unit.specs.declared.types.Outcome.TheVariants as outcomes
use Rattle.c_unit.specs.declared.types.Constant.{Constant}
use Rattle.c_unit.specs.declared.external.Parameter.{Parameter}
use Rattle.c_unit.specs.Tree.{CallTree, ValueTree, OfExpression, OfCall, EffectTree, Assigns, Updates, Steps, Calls, LocalShapeTree, LocalInteger, LocalPointer, LocalArray, LocalTree, Statement, Empty, Declares, Block, If, IfElse, While, Do, For, ForAfter, Switch, Case, Default, Break, Continue, Returns, Does, Statements, Nothing, Then, ShapeTree, GlobalInteger, GlobalArray, FunctionOf, DeclaratorTree, ExternalTree, Declaration, Definition}
use Rattle.c_rules.specs.Units.{element_of}
use Rattle.c_meaning.specs.Values.{bits_of_type, bytes_of_type, is_signed}
use Rattle.c_meaning.specs.Objects.{Program, Object, bits_of_scalar, bits_of_local, token_of_parameter, count_at}
use Rattle.c_meaning.specs.Statements.{constant_number, further_elements}
use Rattle.c_lowered.specs.Names.{call_name, frame_of}
use Rattle.c_lowered.specs.Effects.{result_of, calls_in_shape}
use Rattle.c_lowered.specs.Statements.{calls_in, calls_if}

abbrev pub object_frame : Program → ℕ → ℕ → Allocation
object_frame program token bits = record { name = frame_of program token; bits = bits }

-- ---- the frames of a function

abbrev pub result_frames : List ℕ → Outcome → List Allocation
result_frames name outcomes.Nothing = []
result_frames name (outcomes.Integer i) = record { name = name; bits = bits_of_type i } ∷ []

abbrev pub call_frames : Program → ℕ → ℕ → CallTree → List Allocation
call_frames program f calls call = result_frames (call_name program f calls) (result_of program call)

abbrev pub value_frames : Program → ℕ → ℕ → ValueTree → List Allocation
value_frames program f calls (OfExpression e) = []
value_frames program f calls (OfCall call) = call_frames program f calls call

abbrev pub first_frames : Program → ℕ → ℕ → Option ValueTree → List Allocation
first_frames program f calls first = option_map_or (value_frames program f calls) first []

abbrev pub effect_frames : Program → ℕ → ℕ → EffectTree → List Allocation
effect_frames program f calls (Assigns to token value) = value_frames program f calls value
effect_frames program f calls (Updates to op token e) = []
effect_frames program f calls (Steps operand up token) = []
effect_frames program f calls (Calls call) = call_frames program f calls call

abbrev pub last_frames : Program → ℕ → ℕ → Option EffectTree → List Allocation
last_frames program f calls last = option_map_or (effect_frames program f calls) last []

abbrev pub shape_frames : Program → ℕ → ℕ → LocalShapeTree → List Allocation
shape_frames program f calls (LocalInteger first) = first_frames program f calls first
shape_frames program f calls (LocalPointer first) = first_frames program f calls first
shape_frames program f calls (LocalArray size firsts) = []

-- a local stands before the calls of its initialiser
abbrev pub locals_frames : Program → ℕ → ℕ → Integer → List LocalTree → List Allocation
locals_frames program f calls kind [] = []
locals_frames program f calls kind (local ∷ locals) =
    object_frame program local.name (bits_of_local program.words kind local.shape)
    ∷ shape_frames program f calls local.shape ++ locals_frames program f (calls + calls_in_shape program local.shape) kind locals

abbrev mutual
  pub frames_in : Program → ℕ → ℕ → Statement → List Allocation
  frames_in program f calls (Empty token) = []
  frames_in program f calls (Declares first kind locals) = locals_frames program f calls kind locals
  frames_in program f calls (Block body) = all_frames_in program f calls body
  frames_in program f calls (If condition body) = frames_in program f calls body
  frames_in program f calls (IfElse condition body otherwise) = frames_in program f calls body ++ frames_in program f (calls + calls_in program body) otherwise
  frames_in program f calls (While condition body) = frames_in program f calls body
  frames_in program f calls (Do body condition) = frames_in program f calls body
  frames_in program f calls (For condition last body) = last_frames program f calls last ++ frames_in program f (calls + calls_if program last) body
  frames_in program f calls (ForAfter first condition last body) =
      frames_in program f calls first ++ (last_frames program f (calls + calls_in program first) last
      ++ frames_in program f (calls + calls_in program first + calls_if program last) body)
  frames_in program f calls (Switch value body) = all_frames_in program f calls body
  frames_in program f calls (Case token c) = []
  frames_in program f calls (Default token) = []
  frames_in program f calls (Break token) = []
  frames_in program f calls (Continue token) = []
  frames_in program f calls (Returns token value) = first_frames program f calls value
  frames_in program f calls (Does effect) = effect_frames program f calls effect

  pub all_frames_in : Program → ℕ → ℕ → Statements → List Allocation
  all_frames_in program f calls Nothing = []
  all_frames_in program f calls (Then s rest) = frames_in program f calls s ++ all_frames_in program f (calls + calls_in program s) rest

abbrev pub parameter_frame : Program → Parameter → Allocation
parameter_frame program p = object_frame program (token_of_parameter p) (bits_of_scalar p.kind)

abbrev pub parameter_frames : Program → List Parameter → List Allocation
parameter_frames program ps = map (parameter_frame program) ps

-- ---- globals

abbrev pub global_frame : Program → Object → List Allocation
global_frame program o = option_map_or (λ owner. []) o.owner (object_frame program o.token o.bits ∷ [])

abbrev pub global_frames : Program → List Allocation
global_frames program = flat_map (global_frame program) program.objects

-- a constant as an object of the type has it
abbrev pub number_of_type : Integer → ℕ → Num
number_of_type i w = record { signed = is_signed i; size = bits_of_type i; bits = w }

abbrev pub constant_num : Program → Integer → Constant → Num
constant_num program i c = number_of_type i (word (bits_of_type i) (constant_number program.words c))

abbrev pub first_num : Program → Integer → List Constant → Num
first_num program i [] = number_of_type i 0
first_num program i (c ∷ cs) = constant_num program i c

-- so many elements from an offset on; those without a constant are 0
abbrev pub element_words : Program → List ℕ → Integer → ℕ → ℕ → List Constant → List InitialValue
element_words program name i offset zero cs = []
element_words program name i offset (suc count) cs =
    record { name = name; offset = offset; num = first_num program i cs }
    ∷ element_words program name i (offset + bytes_of_type i) count (further_elements cs)

abbrev pub shape_words : Program → List ℕ → Integer → ShapeTree → List InitialValue
shape_words program name i (GlobalInteger first) =
    record { name = name; offset = 0; num = option_map_or (constant_num program i) first (number_of_type i 0) } ∷ []
shape_words program name i (GlobalArray size firsts) = element_words program name i 0 (count_at program.words size) (option_map_or (λ cs. cs) firsts [])
shape_words program name i (FunctionOf params) = []

abbrev pub declarators_words : Program → Integer → List DeclaratorTree → List InitialValue
declarators_words program i [] = []
declarators_words program i (d ∷ ds) = shape_words program (frame_of program d.name) i d.shape ++ declarators_words program i ds

abbrev pub first_words : Program → List ExternalTree → List InitialValue
first_words program [] = []
first_words program (Declaration first o ds ∷ xs) = declarators_words program (element_of o) ds ++ first_words program xs
first_words program (Definition first o name params body ∷ xs) = first_words program xs
