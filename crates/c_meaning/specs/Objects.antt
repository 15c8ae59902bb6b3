-- The objects and the functions of a unit, by their numbers.
--   Object                 an object: the token that declares it, the function that owns it, if one does, and its size in bits
--   objects_of unit        the globals in order, then for each function its parameters and locals, in the order of the text
--   object_at objects token   the number of the object that this token declares; where there is none, the number after the last
--   Function               a function that is defined: its name, what it gives, its parameters, what is known in its block, and its block
--   functions_of unit      those of a unit, in order
--   Program, program_of unit   what the meaning of a unit is made from: its tokens, its objects and its functions
--   integers_of unit       the tokens of the global integers, in order
use Rattle.std.specs.Prelude.{ℕ, ◌+◌, ◌*◌, ◌==◌, List, [], ◌∷◌, ◌++◌, map, Option, Some, None, slice_get, if◌then◌else◌}
use Rattle.std.specs.Option.{option_map_or}
use Rattle.alf_ops.specs.declared.history.FrameShape.{FrameShape}
use Rattle.c_unit.specs.declared.types.Integer.{Integer}
use Rattle.c_unit.specs.declared.types.Scalar.{Scalar}
use Rattle.c_unit.specs.declared.types.Scalar.TheVariants as scalars
use Rattle.c_unit.specs.declared.types.Outcome.{Outcome}
use Rattle.c_unit.specs.declared.types.Outcome.TheVariants as outcomes
use Rattle.c_unit.specs.declared.external.Parameter.{Parameter}
use Rattle.c_unit.specs.Tree.{LocalShapeTree, LocalInteger, LocalPointer, LocalArray, LocalTree, Statement, Empty, Declares, Block, If, IfElse, While, Do, For, ForAfter, Switch, Case, Default, Break, Continue, Returns, Does, Statements, Nothing, Then, ShapeTree, GlobalInteger, GlobalArray, FunctionOf, DeclaratorTree, ExternalTree, Declaration, Definition, statements_of}
use Rattle.c_unit.specs.Units.{Word, UnitTree}
use Rattle.c_rules.specs.Names.{Scope, worth_at, number_of}
use Rattle.c_rules.specs.Units.{File, element_of, with_parameters, external_after}
use Rattle.c_meaning.specs.Values.{bits_of_type}

-- ---- objects

pub record Object : Type 0 where
  pub token : ℕ
  pub owner : Option ℕ
  pub bits : ℕ

abbrev pub bits_of_scalar : Scalar → ℕ
bits_of_scalar (scalars.Integer i) = bits_of_type i
bits_of_scalar (scalars.Pointer i) = 32

-- how many elements the token of an array's size gives it
abbrev pub count_at : List Word → ℕ → ℕ
count_at words size = number_of (worth_at words size)

abbrev pub bits_of_local : List Word → Integer → LocalShapeTree → ℕ
bits_of_local words kind (LocalInteger first) = bits_of_type kind
bits_of_local words kind (LocalPointer first) = 32
bits_of_local words kind (LocalArray size firsts) = count_at words size * bits_of_type kind

abbrev pub local_object : List Word → ℕ → Integer → LocalTree → Object
local_object words owner kind local = record { token = local.name; owner = Some owner; bits = bits_of_local words kind local.shape }

abbrev mutual
  -- what a statement of the function declares
  pub locals_in : List Word → ℕ → Statement → List Object
  locals_in words owner (Empty token) = []
  locals_in words owner (Declares first kind locals) = map (local_object words owner kind) locals
  locals_in words owner (Block body) = all_locals_in words owner body
  locals_in words owner (If condition body) = locals_in words owner body
  locals_in words owner (IfElse condition body otherwise) = locals_in words owner body ++ locals_in words owner otherwise
  locals_in words owner (While condition body) = locals_in words owner body
  locals_in words owner (Do body condition) = locals_in words owner body
  locals_in words owner (For condition after body) = locals_in words owner body
  locals_in words owner (ForAfter first condition after body) = locals_in words owner first ++ locals_in words owner body
  locals_in words owner (Switch value body) = all_locals_in words owner body
  locals_in words owner (Case token c) = []
  locals_in words owner (Default token) = []
  locals_in words owner (Break token) = []
  locals_in words owner (Continue token) = []
  locals_in words owner (Returns token value) = []
  locals_in words owner (Does effect) = []

  pub all_locals_in : List Word → ℕ → Statements → List Object
  all_locals_in words owner Nothing = []
  all_locals_in words owner (Then s rest) = locals_in words owner s ++ all_locals_in words owner rest

-- a parameter without a name is known by its first token
abbrev pub token_of_parameter : Parameter → ℕ
token_of_parameter p = option_map_or (λ name. name) p.name p.first

abbrev pub parameter_object : ℕ → Parameter → Object
parameter_object owner p = record { token = token_of_parameter p; owner = Some owner; bits = bits_of_scalar p.kind }

-- the parameters and locals of the functions, from this number on
abbrev pub owned_in : List Word → ℕ → List ExternalTree → List Object
owned_in words owner [] = []
owned_in words owner (Declaration first o ds ∷ xs) = owned_in words owner xs
owned_in words owner (Definition first o name params body ∷ xs) =
    map (parameter_object owner) params ++ (all_locals_in words owner (statements_of body) ++ owned_in words (owner + 1) xs)

abbrev pub global_object : List Word → Integer → ℕ → ShapeTree → List Object
global_object words kind name (GlobalInteger first) = record { token = name; owner = None; bits = bits_of_type kind } ∷ []
global_object words kind name (GlobalArray size firsts) = record { token = name; owner = None; bits = count_at words size * bits_of_type kind } ∷ []
global_object words kind name (FunctionOf params) = []

abbrev pub globals_declared : List Word → Integer → List DeclaratorTree → List Object
globals_declared words kind [] = []
globals_declared words kind (d ∷ ds) = global_object words kind d.name d.shape ++ globals_declared words kind ds

abbrev pub globals_in : List Word → List ExternalTree → List Object
globals_in words [] = []
globals_in words (Declaration first o ds ∷ xs) = globals_declared words (element_of o) ds ++ globals_in words xs
globals_in words (Definition first o name params body ∷ xs) = globals_in words xs

abbrev pub objects_of : UnitTree → List Object
objects_of unit = globals_in unit.words unit.externals ++ owned_in unit.words 0 unit.externals

-- the number of the object that this token declares
abbrev pub object_at : List Object → ℕ → ℕ
object_at [] token = 0
object_at (o ∷ os) token = if o.token == token then 0 else object_at os token + 1

-- the table of objects as histories take it
abbrev pub shape_of_object : Object → FrameShape
shape_of_object o = record { owner = o.owner; bits = o.bits }

-- ---- functions

pub record Function : Type 0 where
  pub name : ℕ
  pub result : Outcome
  pub parameters : List Parameter
  pub scopes : List Scope
  pub body : Statements

abbrev pub functions_in : File → List ExternalTree → List Function
functions_in file [] = []
functions_in file (Declaration first o ds ∷ xs) = functions_in (external_after file (Declaration first o ds)) xs
functions_in file (Definition first o name params body ∷ xs) =
    record {
      name = name;
      result = o;
      parameters = params;
      scopes = with_parameters [] params ∷ (external_after file (Definition first o name params body)).scope ∷ [];
      body = statements_of body;
    }
    ∷ functions_in (external_after file (Definition first o name params body)) xs

abbrev pub functions_of : UnitTree → List Function
functions_of unit = functions_in (record { scope = []; made = [] }) unit.externals

-- ---- programs

pub record Program : Type 0 where
  pub words : List Word
  pub objects : List Object
  pub functions : List Function

abbrev pub program_of : UnitTree → Program
program_of unit = record { words = unit.words; objects = objects_of unit; functions = functions_of unit }

abbrev pub shapes_of : Program → List FrameShape
shapes_of program = map shape_of_object program.objects

-- the function with this number; where there is none, one that does nothing
abbrev pub no_function : Function
no_function = record { name = 0; result = outcomes.Nothing; parameters = []; scopes = []; body = Nothing }

abbrev pub function_at : Program → ℕ → Function
function_at program f = option_map_or (λ function. function) (slice_get program.functions f) no_function

-- ---- global integers

abbrev pub integer_declared : ℕ → ShapeTree → List ℕ
integer_declared name (GlobalInteger first) = name ∷ []
integer_declared name (GlobalArray size firsts) = []
integer_declared name (FunctionOf params) = []

abbrev pub integers_declared : List DeclaratorTree → List ℕ
integers_declared [] = []
integers_declared (d ∷ ds) = integer_declared d.name d.shape ++ integers_declared ds

abbrev pub integers_in : List ExternalTree → List ℕ
integers_in [] = []
integers_in (Declaration first o ds ∷ xs) = integers_declared ds ++ integers_in xs
integers_in (Definition first o name params body ∷ xs) = integers_in xs

abbrev pub integers_of : UnitTree → List ℕ
integers_of unit = integers_in unit.externals
