-- Faults of a whole unit.
--   definitions externals    the names of the functions that are defined, in order
--   File                     what is known where something stands at file level: the names before it, and which functions are defined by then
--   types_of params          the types of parameters
--   params_faults words scope params   a name that two parameters have
--   declared_faults first o params entry   another type of a function than before, which is wrong at the declaration's first token
--   external_faults words defined file x   faults of what stands at file level
--   faults_in unit           all faults of the unit, in the order of the text; at one declaration duplicates come first
use Rattle.std.specs.Prelude.{ℕ, Bool, true, false, not, ◌&&◌, List, [], ◌∷◌, ◌++◌, map, Option, Some, None, if◌then◌else◌}
use Rattle.c_unit.specs.declared.types.Integer.{Integer}
use Rattle.c_unit.specs.declared.types.Integer.TheVariants.{Int}
use Rattle.c_unit.specs.declared.types.Scalar.{Scalar}
use Rattle.c_unit.specs.declared.types.Scalar.TheVariants as scalars
use Rattle.c_unit.specs.declared.types.Outcome.{Outcome}
use Rattle.c_unit.specs.declared.types.Outcome.TheVariants as outcomes
use Rattle.c_unit.specs.declared.external.Parameter.{Parameter}
use Rattle.c_unit.specs.Tree.{ShapeTree, GlobalInteger, GlobalArray, FunctionOf, DeclaratorTree, ExternalTree, Declaration, Definition, statements_of}
use Rattle.c_unit.specs.Units.{Word, UnitTree}
use Rattle.c_rules.specs.Faults.{Fault, Duplicate, Mistyped, when}
use Rattle.c_rules.specs.Types.{same_scalar, same_outcome}
use Rattle.c_rules.specs.Names.{Bound, Variable, Array, Function, Entry, Scope, named}
use Rattle.c_rules.specs.Calls.{is_defined}
use Rattle.c_rules.specs.Statements.{twice_faults, array_faults, in_function, statements_faults}

-- ---- functions

abbrev pub definitions : List ExternalTree → List ℕ
definitions [] = []
definitions (Declaration first o ds ∷ xs) = definitions xs
definitions (Definition first o name params body ∷ xs) = name ∷ definitions xs

abbrev pub types_of : List Parameter → List Scalar
types_of params = map (λ p. p.kind) params

abbrev pub same_types : List Scalar → List Scalar → Bool
same_types [] [] = true
same_types [] (q ∷ qs) = false
same_types (p ∷ ps) [] = false
same_types (p ∷ ps) (q ∷ qs) = same_scalar p q && same_types ps qs

abbrev pub function_of : Outcome → List Parameter → Bound
function_of o params = Function o (types_of params)

abbrev pub with_parameter : Scope → Option ℕ → Scalar → Scope
with_parameter scope None kind = scope
with_parameter scope (Some name) kind = record { token = name; bound = Variable kind } ∷ scope

-- the parameters, in the scope of the function's outermost block
abbrev pub with_parameters : Scope → List Parameter → Scope
with_parameters scope [] = scope
with_parameters scope (p ∷ ps) = with_parameters (with_parameter scope p.name p.kind) ps

abbrev pub if_named : List Word → Scope → Option ℕ → List Fault
if_named words scope None = []
if_named words scope (Some name) = twice_faults words scope name

-- a name that two parameters have
abbrev pub params_faults : List Word → Scope → List Parameter → List Fault
params_faults words scope [] = []
params_faults words scope (p ∷ ps) = if_named words scope p.name ++ params_faults words (with_parameter scope p.name p.kind) ps

-- an object of the same name
abbrev pub is_function : Bound → Bool
is_function (Variable t) = false
is_function (Array i) = false
is_function (Function o ps) = true

abbrev pub object_faults : ℕ → Option Entry → List Fault
object_faults token None = []
object_faults token (Some e) = when (not (is_function e.bound)) (Duplicate token)

-- another type than before
abbrev pub is_of_type : Outcome → List Scalar → Bound → Bool
is_of_type o ps (Variable t) = true
is_of_type o ps (Array i) = true
is_of_type o ps (Function before qs) = same_outcome before o && same_types qs ps

abbrev pub declared_faults : ℕ → Outcome → List Parameter → Option Entry → List Fault
declared_faults first o params None = []
declared_faults first o params (Some e) = when (not (is_of_type o (types_of params) e.bound)) (Mistyped first)

-- ---- file level

pub record File : Type 0 where
  pub scope : Scope
  pub made : List ℕ

abbrev pub with_global : File → ℕ → Bound → File
with_global file name bound = record file { scope = record { token = name; bound = bound } ∷ file.scope }

abbrev pub element_of : Outcome → Integer
element_of outcomes.Nothing = Int
element_of (outcomes.Integer i) = i

abbrev pub global_bound : Outcome → ShapeTree → Bound
global_bound o (GlobalInteger first) = Variable (scalars.Integer (element_of o))
global_bound o (GlobalArray size firsts) = Array (element_of o)
global_bound o (FunctionOf params) = function_of o params

abbrev pub shape_faults : List Word → Scope → ℕ → Outcome → ℕ → ShapeTree → List Fault
shape_faults words scope first o name (GlobalInteger c) = twice_faults words scope name
shape_faults words scope first o name (GlobalArray size firsts) = twice_faults words scope name ++ array_faults words size firsts
shape_faults words scope first o name (FunctionOf params) =
    object_faults name (named words name scope) ++ (params_faults words [] params ++ declared_faults first o params (named words name scope))

abbrev pub with_declarators : Outcome → File → List DeclaratorTree → File
with_declarators o file [] = file
with_declarators o file (d ∷ ds) = with_declarators o (with_global file d.name (global_bound o d.shape)) ds

abbrev pub declarators_faults : List Word → ℕ → Outcome → File → List DeclaratorTree → List Fault
declarators_faults words first o file [] = []
declarators_faults words first o file (d ∷ ds) = shape_faults words file.scope first o d.name d.shape ++ declarators_faults words first o (with_global file d.name (global_bound o d.shape)) ds

-- a second definition, or an object of this name
abbrev pub made_faults : List Word → File → ℕ → List Fault
made_faults words file name = if is_defined words file.made name then Duplicate name ∷ [] else object_faults name (named words name file.scope)

abbrev pub external_after : File → ExternalTree → File
external_after file (Declaration first o ds) = with_declarators o file ds
external_after file (Definition first o name params body) = record { scope = record { token = name; bound = function_of o params } ∷ file.scope; made = name ∷ file.made }

abbrev pub external_faults : List Word → List ℕ → File → ExternalTree → List Fault
external_faults words defined file (Declaration first o ds) = declarators_faults words first o file ds
external_faults words defined file (Definition first o name params body) =
    made_faults words file name ++ (params_faults words [] params ++ (declared_faults first o params (named words name file.scope)
    ++ statements_faults words defined (in_function o) (with_parameters [] params ∷ (external_after file (Definition first o name params body)).scope ∷ []) (statements_of body)))

abbrev pub externals_faults : List Word → List ℕ → File → List ExternalTree → List Fault
externals_faults words defined file [] = []
externals_faults words defined file (x ∷ xs) = external_faults words defined file x ++ externals_faults words defined (external_after file x) xs

-- the whole unit
abbrev pub faults_in : UnitTree → List Fault
faults_in unit = externals_faults unit.words (definitions unit.externals) (record { scope = []; made = [] }) unit.externals
