-- Faults of calls and of values.
--   Use                   how a call is used: as a statement, or for its value, where a type may be wanted
--   is_defined words defined token   some function of this name is defined; `defined` has the names of definitions
--   use_faults way o token   what the function gives does not suit its use
--   argument_faults words scopes args params   those of arguments, each with the type of its parameter
--   call_faults words defined scopes way call  those of a call: its name, its use and the count, then its arguments
--   value_faults words defined scopes wanted value   those of a value where such a type is wanted
use Rattle.std.specs.Prelude.{ℕ, ◌==◌, Bool, not, List, [], ◌∷◌, ◌++◌, Option, Some, None, length, if◌then◌else◌}
use Rattle.std.specs.List.{list_any}
use Rattle.std.specs.Str.{bytes_eq}
use Rattle.c_unit.specs.declared.types.Scalar.{Scalar}
use Rattle.c_unit.specs.declared.types.Scalar.TheVariants as scalars
use Rattle.c_unit.specs.declared.types.Outcome.{Outcome}
use Rattle.c_unit.specs.declared.types.Outcome.TheVariants as outcomes
use Rattle.c_unit.specs.Tree.{Expression, CallTree, ValueTree, OfExpression, OfCall}
use Rattle.c_unit.specs.Units.{Word}
use Rattle.c_rules.specs.Faults.{Fault, Unknown, Mistyped, when}
use Rattle.c_rules.specs.Names.{Bound, Variable, Array, Function, Entry, Scope, text_at, look_up}
use Rattle.c_rules.specs.Expressions.{faults_of, unsuited, wanted_faults}

pub data Use : Type 0 where
  Dropped : Use
  Valued : Option Scalar → Use

-- some function of this name is defined
abbrev pub is_defined : List Word → List ℕ → ℕ → Bool
is_defined words defined token = list_any (λ other. bytes_eq (text_at words other) (text_at words token)) defined

-- the result of a `void` function is not used, and another suits what is wanted
abbrev pub use_faults : Use → Outcome → ℕ → List Fault
use_faults Dropped o token = []
use_faults (Valued wanted) outcomes.Nothing token = Mistyped token ∷ []
use_faults (Valued None) (outcomes.Integer i) token = []
use_faults (Valued (Some wanted)) (outcomes.Integer i) token = unsuited wanted (Some (scalars.Integer i)) token

-- arguments, each with the type of its parameter as far as there are parameters
abbrev pub argument_faults : List Word → List Scope → List Expression → List Scalar → List Fault
argument_faults words scopes [] params = []
argument_faults words scopes (e ∷ es) [] = faults_of words scopes e ++ argument_faults words scopes es []
argument_faults words scopes (e ∷ es) (p ∷ ps) = wanted_faults words scopes (Some p) e ++ argument_faults words scopes es ps

abbrev pub function_faults : Use → Outcome → ℕ → ℕ → ℕ → List Fault
function_faults way o given taken token = use_faults way o token ++ when (not (given == taken)) (Mistyped token)

abbrev pub bound_faults : List Word → List ℕ → List Scope → Use → CallTree → Bound → List Fault
bound_faults words defined scopes way call (Variable t) = Mistyped call.name ∷ argument_faults words scopes call.arguments []
bound_faults words defined scopes way call (Array i) = Mistyped call.name ∷ argument_faults words scopes call.arguments []
bound_faults words defined scopes way call (Function o ps) =
    (if is_defined words defined call.name then function_faults way o (length call.arguments) (length ps) call.name else Unknown call.name ∷ [])
    ++ argument_faults words scopes call.arguments ps

abbrev pub entry_faults : List Word → List ℕ → List Scope → Use → CallTree → Option Entry → List Fault
entry_faults words defined scopes way call None = Unknown call.name ∷ argument_faults words scopes call.arguments []
entry_faults words defined scopes way call (Some e) = bound_faults words defined scopes way call e.bound

abbrev pub call_faults : List Word → List ℕ → List Scope → Use → CallTree → List Fault
call_faults words defined scopes way call = entry_faults words defined scopes way call (look_up words scopes call.name)

abbrev pub value_faults : List Word → List ℕ → List Scope → Option Scalar → ValueTree → List Fault
value_faults words defined scopes wanted (OfExpression e) = wanted_faults words scopes wanted e
value_faults words defined scopes wanted (OfCall call) = call_faults words defined scopes (Valued wanted) call
