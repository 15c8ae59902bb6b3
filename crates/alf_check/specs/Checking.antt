-- When a program passes the checks, and what is told of one that does not.
--   called_by funcs item      the function that the item calls, if it is a call
--   calls_in whole            for each function those that it calls, in the order of the text
--   name_at funcs f           the name of function f
--   Passes whole root         nothing is wrong with the names and the sizes, no calls lead from a function back to it, and there is a function of this name to start with
--   HasRanks calls            the functions have ranks, and each call leads from a higher one to a lower one
--   IsRecursion whole names   the names of the functions on the first cycle of calls
--   IsTold whole root fault   what the fault says is true, and nothing that is looked for before it is wrong
use Rattle.std.specs.Prelude.{◌≡◌, ℕ, List, [], ◌∷◌, ⊤, map, None, Some, IsSome, slice_index_or}
use Rattle.std.specs.List.{flat_map}
use Rattle.std.specs.Option.{option_map_or}
use Rattle.alf_program.specs.Tree.{BodyItem, Function, WholeProgram, call_of}
use Rattle.alf_faults.specs.Places.{function_place}
use Rattle.alf_faults.specs.Fault.{Unknown, Duplicate, Size, earliest}
use Rattle.alf_faults.specs.Faults.{faults_in}
use Rattle.graph_walks.specs.Calls.{OnCycle, IsFirstCycle, IsRanked}
use Rattle.alf_check.specs.declared.fault.CheckFault.{CheckFault}
use Rattle.alf_check.specs.declared.fault.CheckFault.TheVariants as told
use Rattle.alf_check.specs.Numbers.{func_number}

-- the function that the item calls
abbrev pub called_by : List Function → BodyItem → List ℕ
called_by funcs item = option_map_or (λ call. func_number funcs call.func ∷ []) (call_of item) []

-- for each function those that it calls
abbrev pub calls_among : List Function → List Function → List (List ℕ)
calls_among all funcs = map (λ func. flat_map (called_by all) func.items) funcs

abbrev pub calls_in : WholeProgram → List (List ℕ)
calls_in whole = calls_among whole.funcs whole.funcs

-- the name of function f
abbrev pub name_at : List Function → ℕ → List ℕ
name_at funcs f = slice_index_or (map (λ func. func.name) funcs) f []

-- nothing is wrong
pub record Passes (whole : WholeProgram) (root : List ℕ) : Type 0 where
  pub sound : faults_in whole ≡ []
  pub falls : (f : ℕ) → OnCycle (calls_in whole) f → ⊥
  pub starts : IsSome (function_place whole.funcs root)

-- the functions have ranks, and each call leads from a higher one to a lower one
pub record HasRanks (calls : List (List ℕ)) : Type 0 where
  pub ranks : List ℕ
  pub ranked : IsRanked calls ranks

-- the names of the functions on the first cycle of calls
pub record IsRecursion (whole : WholeProgram) (names : List (List ℕ)) : Type 0 where
  pub sound : faults_in whole ≡ []
  pub path : List ℕ
  pub first : IsFirstCycle (calls_in whole) path
  pub named : names ≡ map (name_at whole.funcs) path

-- no function has the root's name
pub record IsRootless (whole : WholeProgram) (root name : List ℕ) : Type 0 where
  pub sound : faults_in whole ≡ []
  pub falls : (f : ℕ) → OnCycle (calls_in whole) f → ⊥
  pub none : function_place whole.funcs root ≡ None
  pub named : name ≡ root

-- what the fault says is true; a want of memory says nothing
abbrev pub IsTold : WholeProgram → List ℕ → CheckFault → Type 0
IsTold whole root (told.UnknownName name) = earliest (faults_in whole) ≡ Some (Unknown name)
IsTold whole root (told.DuplicateName name) = earliest (faults_in whole) ≡ Some (Duplicate name)
IsTold whole root (told.Size name number) = earliest (faults_in whole) ≡ Some (Size name number)
IsTold whole root (told.Recursion names) = IsRecursion whole names.items
IsTold whole root (told.Root name) = IsRootless whole root name
IsTold whole root told.Memory = ⊤
