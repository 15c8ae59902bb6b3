-- Functions and their declarations.
--   HasFunction words scope token o ps   the name is that of a function in the scope, which gives o and has parameters of these types
--   last file xs             what is known at the end of the file
--   EntryAgrees unit e       a function that is defined under the entry's name has the entry's type
use Rattle.std.proofs.Common.{◌≡◌, ℕ, List, [], ◌∷◌, slice_get, Some}
use Rattle.std.specs.Prelude.{⊤}
use Rattle.c_unit.specs.declared.types.Scalar.{Scalar}
use Rattle.c_unit.specs.declared.types.Outcome.{Outcome}
use Rattle.c_unit.specs.Tree.{ExternalTree, Declaration, Definition}
use Rattle.c_unit.specs.Units.{Word, UnitTree}
use Rattle.c_rules.specs.Names.{Bound, Variable, Array, Function, Entry, Scope, text_at, named}
use Rattle.c_rules.specs.Units.{types_of, File, external_after}
use Rattle.c_meaning.specs.Objects as meaning
use Rattle.c_meaning.specs.Objects.{functions_of}

-- ---- entries of scopes

abbrev pub EachEntry : (Entry → Type 0) → Scope → Type 0
EachEntry P [] = ⊤
EachEntry P (e ∷ es) = P e × EachEntry P es

abbrev pub EachScope : (Entry → Type 0) → List Scope → Type 0
EachScope P [] = ⊤
EachScope P (scope ∷ scopes) = EachEntry P scope × EachScope P scopes

-- ---- functions of a scope

-- the name is that of a function which gives o and has parameters of these types
pub record HasFunction (words : List Word) (scope : Scope) (token : ℕ) (o : Outcome) (ps : List Scalar) : Type 0 where
  pub entry : Entry
  pub found : named words token scope ≡ Some entry
  pub is : entry.bound ≡ Function o ps

module _ (words : List Word) where
  -- what is known at the end of the file
  abbrev pub last : File → List ExternalTree → File
  last file [] = file
  last file (x ∷ xs) = last (external_after file x) xs

-- ---- entries and definitions

-- a function that is defined under the entry's name has the entry's type
abbrev pub EntryAgrees : UnitTree → Entry → Type 0
EntryAgrees unit e = (o : Outcome) (ps : List Scalar) → e.bound ≡ Function o ps → (i : ℕ) (function : meaning.Function) → slice_get (functions_of unit) i ≡ Some function
    → text_at unit.words function.name ≡ text_at unit.words e.token → (function.result ≡ o) × (types_of function.parameters ≡ ps)
