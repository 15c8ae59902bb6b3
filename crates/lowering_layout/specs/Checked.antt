-- The names of a program of C differ, by the checks.
use Rattle.std.proofs.Common.{◌≡◌, ℕ, false, List, None, Some}
use Rattle.c_unit.specs.Units.{Word}
use Rattle.c_rules.specs.Names.{Scope, is_declared}
use Rattle.c_rules.specs.Calls.{is_defined}
use Rattle.c_meaning.specs.Objects.{Object, Function}

-- ---- tests

module _ (words : List Word) where
  -- ---- what a function owns

  abbrev pub OwnedBy : ℕ → Object → Type 0
  OwnedBy f o = o.owner ≡ Some f

  -- ---- globals

  abbrev pub IsGlobal : Object → Type 0
  IsGlobal o = o.owner ≡ None

  -- the name at the token does not stand in the scope
  abbrev pub IsNew : Scope → ℕ → Type 0
  IsNew scope token = is_declared words scope token ≡ false

  -- what is new after declarators was new before them, and is none of them
  abbrev pub NewAfter : Scope → Object → Type 0
  NewAfter scope o = IsNew scope o.token

  -- ---- functions

  abbrev pub NotMade : List ℕ → Function → Type 0
  NotMade made f = is_defined words made f.name ≡ false
