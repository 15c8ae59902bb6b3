-- Faults of a unit, and lists of them. A fault names a token, by its number.
--   Unknown token     the name at the token is not known there
--   Duplicate token   the name at the token is declared or defined there, and was before
--   Mistyped token    the smallest part that is wrong begins with the token
--   when test fault   the fault, where the test holds
--   each gives xs     what the members give, one after the other
--   earliest faults   the first, if there is one
use Rattle.std.specs.Prelude.{ℕ, Bool, true, false, List, [], ◌∷◌, ◌++◌, Option, Some, None}

pub data Fault : Type 0 where
  Unknown : ℕ → Fault
  Duplicate : ℕ → Fault
  Mistyped : ℕ → Fault

-- the fault, where the test holds
abbrev pub when : Bool → Fault → List Fault
when true fault = fault ∷ []
when false fault = []

-- what the members give, one after the other
abbrev pub each : {A : Type 0} → (A → List Fault) → List A → List Fault
each gives [] = []
each gives (x ∷ xs) = gives x ++ each gives xs

-- the first, if there is one
abbrev pub earliest : List Fault → Option Fault
earliest [] = None
earliest (fault ∷ faults) = Some fault
