-- Faults of a program's names and sizes, and lists of them.
--   Duplicate name      what has this name has it twice
--   Unknown name        nothing of this name stands where it is looked for
--   Size name number    a size rule is broken in the function of this name at its item of this number, or, with no number, at the frame of this name
--   when test fault     the fault, where the test holds
--   each_from gives i list   what the members give, one after the other, each with its place; the first has place i
--   any_from test i list     a member passes the test at its place
--   earliest faults  the first, if there is one
--   is_exactly n found  something was found, and it is n
use Rattle.std.specs.Prelude.{ℕ, ◌+◌, ◌==◌, Bool, true, false, ◌||◌, List, [], ◌∷◌, ◌++◌, Option, Some, None}

-- a fault
pub data Fault : Type 0 where
  Duplicate : List ℕ → Fault
  Unknown : List ℕ → Fault
  Size : List ℕ → Option ℕ → Fault

-- the fault, where the test holds
abbrev pub when : Bool → Fault → List Fault
when true fault = fault ∷ []
when false fault = []

-- what the members give, each with its place
abbrev pub each_from : {A : Type 0} → (ℕ → A → List Fault) → ℕ → List A → List Fault
each_from gives i [] = []
each_from gives i (x ∷ xs) = gives i x ++ each_from gives (i + 1) xs

-- a member passes the test at its place
abbrev pub any_from : {A : Type 0} → (ℕ → A → Bool) → ℕ → List A → Bool
any_from test i [] = false
any_from test i (x ∷ xs) = test i x || any_from test (i + 1) xs

-- the first fault, if there is one
abbrev pub earliest : List Fault → Option Fault
earliest [] = None
earliest (fault ∷ faults) = Some fault

-- something was found, and it is n
abbrev pub is_exactly : ℕ → Option ℕ → Bool
is_exactly n None = false
is_exactly n (Some found) = found == n
