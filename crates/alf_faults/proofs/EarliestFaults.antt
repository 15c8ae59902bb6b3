-- The first fault of lists in a row.
use Rattle.std.proofs.Common.{◌≡◌, List, [], ◌∷◌, ◌++◌, refl}
use Rattle.std.specs.Option.{option_or}
use Rattle.alf_faults.specs.Fault.{Fault, earliest}

-- the first of the one list, or else the first of the other
pub earliest-append : (xs ys : List Fault) → earliest (xs ++ ys) ≡ option_or (earliest xs) (earliest ys)
earliest-append [] ys = refl
earliest-append (x ∷ xs) ys = refl

pub ruleset earliest_faults = (earliest-append)
