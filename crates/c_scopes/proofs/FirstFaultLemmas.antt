-- On the way to the laws of first fault.
--   earliest-append   the first of the one list, or else the first of the other
--   no_faults         a list without a first fault has none
use Rattle.std.proofs.Common.{◌≡◌, List, [], ◌∷◌, ◌++◌, None, refl}
use Rattle.std.specs.Option.{option_or}
use Rattle.c_rules.specs.Faults.{Fault, earliest}

pub earliest-append : (xs ys : List Fault) → earliest (xs ++ ys) ≡ option_or (earliest xs) (earliest ys)
earliest-append [] ys = refl
earliest-append (x ∷ xs) ys = refl

pub no_faults : (xs : List Fault) → earliest xs ≡ None → xs ≡ []
no_faults [] none = refl
no_faults (x ∷ xs) none = cc
