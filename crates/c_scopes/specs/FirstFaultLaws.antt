-- First faults of lists in a row.
--   after_none        where the one has none, the first is that of the other
--   before_others     where the one has one, that is the first
use Rattle.std.proofs.Common.{◌≡◌, List, [], ◌∷◌, ◌++◌, Some, None, refl}
use Rattle.c_rules.specs.Faults.{Fault, earliest}

pub after_none : (xs ys : List Fault) → earliest xs ≡ None → earliest (xs ++ ys) ≡ earliest ys
after_none [] ys none = refl
after_none (x ∷ xs) ys none = cc

pub before_others : (xs ys : List Fault) {fault : Fault} → earliest xs ≡ Some fault → earliest (xs ++ ys) ≡ Some fault
before_others [] ys first = cc
before_others (x ∷ xs) ys first = first
