-- Members that are read by their place, and walks that stop at the first fault.
use Rattle.std.proofs.Common.{◌≡◌, ◌<◌, ◌+◌, ℕ, List, map, length, get_or, drop, Some, None, refl, ap, ◌∙◌}
use Rattle.std.specs.List.{slice_get, flat_map}
use Rattle.std.specs.Option.{option_map, option_or}
use Rattle.std.proofs.lemmas.Option.{slice_get-map, slice_get_read}
use Rattle.std.proofs.lemmas.List.{at_drop_more}
use Rattle.alf_faults.specs.Fault.{Fault, earliest}
use Rattle.alf_faults.proofs.EarliestFaults.{earliest-append}

-- what the member of this place stands for
pub read_of : {A B : Type 0} (f : A → B) (xs : List A) (i : ℕ) (x : A) → i < length xs → x ≡ get_or xs i x
    → slice_get (map f xs) i ≡ Some (f x)
read_of f xs i x low is = slice_get-map f xs i ∙ ap (option_map f) (slice_get_read xs (length xs) i x refl low is)

-- the faults from a member on: its own, and those after it
walk_turn : {A B : Type 0} (gives : B → List Fault) (f : A → B) (xs : List A) (i : ℕ) (x : A) → i < length xs
    → x ≡ get_or xs i x
    → earliest (flat_map gives (map f (drop i xs))) ≡ option_or (earliest (gives (f x))) (earliest (flat_map gives (map f (drop (i + 1) xs))))
walk_turn gives f xs i x low is =
    at_drop_more (λ ys. earliest (flat_map gives (map f ys))) xs i x low ∙ rw (← is) (earliest-append (gives (f x)) (flat_map gives (map f (drop (i + 1) xs))))

-- a fault of a member is the first from there on
pub walk_found : {A B : Type 0} (gives : B → List Fault) (f : A → B) (xs : List A) (i : ℕ) (x : A) (fault : Fault)
    → i < length xs → x ≡ get_or xs i x
    → Some fault ≡ earliest (gives (f x)) → Some fault ≡ earliest (flat_map gives (map f (drop i xs)))
walk_found gives f xs i x fault low is found = rw (walk_turn gives f xs i x low is, ← found) refl

-- where a member has none, the first from there on is the first after it
pub walk_passed : {A B : Type 0} (gives : B → List Fault) (f : A → B) (xs : List A) (i : ℕ) (x : A) → i < length xs
    → x ≡ get_or xs i x
    → None ≡ earliest (gives (f x)) → earliest (flat_map gives (map f (drop (i + 1) xs))) ≡ earliest (flat_map gives (map f (drop i xs)))
walk_passed gives f xs i x low is none = rw (walk_turn gives f xs i x low is, ← none) refl
