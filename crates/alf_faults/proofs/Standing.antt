-- Where the first member stands that passes.
use Rattle.std.proofs.Common.{◌≡◌, ◌+◌, ◌<◌, ℕ, suc, Bool, List, [], ◌∷◌, map, length, drop, get_or, drop-cons, zero-add, Option, Some, refl, ap, sym, ◌∙◌, subst, position, IfSome, if◌then◌else◌}
use Rattle.std.proofs.lemmas.List.{length-map}
use Rattle.std.specs.Option.{option_map}
use Rattle.lists.specs.TestLaws.{by_test}
use Rattle.alf_faults.specs.Places.{place_of}
use Rattle.alf_faults.specs.PlaceLaws.{position_place, counted, place_within}

-- a place among what members stand for
pub place_of-map : {A B : Type 0} (f : A → B) (passes : B → Bool) (xs : List A)
    → place_of passes (map f xs) ≡ place_of (λ x. passes (f x)) xs
place_of-map f passes [] = refl
place_of-map f passes (x ∷ xs) = ap (λ (place : Option ℕ). if passes (f x) then Some 0 else option_map (λ k. k + 1) place) (place_of-map f passes xs)

-- std's word for the place, over what the members stand for
pub position_is : {A B : Type 0} (f : A → B) (passes : B → Bool) (xs : List A)
    → position (λ x. passes (f x)) xs ≡ place_of passes (map f xs)
position_is f passes xs = position_place (λ x. passes (f x)) xs ∙ sym (place_of-map f passes xs)

-- the place from a member on
pub placed_at : {A : Type 0} (passes : A → Bool) (xs : List A) (n : ℕ) (x : A) → n < length xs → x ≡ get_or xs n x
    → option_map (λ k. k + n) (place_of passes (drop n xs)) ≡ (if passes x then Some n else option_map (λ k. k + suc n) (place_of passes (drop (suc n) xs)))
placed_at passes xs n x low is =
    rw (drop-cons xs n x low, ← is)
    (by_test (passes x) (λ e. rw e (ap Some (zero-add n))) (λ e. rw e (counted n (place_of passes (drop (suc n) xs)))))

-- also where the members stand for others
pub place_within_of : {A B : Type 0} (f : A → B) (passes : B → Bool) (xs : List A) (found : Option ℕ)
    → found ≡ place_of passes (map f xs) → IfSome found (λ place. place < length xs)
place_within_of f passes xs found is =
    let low = place_within passes (map f xs) in
    rw is (subst (λ n. IfSome (place_of passes (map f xs)) (λ place. place < n)) (length-map xs f) low)
