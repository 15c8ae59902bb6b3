-- What places are.
use Rattle.std.specs.Option.{option_map}
use Rattle.std.specs.List.{position_or_len}
use Rattle.std.proofs.Common.{◌≡◌, ◌+◌, ◌<◌, ℕ, suc, Bool, true, cond, ltb, List, [], ◌∷◌, length, Option, Some, None, refl, ap, ◌∙◌, position, arith, IfSome}
use Rattle.std.proofs.lemmas.Bool.Decides.{nat_tests}
use Rattle.lists.specs.TestLaws.{by_test}
use Rattle.alf_faults.specs.Places.{place_of}

-- one further back
shifted : (n m : ℕ)
    → cond (ltb (1 + n) (suc m)) (Some (1 + n)) None ≡ option_map (λ k. k + 1) (cond (ltb n m) (Some n) None)
shifted n m =
    let same : ltb (1 + n) (suc m) ≡ ltb n m = grind (arith, nat_tests) in
    by_test (ltb n m) (λ e. rw (same, e) (ap Some (omega arith))) (λ e. rw (same, e) refl)

-- std's word for the place
pub position_place : {A : Type 0} (passes : A → Bool) (xs : List A) → position passes xs ≡ place_of passes xs
position_place passes [] = refl
position_place passes (x ∷ xs) =
    by_test (passes x) (λ e. rw e (let low : ltb 0 (suc (length xs)) ≡ true = grind (arith, nat_tests) in rw low refl))
    (λ e. rw e (shifted (position_or_len passes xs) (length xs) ∙ ap (option_map (λ k. k + 1)) (position_place passes xs)))

-- a place counted from further back
pub counted : (n : ℕ) (place : Option ℕ)
    → option_map (λ k. k + n) (option_map (λ k. k + 1) place) ≡ option_map (λ k. k + suc n) place
counted n None = refl
counted n (Some k) = ap Some (omega arith)

-- a place is below the length
pub place_within : {A : Type 0} (passes : A → Bool) (xs : List A)
    → IfSome (place_of passes xs) (λ place. place < length xs)
place_within passes [] = tt
place_within passes (x ∷ xs) = by_test (passes x) (λ e. rw e (omega arith)) (λ e. rw e (further (place_of passes xs) (length xs) (place_within passes xs)))
  where
    further : (place : Option ℕ) (n : ℕ) → IfSome place (λ k. k < n)
        → IfSome (option_map (λ k. k + 1) place) (λ k. k < suc n)
    further None n h = tt
    further (Some k) n h = omega arith
