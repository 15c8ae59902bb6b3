-- Laws of generated.
--   length-generated   its length
--   at-generated       its elements
--   generated-suc      one element more
--   generated_is       a list with these elements is this list
use Rattle.std.proofs.Common.{◌≡◌, ℕ, zero, suc, ◌<◌, List, [], ◌∷◌, ◌++◌, length, get_or, refl, sym, ap, ◌∙◌, arith}
use Rattle.std.proofs.lemmas.List.{ext_get_or}
use Rattle.recorder_rules.specs.Generated.{generated}

-- its length
pub length-generated : {A : Type 0} (n : ℕ) (f : ℕ → A) → length (generated n f) ≡ n
unfolding generated
length-generated zero f = refl
length-generated (suc n) f = ap suc (length-generated n (λ i. f (suc i)))

-- its elements
pub at-generated : {A : Type 0} (n : ℕ) (f : ℕ → A) (i : ℕ) (d : A) → i < n → get_or (generated n f) i d ≡ f i
unfolding generated
at-generated zero f i d low = absurd (omega arith)
at-generated (suc n) f zero d low = refl
at-generated (suc n) f (suc i) d low = at-generated n (λ j. f (suc j)) i d (omega arith)

-- one element more
pub generated-suc : {A : Type 0} (n : ℕ) (f : ℕ → A) → generated (suc n) f ≡ generated n f ++ f n ∷ []
unfolding generated
generated-suc zero f = refl
generated-suc (suc n) f = ap (λ xs. f 0 ∷ xs) (generated-suc n (λ i. f (suc i)))

-- a list with these elements is this list
pub generated_is : {A : Type 0} (n : ℕ) (f : ℕ → A) (xs : List A) (d : A) → length xs ≡ n
    → ((i : ℕ) → i < n → get_or xs i d ≡ f i) → xs ≡ generated n f
generated_is n f xs d len each =
    ext_get_or d xs (generated n f) (len ∙ sym (length-generated n f)) (λ i low. let low_n : i < n = omega arith in each i low_n ∙ sym (at-generated n f i d low_n))
