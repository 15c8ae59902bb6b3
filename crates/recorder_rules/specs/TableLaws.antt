-- Laws of tables.
--   truth-generated, cell-tabled, length-tabled   what is in them
--   generated_same, tabled_same   with the same truth values they are the same
use Rattle.std.proofs.Common.{◌≡◌, ℕ, zero, suc, ◌<◌, Bool, false, List, [], ◌∷◌, length, refl, ap, ◌∙◌, arith}
use Rattle.recorder_rules.specs.Generated.{generated}
use Rattle.recorder_rules.specs.GeneratedLaws.{length-generated, at-generated}
use Rattle.recorder_rules.specs.Tables.{truth, cell, tabled}

-- ---- laws

pub truth-generated : (n : ℕ) (f : ℕ → Bool) (a : ℕ) → a < n → truth (generated n f) a ≡ f a
truth-generated n f a low = at-generated n f a false low

pub cell-tabled : (m n : ℕ) (f : ℕ → ℕ → Bool) (a b : ℕ) → a < m → b < n → cell (tabled m n f) a b ≡ f a b
cell-tabled m n f a b low within = ap (λ (row : List Bool). truth row b) (at-generated m (λ i. generated n (λ j. f i j)) a [] low) ∙ at-generated n (λ j. f a j) b false within

pub length-tabled : (m n : ℕ) (f : ℕ → ℕ → Bool) → length (tabled m n f) ≡ m
length-tabled m n f = length-generated m (λ a. generated n (λ b. f a b))

-- tables with the same truth values are the same
pub generated_same : {A : Type 0} (n : ℕ) (f g : ℕ → A) → ((a : ℕ) → a < n → f a ≡ g a) → generated n f ≡ generated n g
unfolding generated
generated_same zero f g same = refl
generated_same (suc n) f g same = ap (λ x. x ∷ generated n (λ i. f (suc i))) (same 0 (omega arith)) ∙ ap (λ xs. g 0 ∷ xs) (generated_same n (λ i. f (suc i)) (λ i. g (suc i)) (λ a low. same (suc a) (omega arith)))

pub tabled_same : (m n : ℕ) (f g : ℕ → ℕ → Bool) → ((a b : ℕ) → a < m → b < n → f a b ≡ g a b)
    → tabled m n f ≡ tabled m n g
tabled_same m n f g same = generated_same m (λ a. generated n (λ b. f a b)) (λ a. generated n (λ b. g a b)) (λ a low. generated_same n (λ b. f a b) (λ b. g a b) (λ b within. same a b low within))
