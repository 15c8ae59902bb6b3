-- Lists given by their elements.
--   generated n f      the list f 0, f 1 and so on, n elements long
use Rattle.std.proofs.Common.{ℕ, zero, suc, List, [], ◌∷◌}

-- the list f 0, f 1 and so on
unfoldable pub generated : {A : Type 0} → ℕ → (ℕ → A) → List A
generated zero f = []
generated (suc n) f = f 0 ∷ generated n (λ i. f (suc i))
