-- Terms by ascending place: each place's number is that of one term, or 0.
--   nothing_before     no number before the first term's place
--   ..rises, ..within  what is made keeps the order, and the width
use Rattle.std.proofs.Common.{◌≡◌, ℕ, ℤ, pos, suc, ◌<◌, ◌≤◌, arith, refl, ◌∙◌, List, [], ◌∷◌}
use Rattle.std.proofs.lemmas.Int.{ints}
use Rattle.ipet_rows.specs.Sums.{coefficient, StartsAbove, IsAscending}
use Rattle.ipet_rows.specs.SumLaws.{term_elsewhere}

-- no number up to a place that the terms are above
pub nothing_up_to : (c : ℕ) (ts : List (ℕ × ℤ)) (j : ℕ) → StartsAbove c ts → IsAscending ts → j ≤ c
    → coefficient ts j ≡ pos 0
nothing_up_to c [] j above rises most = refl
nothing_up_to c (t ∷ ts) j above rises most =
    omega (arith, ints, term_elsewhere t.0 j t.1 (λ (e : t.0 ≡ j). absurd (omega (arith, above))), nothing_up_to t.0 ts j rises.0 rises.1 (omega (arith, above)))

-- no number before the first term's place
pub nothing_before : (t : ℕ × ℤ) (ts : List (ℕ × ℤ)) (e : ℕ) → IsAscending (t ∷ ts) → e < t.0
    → pos 0 ≡ coefficient (t ∷ ts) e
nothing_before t ts e rises less =
    omega (arith, ints, term_elsewhere t.0 e t.1 (λ (q : t.0 ≡ e). absurd (omega arith)), nothing_up_to t.0 ts e rises.0 rises.1 (omega arith))
