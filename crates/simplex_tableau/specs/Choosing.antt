-- The choice of the place that enters, term by term.
--   Chosen               a place, the row's number there and the objective's
--   chosen_with best c   the best so far with one more, or none where a product is wide
--   dropped p ts         the terms from place p on
--   choose best ts d     the best so far with those of the terms
--   entering_answer row d n   the place of least ratio among the first n variables, or none where a product is wide
use Rattle.std.specs.Prelude.{ℕ, ℤ, pos, neg_ℤ, ◌*ℤ◌, ◌==◌, int_lt, nat_lt, ◌&&◌, List, [], ◌∷◌, Option, None, Some, if◌then◌else◌}
use Rattle.ipet_rows.specs.Firsts.{fits}
use Rattle.simplex_rules.specs.PivotRule.{entering, entering_wide}

-- a place, the row's number there and the objective's
pub record Chosen : Type 0 where
  pub place : ℕ
  pub low : ℤ
  pub cost : ℤ

-- the lesser ratio, where both products fit
abbrev pub lesser : Chosen → Chosen → Option (Option Chosen)
lesser held c =
    if fits (c.cost *ℤ neg_ℤ held.low) && fits (held.cost *ℤ neg_ℤ c.low)
    then Some (Some (if int_lt (c.cost *ℤ neg_ℤ held.low) (held.cost *ℤ neg_ℤ c.low) then c else held))
    else None

-- the best so far with one whose number is below 0
abbrev pub chosen_among : Option Chosen → Chosen → Option (Option Chosen)
chosen_among None c = Some (Some c)
chosen_among (Some held) c = lesser held c

-- the best so far with one more
abbrev pub chosen_with : Option Chosen → Chosen → Option (Option Chosen)
chosen_with best c = if int_lt c.low (pos 0) then chosen_among best c else Some best

-- the terms from place p on
abbrev pub dropped : ℕ → List (ℕ × ℤ) → List (ℕ × ℤ)
dropped p [] = []
dropped p (t ∷ ts) = if nat_lt t.0 p then dropped p ts else (t ∷ ts)

-- the number of the first term, if it is at the place
abbrev pub number_first : List (ℕ × ℤ) → ℕ → ℤ
number_first [] p = pos 0
number_first (t ∷ ts) p = if t.0 == p then t.1 else pos 0

-- what follows where no product was wide
abbrev pub and_on : Option (Option Chosen) → (Option Chosen → Option (Option Chosen)) → Option (Option Chosen)
and_on None go_on = None
and_on (Some best) go_on = go_on best

-- the term with the objective's number at its place
abbrev pub candidate : ℕ × ℤ → List (ℕ × ℤ) → Chosen
candidate t d = record { place = t.0; low = t.1; cost = number_first (dropped t.0 d) t.0 }

-- the best so far with those of the terms
abbrev pub choose : Option Chosen → List (ℕ × ℤ) → List (ℕ × ℤ) → Option (Option Chosen)
choose best [] d = Some best
choose best (t ∷ ts) d = and_on (chosen_with best (candidate t d)) (λ more. choose more ts (dropped t.0 d))

-- the chosen place
abbrev pub place_in : Option Chosen → Option ℕ
place_in None = None
place_in (Some c) = Some c.place

abbrev pub place_chosen : Option (Option Chosen) → Option (Option ℕ)
place_chosen None = None
place_chosen (Some best) = Some (place_in best)

-- the place of least ratio among the first n variables, or none where a product is wide
abbrev pub entering_answer : List ℤ → List ℤ → ℕ → Option (Option ℕ)
entering_answer row d n = if entering_wide row d n then None else Some (entering row d n)
