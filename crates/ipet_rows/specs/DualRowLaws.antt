-- Look-ups in rows by terms.
use Rattle.std.proofs.Common.{◌≡◌, ℕ, ℤ, pos, zero, suc, ◌<◌, arith, refl, List, [], ◌∷◌, length, get_or}
use Rattle.std.proofs.lemmas.Int.{ints}
use Rattle.ipet_rows.specs.Sums.{coefficient, StartsAbove, IsAscending}
use Rattle.ipet_rows.specs.Firsts.{entry}
use Rattle.ipet_rows.specs.Programs.{Row, row_at, cost_at}
use Rattle.ipet_rows.specs.SumLaws.{term_here, term_elsewhere}

-- no later term has an earlier place
none_later : (c : ℕ) (ts : List (ℕ × ℤ)) → StartsAbove c ts → IsAscending ts → coefficient ts c ≡ pos 0
none_later c [] above rises = refl
none_later c (t ∷ []) above rises = omega (arith, ints, term_elsewhere t.0 c t.1 (λ (q : t.0 ≡ c). absurd (omega arith)))
none_later c (t ∷ s ∷ ts) above rises =
    let later : c < s.0 = omega (arith, above, rises.0) in
    omega (arith, ints, term_elsewhere t.0 c t.1 (λ (q : t.0 ≡ c). absurd (omega arith)), none_later c (s ∷ ts) later rises.1)

pub found_here : (t : ℕ × ℤ) (ts : List (ℕ × ℤ)) (e : ℕ) → IsAscending (t ∷ ts) → t.0 ≡ e → t.1 ≡ coefficient (t ∷ ts) e
found_here t ts e rises same =
    let none : coefficient ts t.0 ≡ pos 0 = none_later t.0 ts rises.0 rises.1 in
    let none_e : coefficient ts e ≡ pos 0 = rw (← same) none in
    omega (arith, ints, term_here t.0 e t.1 same, none_e)

pub found_later : (t : ℕ × ℤ) (ts : List (ℕ × ℤ)) (e : ℕ) → (t.0 ≡ e → ⊥) → coefficient ts e ≡ coefficient (t ∷ ts) e
found_later t ts e other = omega (arith, ints, term_elsewhere t.0 e t.1 other)

pub cost_there : (cs : List ℕ) (e d : ℕ) → e < length cs → get_or cs e d ≡ cost_at cs e
cost_there [] e d below = absurd (omega arith)
cost_there (c ∷ cs) zero d below = refl
cost_there (c ∷ cs) (suc e) d below = cost_there cs e d (omega arith)

pub entry_there : (ys : List ℤ) (k : ℕ) (d : ℤ) → k < length ys → get_or ys k d ≡ entry ys k
entry_there [] k d below = absurd (omega arith)
entry_there (y ∷ ys) zero d below = refl
entry_there (y ∷ ys) (suc k) d below = entry_there ys k d (omega arith)

pub row_there : (rs : List Row) (k : ℕ) (d : Row) → k < length rs → get_or rs k d ≡ row_at rs k
row_there [] k d below = absurd (omega arith)
row_there (r ∷ rs) zero d below = refl
row_there (r ∷ rs) (suc k) d below = row_there rs k d (omega arith)
