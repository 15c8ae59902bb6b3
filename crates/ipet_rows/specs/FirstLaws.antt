-- The first answer, and sums that are tested as they are made.
use Rattle.std.proofs.Common.{◌≡◌, ℕ, ℤ, zero, suc, ◌+◌, ◌<◌, ◌≤◌, arith, refl, Option, Some, None, ⊎_elim, true, false, add-one}
use Rattle.std.specs.Prelude.{◌+ℤ◌, ◌&&◌}
use Rattle.std.proofs.lemmas.Bool.{cases_Bool, cases_eq}
use Rattle.ipet_rows.specs.Firsts.{fits, first}
use Rattle.ipet_rows.specs.Sums.{total}
use Rattle.ipet_rows.specs.Verdicts.{first_wide, wide_at, summed}

-- an answer that came stays the first
pub first_stays : {A : Type 0} (n m : ℕ) (f : ℕ → Option A) (v : A) → first n f ≡ Some v → n ≤ m → first m f ≡ Some v
first_stays n zero f v e below =
    let q : n ≡ zero = omega arith in rw q at e
first_stays n (suc m) f v e below = ⊎_elim
    (λ (q : n ≡ suc m). rw q at e)
    (λ (d : n ≡ suc m → ⊥). rw (first_stays n m f v e (omega arith)) refl)
    (cases_eq n (suc m))

-- the first answer comes at n
pub first_here : {A : Type 0} (n m : ℕ) (f : ℕ → Option A) (v : A) → first n f ≡ None → f n ≡ Some v → n < m
    → first m f ≡ Some v
first_here n m f v none here below =
    let e : first (suc n) f ≡ Some v = rw (none, here) refl in
    first_stays (suc n) m f v e (omega arith)

-- no answer at n either
pub first_none : {A : Type 0} (n : ℕ) (f : ℕ → Option A) → first n f ≡ None → f n ≡ None → first (n + 1) f ≡ None
first_none n f none here = rw (add-one, none, here) refl

-- a sum with one product more
sum_wide : (k : ℕ) (f : ℕ → ℤ) → summed (total k f) (f k) ≡ None → wide_at f k ≡ Some k
sum_wide k f e = ⊎_elim
    (λ (yes_ : (fits (f k) && fits (total k f +ℤ f k)) ≡ true).
    let z : summed (total k f) (f k) ≡ Some (total k f +ℤ f k) = rw yes_ refl in absurd cc)
    (λ (no_ : (fits (f k) && fits (total k f +ℤ f k)) ≡ false). rw no_ refl)
    (cases_Bool (fits (f k) && fits (total k f +ℤ f k)))

sum_narrow : (k : ℕ) (f : ℕ → ℤ) (v : ℤ) → summed (total k f) (f k) ≡ Some v
    → (wide_at f k ≡ None) × (v ≡ total (suc k) f)
sum_narrow k f v e = ⊎_elim
    (λ (yes_ : (fits (f k) && fits (total k f +ℤ f k)) ≡ true).
    let z : summed (total k f) (f k) ≡ Some (total k f +ℤ f k) = rw yes_ refl in (rw yes_ refl, cc))
    (λ (no_ : (fits (f k) && fits (total k f +ℤ f k)) ≡ false).
    let z : summed (total k f) (f k) ≡ None = rw no_ refl in absurd cc)
    (cases_Bool (fits (f k) && fits (total k f +ℤ f k)))

pub wide_here : (n k : ℕ) (f : ℕ → ℤ) → k < n → first_wide k f ≡ None → summed (total k f) (f k) ≡ None
    → first_wide n f ≡ Some k
wide_here n k f below none e = first_here k n (wide_at f) k none (sum_wide k f e) below

pub narrow_here : (k : ℕ) (f : ℕ → ℤ) (v : ℤ) → first_wide k f ≡ None → summed (total k f) (f k) ≡ Some v
    → (v ≡ total (k + 1) f) × (first_wide (k + 1) f ≡ None)
narrow_here k f v none e =
    let n = sum_narrow k f v e in
    (rw add-one n.1, first_none k (wide_at f) none n.0)
