-- A product with a factor that is turned, also where the factor, turned, does not fit.
use Rattle.std.proofs.Common.{◌≡◌, ℤ, pos, negsuc, arith, rules, ◌<◌, ◌≤◌, suc, inl, inr, ◌⊎◌, refl, ap, None, ⊎_elim}
use Rattle.std.specs.Prelude.{◌^◌, ◌*ℤ◌, ◌-ℤ◌, ◌≤ℤ◌, ◌<ℤ◌, neg_ℤ}
use Rattle.std.specs.Int.{w128}
use Rattle.std.specs.Int.RustNames.{FitsSigned}
use Rattle.std.proofs.lemmas.Int.{ints}
use Rattle.std.proofs.lemmas.Bool.{le-ltb, cases_lt}
use Rattle.ipet_rows.specs.SumLaws.{neg_times, times_neg}
use Rattle.ipet_rows.specs.DualityLaws.{times_rising}
use Rattle.dual_check.specs.Fitting.{fitting}

pub turned_first : (a b : ℤ) → fitting (neg_ℤ a *ℤ b) ≡ fitting (a *ℤ neg_ℤ b)
turned_first a b = ap fitting (let e : neg_ℤ a *ℤ b ≡ a *ℤ neg_ℤ b = omega (arith, ints, neg_times a b, times_neg a b) in e)

-- too great either way
past_fit : (z : ℤ) → pos (2 ^ 127) ≤ℤ z → None ≡ fitting z
past_fit (pos n) high = rw (le-ltb n (2 ^ 127) (omega (arith, ints, high))) refl
past_fit (negsuc n) high = absurd (omega (arith, ints, high))

under_fit : (z : ℤ) → z <ℤ (pos 0 -ℤ pos (2 ^ 127)) → None ≡ fitting z
under_fit (pos n) low = absurd (omega (arith, ints, low))
under_fit (negsuc n) low = rw (le-ltb n (2 ^ 127) (omega (arith, ints, low))) refl

-- the size of a number that, turned, does not fit
far : (z : ℤ) → (FitsSigned w128 (neg_ℤ z) → ⊥) → (pos (2 ^ 127) ≤ℤ z) ⊎ (pos (2 ^ 127) ≤ℤ neg_ℤ z)
far (pos n) wide = ⊎_elim
    (λ (less : n < 2 ^ 127). absurd (wide (search (rules, ints))))
    (λ (more : 2 ^ 127 ≤ n). inl (omega (arith, ints)))
    (cases_lt n (2 ^ 127))
far (negsuc n) wide = ⊎_elim
    (λ (less : suc n < 2 ^ 127). absurd (wide (search (rules, ints))))
    (λ (more : 2 ^ 127 ≤ suc n). inr (omega (arith, ints)))
    (cases_lt (suc n) (2 ^ 127))

great : (x y : ℤ) → pos (2 ^ 127) ≤ℤ x → pos (2 ^ 127) ≤ℤ y → pos (2 ^ 127) <ℤ (x *ℤ y)
great x y p q =
    let more : (pos (2 ^ 127) *ℤ y) ≤ℤ (x *ℤ y) = times_rising (pos (2 ^ 127)) x y p (omega (arith, ints, q)) in
    omega (arith, ints, more, q)

pub none_turned : (a b : ℤ) → (FitsSigned w128 (neg_ℤ a) → ⊥) → (FitsSigned w128 (neg_ℤ b) → ⊥)
    → None ≡ fitting (a *ℤ neg_ℤ b)
none_turned a b p q = ⊎_elim
    (λ (x : pos (2 ^ 127) ≤ℤ a). ⊎_elim
    (λ (y : pos (2 ^ 127) ≤ℤ b). under_fit (a *ℤ neg_ℤ b) (omega (arith, ints, great a b x y, times_neg a b)))
    (λ (y : pos (2 ^ 127) ≤ℤ neg_ℤ b). past_fit (a *ℤ neg_ℤ b) (omega (arith, ints, great a (neg_ℤ b) x y)))
    (far b q))
    (λ (x : pos (2 ^ 127) ≤ℤ neg_ℤ a). ⊎_elim
    (λ (y : pos (2 ^ 127) ≤ℤ b). past_fit (a *ℤ neg_ℤ b) (omega (arith, ints, great (neg_ℤ a) b x y, times_neg a b, neg_times a b)))
    (λ (y : pos (2 ^ 127) ≤ℤ neg_ℤ b). under_fit (a *ℤ neg_ℤ b) (omega (arith, ints, great (neg_ℤ a) (neg_ℤ b) x y, neg_times a (neg_ℤ b))))
    (far b q))
    (far a p)
