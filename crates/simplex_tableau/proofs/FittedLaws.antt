-- The test of 128 bits, as the calls of `whole_numbers` answer it.
--   fitted, not_fitted   a number that fits is handed out, and one that does not is none
use Rattle.std.proofs.Common.{◌≡◌, ℤ, pos, negsuc, arith, rules, ◌<◌, refl, Some, None, true, false, ⊎_elim}
use Rattle.std.specs.Prelude.{◌^◌}
use Rattle.std.specs.Int.{w128}
use Rattle.std.specs.Int.RustNames.{FitsSigned}
use Rattle.std.proofs.lemmas.Int.{ints}
use Rattle.std.proofs.lemmas.Bool.{cases_Bool, lt-ltb, ltb-true}
use Rattle.ipet_rows.specs.Firsts.{fits}
use Rattle.dual_check.specs.Fitting.{fitting}

fits_true : (z : ℤ) → FitsSigned w128 z → fits z ≡ true
fits_true (pos n) f = lt-ltb n (2 ^ 127) (omega (arith, ints))
fits_true (negsuc n) f = lt-ltb n (2 ^ 127) (omega (arith, ints))

fits_from : (z : ℤ) → fits z ≡ true → FitsSigned w128 z
fits_from (pos n) e = let h : n < 2 ^ 127 = ltb-true n (2 ^ 127) e in search (rules, ints)
fits_from (negsuc n) e = let h : n < 2 ^ 127 = ltb-true n (2 ^ 127) e in search (rules, ints)

pub fitted : (z : ℤ) → FitsSigned w128 z → Some z ≡ fitting z
fitted z f = rw (fits_true z f) refl

pub not_fitted : (z : ℤ) → (FitsSigned w128 z → ⊥) → None ≡ fitting z
not_fitted z f = ⊎_elim (λ (e : fits z ≡ true). absurd (f (fits_from z e))) (λ (e : fits z ≡ false). rw e refl) (cases_Bool (fits z))
