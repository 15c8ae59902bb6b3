-- The size of a mask, a bit less at a time.
use Rattle.std.proofs.Common.{◌≡◌, ◌≢◌, ℕ, zero, suc, ◌+◌, ◌-◌, ◌^◌, arith, refl, Some, None, eq-eqb, ne_eqb}
use Rattle.strided_rules.specs.Operators.{mask_size}

pub mask_zero : (w x : ℕ) → w ≡ 0 → x ≡ 0 → mask_size w x ≡ Some 0
mask_zero w x e f = rw (e, f) refl

pub mask_none : (w x : ℕ) → w ≡ 0 → x ≢ 0 → mask_size w x ≡ None
mask_none w x e other = rw e (rw (ne_eqb x 0 other) refl)

pub mask_here : (w x : ℕ) → w ≢ 0 → x + 1 ≡ 2 ^ w → mask_size w x ≡ Some w
mask_here zero x some e = absurd (some refl)
mask_here (suc w) x some e = rw (eq-eqb (x + 1) (2 ^ suc w) e) refl

pub mask_lower : (w x : ℕ) → w ≢ 0 → x + 1 ≢ 2 ^ w → mask_size w x ≡ mask_size (w - 1) x
mask_lower zero x some other = absurd (some refl)
mask_lower (suc w) x some other = rw (ne_eqb (x + 1) (2 ^ suc w) other) (let same : suc w - 1 ≡ w = omega arith in rw same refl)
