-- An expression is too deep, or what stands in it has a level less.
use Rattle.std.proofs.Common.{◌≡◌, ℕ, zero, suc, ◌-◌, ◌<◌, refl, arith}
use Rattle.alf_reader.specs.Grammar.{Place, one, fits_too_deep, nested, expr}

pub expr_none : (n : ℕ) (at : Place) → n ≡ 0 → (expr n).form.reading at ≡ (one fits_too_deep).form.reading at
unfolding expr
expr_none zero at e = refl
expr_none (suc n) at e = absurd (omega arith)

pub expr_more : (n : ℕ) (at : Place) → 0 < n → (expr n).form.reading at ≡ (nested (expr (n - 1))).form.reading at
unfolding expr
expr_more zero at h = absurd (omega arith)
expr_more (suc n) at h = let e : suc n - 1 ≡ n = omega arith in rw e refl
