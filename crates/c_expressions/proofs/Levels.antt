-- Expressions by how many parentheses may be open and how many operators nested.
use Rattle.std.proofs.Common.{◌≡◌, ℕ, zero, suc, ◌-◌, ◌<◌, Bool, Err, refl, arith}
use Rattle.flow_base.specs.declared.place.Which.TheVariants as which
use Rattle.c_grammar.specs.declared.others.Others.{Others}
use Rattle.c_grammar.specs.declared.others.Others.TheVariants as others
use Rattle.c_grammar.specs.declared.others.Casts.{Casts}
use Rattle.c_grammar.specs.declared.others.Casts.TheVariants as casts
use Rattle.c_grammar.specs.Tokens.{Place, Limit}
use Rattle.c_grammar.specs.Expressions.{expr, expr_within, expr_of, inner_of, deeper_of}

pub expr_is : (p d min : ℕ) (logical : Bool) (c : Casts) (o : Others) (at : Place) → (expr p d min logical c o).form.reading at ≡ (expr_of p d (inner_of p d) (deeper_of p d) min logical c o).form.reading at
unfolding expr expr_within inner_of deeper_of
expr_is zero zero min logical c o at = refl
expr_is zero (suc d) min logical c o at = refl
expr_is (suc p) zero min logical c o at = refl
expr_is (suc p) (suc d) min logical c o at = refl

pub inner_none : (p d : ℕ) (logical : Bool) (o : Others) (at : Place) → p ≡ 0
    → (inner_of p d logical o).form.reading at ≡ Err (Limit which.Parens 65)
unfolding inner_of
inner_none zero d logical o at e = refl
inner_none (suc p) d logical o at e = absurd (omega arith)

pub inner_more : (p d : ℕ) (logical : Bool) (o : Others) (at : Place) → 0 < p
    → (inner_of p d logical o).form.reading at ≡ (expr (p - 1) d 1 logical casts.Taken o).form.reading at
unfolding inner_of
inner_more zero d logical o at h = absurd (omega arith)
inner_more (suc p) d logical o at h = let e : suc p - 1 ≡ p = omega arith in rw e refl

pub deeper_none : (p d min : ℕ) (logical : Bool) (at : Place) → d ≡ 0
    → (deeper_of p d min logical).form.reading at ≡ Err (Limit which.Depth 11)
unfolding deeper_of
deeper_none p zero min logical at e = refl
deeper_none p (suc d) min logical at e = absurd (omega arith)

pub deeper_more : (p d min : ℕ) (logical : Bool) (at : Place) → 0 < d → (deeper_of p d min logical).form.reading at ≡ (expr p (d - 1) min logical casts.Taken others.Steps).form.reading at
unfolding deeper_of
deeper_more p zero min logical at h = absurd (omega arith)
deeper_more p (suc d) min logical at h = let e : suc d - 1 ≡ d = omega arith in rw e refl
