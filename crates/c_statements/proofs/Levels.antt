-- Statements by how many times they may be nested.
use Rattle.std.proofs.Common.{◌≡◌, ℕ, zero, suc, ◌-◌, ◌<◌, refl, arith}
use Rattle.c_grammar.specs.declared.others.Others.TheVariants as others
use Rattle.c_grammar.specs.declared.standing.Standing.{Standing}
use Rattle.c_grammar.specs.declared.standing.Standing.TheVariants as standings
use Rattle.c_grammar.specs.Tokens.{Place, one}
use Rattle.c_grammar.specs.Statements.{standing, placed_statement, fits_too_nested, innermost, block}
use Rattle.c_statements.specs.Heads.{headed}
use Rattle.c_statements.proofs.HeadsLaws.{placed_splits}

pub standing_none : (n : ℕ) (s : Standing) (at : Place) → n ≡ 0
    → (standing n s).form.reading at ≡ (innermost s).form.reading at
unfolding standing
standing_none zero s at e = refl
standing_none (suc n) s at e = absurd (omega arith)

pub standing_more : (n : ℕ) (s : Standing) (at : Place) → 0 < n
    → (standing n s).form.reading at ≡ (headed (standing (n - 1)) s).form.reading at
unfolding standing headed
standing_more zero s at h = absurd (omega arith)
standing_more (suc n) s at h = let e : suc n - 1 ≡ n = omega arith in rw e (placed_splits (standing n) s at)

-- the block of a switch
pub switch_none : (n : ℕ) (at : Place) → n ≡ 0
    → (standing n standings.SwitchBlock).form.reading at ≡ (one (fits_too_nested standings.SwitchBlock)).form.reading at
unfolding standing innermost
switch_none zero at e = refl
switch_none (suc n) at e = absurd (omega arith)

pub switch_more : (n : ℕ) (at : Place) → 0 < n → (standing n standings.SwitchBlock).form.reading at ≡ (block others.Statements (standing (n - 1) standings.SwitchItem)).form.reading at
unfolding standing placed_statement
switch_more zero at h = absurd (omega arith)
switch_more (suc n) at h = let e : suc n - 1 ≡ n = omega arith in rw e refl
