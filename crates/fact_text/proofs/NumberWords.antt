-- The words of numbers: what is read as a number is written with the digits that a printer writes for it.
use Rattle.std.proofs.Common.{◌≡◌, ℕ, zero, suc, ◌^◌, ◌<◌, ◌-◌, ℤ, pos, negsuc, Bool, true, false, cond, ltb, List, [], ◌∷◌, Result, Ok, Err, refl, sym, ap, ◌∙◌, arith}
use Rattle.std.specs.Prelude.{◌==◌, decimal, neg_ℤ}
use Rattle.std.specs.Fmt.{signed_decimal}
use Rattle.std.proofs.lemmas.Bool.{eqb-true, eq-eqb}
use Rattle.lists.specs.TestLaws.{by_test}
use Rattle.flow_base.specs.Digits.{number_of}
use Rattle.grammar.specs.Form.{and_then}
use Rattle.grammar.specs.Exact.{ok_no_err}
use Rattle.grammar.specs.ExactLaws.{ok_is}
use Rattle.fact_words.specs.DigitLaws.{decimal_of}
use Rattle.fact_words.specs.Numbers.{Fault, Syntax, Number, is_numeral, has_zeros, number_within, is_below, after_minus, negative, whole_within}

tested : {A : Type 0} (b : Bool) (f : Fault) (r : Result A Fault) (x : A) → cond b r (Err f) ≡ Ok x
    → (b ≡ true) × (r ≡ Ok x)
tested true f r x e = (refl, e)
tested false f r x e = ok_no_err x f e

refused : {A : Type 0} (b : Bool) (f : Fault) (r : Result A Fault) (x : A) → cond b (Err f) r ≡ Ok x
    → (b ≡ false) × (r ≡ Ok x)
refused true f r x e = ok_no_err x f e
refused false f r x e = (refl, e)

-- a number's word is its digits
pub number_text : (most : ℕ) (text : List ℕ) (left n : ℕ) → most < 10 ^ 64 → number_within most text left ≡ Ok n
    → text ≡ decimal n
unfolding number_within
number_text most text left n wide e =
    let a = tested (is_numeral text) (Syntax left) _ n e in
    let b = refused (ltb most (number_of text)) (Number left) _ n a.1 in
    let c = refused (has_zeros text) (Syntax left) (Ok (number_of text)) n b.1 in
    let k : number_of text ≡ n = ok_is {F = Fault} (number_of text) n c.1 in
    let low : number_of text < 10 ^ 64 = grind (arith, b.0, wide) in
    sym (decimal_of text a.0 c.0 low) ∙ ap decimal k

minus_first : (text : List ℕ) → is_below text ≡ true → text ≡ 45 ∷ after_minus text
minus_first [] h = absurd cc
minus_first (b ∷ bs) h = ap (λ (c : ℕ). c ∷ bs) (eqb-true b 45 h)

below_digits : (left n : ℕ) (b : Bool) (z : ℤ) → n == 0 ≡ b
    → ◌≡◌ {A = Result ℤ Fault} (cond b (Err (Syntax left)) (Ok (neg_ℤ (pos n)))) (Ok z)
    → signed_decimal z ≡ 45 ∷ decimal n
below_digits left n true z h e = ok_no_err z (Syntax left) e
below_digits left zero false z h e = absurd (let k : true ≡ false = sym (eq-eqb 0 0 refl) ∙ h in cc)
below_digits left (suc n) false z h e = ap signed_decimal (sym (ok_is {F = Fault} (negsuc n) z e))

-- so is a whole number's, with a minus where it is below 0
pub whole_text : (text : List ℕ) (left : ℕ) (z : ℤ) → whole_within text left ≡ Ok z → text ≡ signed_decimal z
unfolding whole_within
whole_text text left z e = by_test (is_below text)
    (λ t. below t (number_within (2 ^ 127) (after_minus text) left) refl (rw t at e))
    (λ t. above (number_within (2 ^ 127 - 1) text left) refl (rw t at e))
  where
    below : is_below text ≡ true → (r : Result ℕ Fault) → number_within (2 ^ 127) (after_minus text) left ≡ r
        → and_then r (negative left) ≡ Ok z → text ≡ signed_decimal z
    below t (Ok n) k e =
        let digits : after_minus text ≡ decimal n = number_text (2 ^ 127) (after_minus text) left n (omega arith) k in
        minus_first text t ∙ ap (λ (ds : List ℕ). 45 ∷ ds) digits ∙ sym (below_digits left n (n == 0) z refl e)
    below t (Err f) k e = ok_no_err z f e

    above : (r : Result ℕ Fault) → number_within (2 ^ 127 - 1) text left ≡ r
        → ◌≡◌ {A = Result ℤ Fault} (and_then r (λ n. Ok (pos n))) (Ok z) → text ≡ signed_decimal z
    above (Ok n) k e = number_text (2 ^ 127 - 1) text left n (omega arith) k ∙ ap signed_decimal (ok_is {F = Fault} (pos n) z e)
    above (Err f) k e = ok_no_err z f e
