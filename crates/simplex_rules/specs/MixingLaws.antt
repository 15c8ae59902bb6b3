-- Laws of mixing.
--   cancel_zero     a number above 0 times a number is not below 0, or 0, only where the number is not
--   spanned_mixed   a mixture of spanned lines is spanned
--   spanned_times   a multiple of a spanned line is spanned
--   zero_back       where the mixture and the row are 0, so is the line
use Rattle.std.proofs.Common.{◌≡◌, ℕ, ℤ, pos, negsuc, zero, suc, arith, refl, sym, ap, ◌∙◌, List, [], ◌∷◌}
use Rattle.std.specs.Prelude.{◌-ℤ◌, ◌*ℤ◌, ◌≤ℤ◌}
use Rattle.std.proofs.lemmas.Int.{ints}
use Rattle.whole_numbers.specs.MultipleLaws.{difference_times, times_times}
use Rattle.ipet_rows.specs.Sums.{total, coefficient}
use Rattle.ipet_rows.specs.SumLaws.{times_sum, times_difference, total_same, total_times, total_minus}
use Rattle.simplex_rules.specs.Tableaus.{Generator}
use Rattle.simplex_rules.specs.Mixing.{IsMixed, combination, IsSpanned, along}

-- a number above 0 times a number is not below 0, or 0, only where the number is not
pub cancel_zero : (g z : ℤ) → pos 1 ≤ℤ g → g *ℤ z ≡ pos 0 → z ≡ pos 0
cancel_zero (pos zero) z p e = absurd (omega (arith, ints))
cancel_zero (pos (suc g)) (pos zero) p e = refl
cancel_zero (pos (suc g)) (pos (suc z)) p e = absurd (omega (arith, ints))
cancel_zero (pos (suc g)) (negsuc z) p e = absurd (omega (arith, ints))
cancel_zero (negsuc g) z p e = absurd (omega (arith, ints))

pub cancel_above : (g z : ℤ) → pos 1 ≤ℤ g → pos 1 ≤ℤ (g *ℤ z) → pos 1 ≤ℤ z
cancel_above (pos zero) z p e = absurd (omega (arith, ints))
cancel_above (pos (suc g)) (pos zero) p e = absurd (omega (arith, ints))
cancel_above (pos (suc g)) (pos (suc z)) p e = omega (arith, ints)
cancel_above (pos (suc g)) (negsuc z) p e = absurd (omega (arith, ints))
cancel_above (negsuc g) z p e = absurd (omega (arith, ints))

pub cancel_at_least : (g z : ℤ) → pos 1 ≤ℤ g → pos 0 ≤ℤ (g *ℤ z) → pos 0 ≤ℤ z
cancel_at_least (pos zero) z p e = absurd (omega (arith, ints))
cancel_at_least (pos (suc g)) (pos z) p e = omega (arith, ints)
cancel_at_least (pos (suc g)) (negsuc z) p e = absurd (omega (arith, ints))
cancel_at_least (negsuc g) z p e = absurd (omega (arith, ints))

pub product_above : (g z : ℤ) → pos 1 ≤ℤ g → pos 1 ≤ℤ z → pos 1 ≤ℤ (g *ℤ z)
product_above (pos (suc g)) (pos (suc z)) p q = omega (arith, ints)
product_above (pos zero) z p q = absurd (omega (arith, ints))
product_above (pos (suc g)) (pos zero) p q = absurd (omega (arith, ints))
product_above (pos (suc g)) (negsuc z) p q = absurd (omega (arith, ints))
product_above (negsuc g) z p q = absurd (omega (arith, ints))

pub cancel_same : (g y z : ℤ) → pos 1 ≤ℤ g → g *ℤ y ≡ g *ℤ z → y ≡ z
cancel_same g y z p e =
    let zero_ : y -ℤ z ≡ pos 0 = cancel_zero g (y -ℤ z) p (omega (arith, ints, times_difference g y z, e)) in
    omega (arith, ints, zero_)

-- Spans: the number at a generator's mark is its factor.

-- the arithmetic of one term
mixed_term : (g a b x y z c : ℤ) → g *ℤ z ≡ (a *ℤ x) -ℤ (b *ℤ y) → g *ℤ (z *ℤ c) ≡ (a *ℤ (x *ℤ c)) -ℤ (b *ℤ (y *ℤ c))
mixed_term g a b x y z c e =
    sym (times_times g z c) ∙ ap (λ (t : ℤ). t *ℤ c) e ∙ difference_times (a *ℤ x) (b *ℤ y) c
    ∙ (let p : (a *ℤ x) *ℤ c ≡ a *ℤ (x *ℤ c) = times_times a x c in
    let q : (b *ℤ y) *ℤ c ≡ b *ℤ (y *ℤ c) = times_times b y c in
    rw (p, q) refl)

combination_mixed : (gs : List Generator) (g a b : ℤ) (f h f' : ℕ → ℤ) (j : ℕ) → IsMixed g a b f h f'
    → g *ℤ combination gs f' j ≡ (a *ℤ combination gs f j) -ℤ (b *ℤ combination gs h j)
combination_mixed [] g a b f h f' j m = omega (arith, ints)
combination_mixed (k ∷ gs) g a b f h f' j m =
    let c = coefficient k.1 j in
    let one : g *ℤ (f' k.0 *ℤ c) ≡ (a *ℤ (f k.0 *ℤ c)) -ℤ (b *ℤ (h k.0 *ℤ c)) = mixed_term g a b (f k.0) (h k.0) (f' k.0) c (m.is k.0) in
    let rest = combination_mixed gs g a b f h f' j m in
    omega (arith, ints, one, rest, times_sum g (f' k.0 *ℤ c) (combination gs f' j), times_sum a (f k.0 *ℤ c) (combination gs f j), times_sum b (h k.0 *ℤ c) (combination gs h j))

-- a mixture of spanned lines is spanned
pub spanned_mixed : (gs : List Generator) (g a b : ℤ) (f h f' : ℕ → ℤ) → IsMixed g a b f h f' → IsSpanned gs f
    → IsSpanned gs h → IsSpanned gs f'
spanned_mixed gs g a b f h f' m sf sh = record {
  is = λ j. cancel_same g (f' j) (combination gs f' j) m.divisor
      (m.is j
      ∙ (let p : f j ≡ combination gs f j = sf.is j in
      let q : h j ≡ combination gs h j = sh.is j in
      ap (λ (t : ℤ). (a *ℤ t) -ℤ (b *ℤ h j)) p ∙ ap (λ (t : ℤ). (a *ℤ combination gs f j) -ℤ (b *ℤ t)) q)
      ∙ sym (combination_mixed gs g a b f h f' j m));
}

combination_times : (gs : List Generator) (u : ℤ) (f f' : ℕ → ℤ) (j : ℕ) → ((i : ℕ) → f' i ≡ u *ℤ f i)
    → combination gs f' j ≡ u *ℤ combination gs f j
combination_times [] u f f' j e = omega (arith, ints)
combination_times (k ∷ gs) u f f' j e =
    let c = coefficient k.1 j in
    let one : f' k.0 *ℤ c ≡ u *ℤ (f k.0 *ℤ c) = ap (λ (t : ℤ). t *ℤ c) (e k.0) ∙ times_times u (f k.0) c in
    omega (arith, ints, one, combination_times gs u f f' j e, times_sum u (f k.0 *ℤ c) (combination gs f j))

-- a multiple of a spanned line is spanned
pub spanned_times : (gs : List Generator) (u : ℤ) (f f' : ℕ → ℤ) → ((i : ℕ) → f' i ≡ u *ℤ f i) → IsSpanned gs f
    → IsSpanned gs f'
spanned_times gs u f f' e sf = record { is = λ j. e j ∙ ap (λ (t : ℤ). u *ℤ t) (sf.is j) ∙ sym (combination_times gs u f f' j e) }

-- Values: a line at the numbers x of the places.

pub along_times : (w : ℕ) (u : ℤ) (f f' x : ℕ → ℤ) → ((i : ℕ) → f' i ≡ u *ℤ f i) → along w f' x ≡ u *ℤ along w f x
along_times w u f f' x e =
    total_same w (λ j. f' j *ℤ x j) (λ j. u *ℤ (f j *ℤ x j)) (λ j below. ap (λ (t : ℤ). t *ℤ x j) (e j) ∙ times_times u (f j) (x j))
    ∙ total_times w u (λ j. f j *ℤ x j)

pub along_mixed : (w : ℕ) (g a b : ℤ) (f h f' x : ℕ → ℤ) → IsMixed g a b f h f'
    → g *ℤ along w f' x ≡ (a *ℤ along w f x) -ℤ (b *ℤ along w h x)
along_mixed w g a b f h f' x m =
    sym (total_times w g (λ j. f' j *ℤ x j))
    ∙ total_same w (λ j. g *ℤ (f' j *ℤ x j)) (λ j. (a *ℤ (f j *ℤ x j)) -ℤ (b *ℤ (h j *ℤ x j))) (λ j below. mixed_term g a b (f j) (h j) (f' j) (x j) (m.is j))
    ∙ total_minus w (λ j. a *ℤ (f j *ℤ x j)) (λ j. b *ℤ (h j *ℤ x j))
    ∙ (let p : total w (λ j. a *ℤ (f j *ℤ x j)) ≡ a *ℤ along w f x = total_times w a (λ j. f j *ℤ x j) in
    let q : total w (λ j. b *ℤ (h j *ℤ x j)) ≡ b *ℤ along w h x = total_times w b (λ j. h j *ℤ x j) in
    rw (p, q) refl)

-- where the mixture and the row are 0, so is the line
pub zero_back : (w : ℕ) (g a b : ℤ) (f h f' x : ℕ → ℤ) → IsMixed g a b f h f' → along w f' x ≡ pos 0
    → along w h x ≡ pos 0 → along w f x ≡ pos 0
zero_back w g a b f h f' x m p q =
    cancel_zero a (along w f x) m.factor
    (let e = along_mixed w g a b f h f' x m in
    let r : g *ℤ along w f' x ≡ pos 0 = ap (λ (t : ℤ). g *ℤ t) p ∙ (let z : g *ℤ pos 0 ≡ pos 0 = omega (arith, ints) in z) in
    let s : b *ℤ along w h x ≡ pos 0 = ap (λ (t : ℤ). b *ℤ t) q ∙ (let z : b *ℤ pos 0 ≡ pos 0 = omega (arith, ints) in z) in
    omega (arith, ints, e, r, s))
