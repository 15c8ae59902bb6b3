-- Lines by terms after a step of a pivot: each is the definition's line, and each test the definition's.
--   spread_divided, spread_mixed, spread_turned   what is made, in whole lines
--   mixed_narrow, mixed_wide_there                the tests of a mixture
--   cleared_by, wide_by     the step and its test by the two numbers at the place
--   cleared_kept            a line without the place, of divisor 1, stays
use Rattle.std.proofs.Common.{◌≡◌, ℕ, ℤ, pos, negsuc, neg_ℤ, zero, suc, ◌<◌, ◌≤◌, ◌+◌, arith, refl, sym, ap, ◌∙◌, List, [], ◌∷◌, length, true, false, subst, ⊎_elim}
use Rattle.std.specs.Prelude.{◌*ℤ◌, ◌-ℤ◌, ◌≤ℤ◌, not, ◌&&◌}
use Rattle.std.specs.Int.{int_div_euclid}
use Rattle.std.proofs.lemmas.Int.{ints}
use Rattle.std.proofs.lemmas.Bool.{cases_eq, or_left, or_right}
use Rattle.whole_numbers.specs.Numbers.{Divides, gcd}
use Rattle.whole_numbers.specs.GcdLaws.{gcd_end, gcd_first, gcd_second}
use Rattle.ipet_rows.specs.Rows.{vanishes}
use Rattle.ipet_rows.specs.Sums.{coefficient}
use Rattle.ipet_rows.specs.Firsts.{entry, fits}
use Rattle.ipet_rows.specs.SumLaws.{neg_times}
use Rattle.simplex_rules.specs.Lines.{spread, times_line, mixed, line_gcd, divided, reduced, cleared}
use Rattle.simplex_rules.specs.Tableaus.{turned}
use Rattle.simplex_rules.specs.PivotRule.{mixed_wide, cleared_wide, line_wide}
use Rattle.simplex_rules.specs.MixingLaws.{cancel_same, cancel_zero}
use Rattle.simplex_rules.specs.StepLaws.{exact, first_gcd_above}
use Rattle.simplex_rules.specs.FirstLineLaws.{coefficient_turned}
use Rattle.simplex_tableau.specs.Reducing.{divided_terms}
use Rattle.simplex_tableau.proofs.ReducingLaws.{DividesEach}
use Rattle.simplex_tableau.specs.Merging.{narrow}
use Rattle.simplex_tableau.proofs.TermLemmas.{each_at, divided_is}

-- ---- what is made

two_heads : (x y : ℤ) (f h : List ℤ) → x ≡ y → f ≡ h → (x ∷ f) ≡ (y ∷ h)
two_heads x y f h p q = rw (p, q) refl

pub spread_divided : (n j : ℕ) (g : ℤ) (ts : List (ℕ × ℤ)) → pos 1 ≤ℤ g → DividesEach g ts
    → spread n j (divided_terms g ts) ≡ divided g (spread n j ts)
spread_divided zero j g ts above each_one = refl
spread_divided (suc n) j g ts above each_one =
    two_heads (coefficient (divided_terms g ts) j) (int_div_euclid (coefficient ts j) g) (spread n (suc j) (divided_terms g ts)) (divided g (spread n (suc j) ts))
    (cancel_same g (coefficient (divided_terms g ts) j) (int_div_euclid (coefficient ts j) g) above
    (divided_is g ts j above each_one ∙ sym (exact g (coefficient ts j) above (each_at g ts j each_one))))
    (spread_divided n (suc j) g ts above each_one)

pub spread_mixed : (n j : ℕ) (a b : ℤ) (f h out : List (ℕ × ℤ))
    → ((i : ℕ) → coefficient out i ≡ (a *ℤ coefficient f i) -ℤ (b *ℤ coefficient h i))
    → spread n j out ≡ mixed a b (spread n j f) (spread n j h)
spread_mixed zero j a b f h out each_one = refl
spread_mixed (suc n) j a b f h out each_one =
    two_heads (coefficient out j) ((a *ℤ coefficient f j) -ℤ (b *ℤ coefficient h j)) (spread n (suc j) out) (mixed a b (spread n (suc j) f) (spread n (suc j) h))
    (each_one j) (spread_mixed n (suc j) a b f h out each_one)

turned_number : (ts : List (ℕ × ℤ)) (j : ℕ) → coefficient (turned ts) j ≡ neg_ℤ (pos 1) *ℤ coefficient ts j
turned_number ts j = omega (arith, ints, coefficient_turned ts j, neg_times (pos 1) (coefficient ts j))

pub spread_turned : (n j : ℕ) (ts : List (ℕ × ℤ)) → spread n j (turned ts) ≡ times_line (neg_ℤ (pos 1)) (spread n j ts)
spread_turned zero j ts = refl
spread_turned (suc n) j ts =
    two_heads (coefficient (turned ts) j) (neg_ℤ (pos 1) *ℤ coefficient ts j) (spread n (suc j) (turned ts)) (times_line (neg_ℤ (pos 1)) (spread n (suc j) ts))
    (turned_number ts j) (spread_turned n (suc j) ts)

-- ---- tests

pub mixed_narrow : (n j : ℕ) (a b : ℤ) (f h : List (ℕ × ℤ))
    → ((i : ℕ) → narrow a b (coefficient f i) (coefficient h i) ≡ true)
    → mixed_wide a b (spread n j f) (spread n j h) ≡ false
mixed_narrow zero j a b f h each_one = refl
mixed_narrow (suc n) j a b f h each_one = rw (each_one j) (mixed_narrow n (suc j) a b f h each_one)

pub mixed_wide_there : (n j q : ℕ) (a b : ℤ) (f h : List (ℕ × ℤ)) → j ≤ q → q < n + j
    → narrow a b (coefficient f q) (coefficient h q) ≡ false
    → mixed_wide a b (spread n j f) (spread n j h) ≡ true
mixed_wide_there zero j q a b f h least most wide = absurd (omega arith)
mixed_wide_there (suc n) j q a b f h least most wide =
    let here = narrow a b (coefficient f j) (coefficient h j) in
    let rest = mixed_wide a b (spread n (suc j) f) (spread n (suc j) h) in
    ⊎_elim
    (λ (e : q ≡ j). or_left (not here) rest
    (let w : narrow a b (coefficient f j) (coefficient h j) ≡ false = subst (λ (i : ℕ). narrow a b (coefficient f i) (coefficient h i) ≡ false) e wide in ap not w))
    (λ (d : q ≡ j → ⊥). or_right (not here) rest (mixed_wide_there n (suc j) q a b f h (omega arith) (omega arith) wide))
    (cases_eq q j)

pub line_narrow : (n j : ℕ) (ts : List (ℕ × ℤ)) → ((i : ℕ) → fits (coefficient ts i) ≡ true)
    → line_wide (spread n j ts) ≡ false
line_narrow zero j ts each_one = refl
line_narrow (suc n) j ts each_one = rw (each_one j) (line_narrow n (suc j) ts each_one)

pub line_wide_there : (n j q : ℕ) (ts : List (ℕ × ℤ)) → j ≤ q → q < n + j → fits (coefficient ts q) ≡ false
    → line_wide (spread n j ts) ≡ true
line_wide_there zero j q ts least most wide = absurd (omega arith)
line_wide_there (suc n) j q ts least most wide =
    ⊎_elim
    (λ (e : q ≡ j). or_left (not (fits (coefficient ts j))) (line_wide (spread n (suc j) ts))
    (let w : fits (coefficient ts j) ≡ false = subst (λ (i : ℕ). fits (coefficient ts i) ≡ false) e wide in ap not w))
    (λ (d : q ≡ j → ⊥). or_right (not (fits (coefficient ts j))) (line_wide (spread n (suc j) ts)) (line_wide_there n (suc j) q ts (omega arith) (omega arith) wide))
    (cases_eq q j)

-- ---- the step by the two numbers at the place

pub cleared_by : (e : ℕ) (h f : List ℤ) (p q : ℤ) → entry h e ≡ p → entry f e ≡ q
    → cleared e h f ≡ reduced (mixed (int_div_euclid p (gcd p q)) (int_div_euclid q (gcd p q)) f h)
cleared_by e h f p q there here =
    ap (λ (x : ℤ). reduced (mixed (int_div_euclid x (gcd x (entry f e))) (int_div_euclid (entry f e) (gcd x (entry f e))) f h)) there
    ∙ ap (λ (y : ℤ). reduced (mixed (int_div_euclid p (gcd p y)) (int_div_euclid y (gcd p y)) f h)) here

pub wide_by : (e : ℕ) (h f : List ℤ) (p q : ℤ) → entry h e ≡ p → entry f e ≡ q
    → cleared_wide e h f ≡ (not (vanishes q) && mixed_wide (int_div_euclid p (gcd p q)) (int_div_euclid q (gcd p q)) f h)
wide_by e h f p q there here =
    ap (λ (x : ℤ). not (vanishes (entry f e)) && mixed_wide (int_div_euclid x (gcd x (entry f e))) (int_div_euclid (entry f e) (gcd x (entry f e))) f h) there
    ∙ ap (λ (y : ℤ). not (vanishes y) && mixed_wide (int_div_euclid p (gcd p y)) (int_div_euclid y (gcd p y)) f h) here

-- ---- a line without the place

divided_one : (f : List ℤ) → divided (pos 1) f ≡ f
divided_one [] = refl
divided_one (x ∷ f) = two_heads (int_div_euclid x (pos 1)) x (divided (pos 1) f) f
    (let e = exact (pos 1) x (omega (arith, ints)) (let m : Divides (pos 1) x = record { times = x; is = omega (arith, ints) } in m) in omega (arith, ints, e))
    (divided_one f)

mixed_plain : (f h : List ℤ) → length h ≤ length f → mixed (pos 1) (pos 0) f h ≡ f
mixed_plain [] [] less = refl
mixed_plain [] (y ∷ h) less = absurd (omega arith)
mixed_plain (x ∷ f) [] less = two_heads ((pos 1 *ℤ x) -ℤ pos 0) x (mixed (pos 1) (pos 0) f []) f (omega (arith, ints)) (mixed_plain f [] (omega arith))
mixed_plain (x ∷ f) (y ∷ h) less = two_heads ((pos 1 *ℤ x) -ℤ (pos 0 *ℤ y)) x (mixed (pos 1) (pos 0) f h) f (omega (arith, ints)) (mixed_plain f h (omega arith))

gcd_alone : (p : ℤ) → pos 1 ≤ℤ p → gcd p (pos 0) ≡ p
gcd_alone (pos n) above = ap pos (sym (gcd_end n))
gcd_alone (negsuc n) above = absurd (omega (arith, ints))

-- a line without the place, of divisor 1, stays
pub cleared_kept : (e : ℕ) (h f : List ℤ) → pos 1 ≤ℤ entry h e → entry f e ≡ pos 0 → line_gcd f ≡ pos 1
    → length h ≤ length f → cleared e h f ≡ f
cleared_kept e h f above none one less =
    let p = entry h e in
    let g = gcd p (pos 0) in
    let g_is : gcd (entry h e) (pos 0) ≡ entry h e = gcd_alone p above in
    let g_above : pos 1 ≤ℤ gcd (entry h e) (pos 0) = first_gcd_above p (pos 0) above in
    let a = int_div_euclid p g in
    let b = int_div_euclid (pos 0) g in
    let a_exact : g *ℤ a ≡ p = exact g p g_above (gcd_first p (pos 0)) in
    let b_exact : g *ℤ b ≡ pos 0 = exact g (pos 0) g_above (gcd_second p (pos 0)) in
    let a_one : int_div_euclid (entry h e) (gcd (entry h e) (pos 0)) ≡ pos 1 =
    cancel_same g a (pos 1) g_above (a_exact ∙ sym g_is ∙ (let u : gcd (entry h e) (pos 0) ≡ gcd (entry h e) (pos 0) *ℤ pos 1 = omega (arith, ints) in u)) in
    let b_none : int_div_euclid (pos 0) (gcd (entry h e) (pos 0)) ≡ pos 0 = cancel_zero g b g_above b_exact in
    cleared_by e h f p (pos 0) refl none
    ∙ ap (λ (x : ℤ). reduced (mixed x b f h)) a_one
    ∙ ap (λ (x : ℤ). reduced (mixed (pos 1) x f h)) b_none
    ∙ ap (λ (l : List ℤ). reduced l) (mixed_plain f h less)
    ∙ ap (λ (x : ℤ). divided x f) one
    ∙ divided_one f
