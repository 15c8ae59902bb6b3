-- Laws of steps.
--   exact           a divisor above 0 goes in
--   divisor_above   a divisor of a number above 0 is not 0
--   cleared_is      q is a place where the line stays above 0
--   pivoted_is      the rule's step is a pivot
use Rattle.std.proofs.Common.{◌≡◌, ℕ, ℤ, pos, negsuc, zero, suc, ◌<◌, arith, refl, sym, ap, subst, ◌∙◌, List, [], ◌∷◌, length}
use Rattle.std.specs.Prelude.{◌-ℤ◌, ◌*ℤ◌, ◌≤ℤ◌}
use Rattle.std.specs.Int.{int_div_euclid}
use Rattle.std.proofs.lemmas.Int.{ints}
use Rattle.whole_numbers.specs.Numbers.{Divides, gcd}
use Rattle.whole_numbers.specs.GcdLaws.{gcd_first, gcd_second}
use Rattle.whole_numbers.specs.MultipleLaws.{divides_zero, divides_through}
use Rattle.whole_numbers.specs.DivisionLaws.{quotient_and_rest, no_rest}
use Rattle.ipet_rows.specs.Firsts.{entry}
use Rattle.ipet_rows.specs.SumLaws.{swap_first}
use Rattle.simplex_rules.specs.Lines.{times_line, mixed, line_gcd, divided, cleared}
use Rattle.simplex_rules.specs.Tableaus.{Generator, Held, Tableau, held_at, number_at, basic_at}
use Rattle.simplex_rules.specs.PivotRule.{replaced, exchanged, pivoted}
use Rattle.simplex_rules.specs.MixingLaws.{cancel_above, product_above}
use Rattle.simplex_rules.specs.Pivoting.{IsCleared, IsPivot, IsSoundTableau}
use Rattle.simplex_rules.specs.Steps.{freed}

-- Divisions without rest.

-- a divisor above 0 goes in
pub exact : (d z : ℤ) → pos 1 ≤ℤ d → Divides d z → d *ℤ int_div_euclid z d ≡ z
exact (pos zero) z above m = absurd (omega (arith, ints))
exact (pos (suc n)) z above m =
    omega (arith, ints, quotient_and_rest z (suc n) (omega arith), no_rest z (pos (suc n)) (omega (arith, ints)) m)
exact (negsuc n) z above m = absurd (omega (arith, ints))

-- a divisor of a number above 0 is not 0
pub divisor_above : (d z : ℤ) → pos 0 ≤ℤ d → Divides d z → pos 1 ≤ℤ z → pos 1 ≤ℤ d
divisor_above (pos zero) z least m above =
    let none : m.times *ℤ pos 0 ≡ pos 0 = omega (arith, ints) in
    absurd (omega (arith, ints, m.is, none, above))
divisor_above (pos (suc n)) z least m above = omega (arith, ints)
divisor_above (negsuc n) z least m above = absurd (omega (arith, ints))

pub line_gcd_least : (f : List ℤ) → pos 0 ≤ℤ line_gcd f
line_gcd_least [] = omega (arith, ints)
line_gcd_least (x ∷ f) = omega (arith, ints)

pub line_gcd_divides : (f : List ℤ) (j : ℕ) → Divides (line_gcd f) (entry f j)
line_gcd_divides [] j = divides_zero (pos 0)
line_gcd_divides (x ∷ f) zero = gcd_first x (line_gcd f)
line_gcd_divides (x ∷ f) (suc j) = divides_through (line_gcd (x ∷ f)) (line_gcd f) (entry f j) (gcd_second x (line_gcd f)) (line_gcd_divides f j)

-- Numbers of made lines.

pub entry_times : (u : ℤ) (f : List ℤ) (j : ℕ) → entry (times_line u f) j ≡ u *ℤ entry f j
entry_times u [] j = omega (arith, ints)
entry_times u (x ∷ f) zero = refl
entry_times u (x ∷ f) (suc j) = entry_times u f j

pub entry_mixed : (a b : ℤ) (f h : List ℤ) (j : ℕ) → entry (mixed a b f h) j ≡ (a *ℤ entry f j) -ℤ (b *ℤ entry h j)
entry_mixed a b [] [] j = omega (arith, ints)
entry_mixed a b [] (y ∷ h) zero = omega (arith, ints)
entry_mixed a b [] (y ∷ h) (suc j) = entry_mixed a b [] h j
entry_mixed a b (x ∷ f) [] zero = omega (arith, ints)
entry_mixed a b (x ∷ f) [] (suc j) = entry_mixed a b f [] j
entry_mixed a b (x ∷ f) (y ∷ h) zero = refl
entry_mixed a b (x ∷ f) (y ∷ h) (suc j) = entry_mixed a b f h j

pub entry_divided : (g : ℤ) (f : List ℤ) (j : ℕ) → pos 1 ≤ℤ g → ((i : ℕ) → Divides g (entry f i))
    → g *ℤ entry (divided g f) j ≡ entry f j
entry_divided g [] j above each_one = omega (arith, ints)
entry_divided g (x ∷ f) zero above each_one = exact g x above (each_one 0)
entry_divided g (x ∷ f) (suc j) above each_one = entry_divided g f j above (λ i. each_one (suc i))

-- The line is freed of the place.

pub first_gcd_above : (a b : ℤ) → pos 1 ≤ℤ a → pos 1 ≤ℤ gcd a b
first_gcd_above a b above = divisor_above (gcd a b) a (omega (arith, ints)) (gcd_first a b) above

-- q is a place where the line stays above 0
pub cleared_is : (e q : ℕ) (h f : List ℤ) → pos 1 ≤ℤ entry h e → pos 1 ≤ℤ entry f q → entry h q ≡ pos 0
    → IsCleared e (entry f) (entry h) (entry (cleared e h f))
cleared_is e q h f above here none =
    let g = gcd (entry h e) (entry f e) in
    let a = int_div_euclid (entry h e) g in
    let b = int_div_euclid (entry f e) g in
    let g_above : pos 1 ≤ℤ g = first_gcd_above (entry h e) (entry f e) above in
    let a_is : g *ℤ a ≡ entry h e = exact g (entry h e) g_above (gcd_first (entry h e) (entry f e)) in
    let b_is : g *ℤ b ≡ entry f e = exact g (entry f e) g_above (gcd_second (entry h e) (entry f e)) in
    let a_above : pos 1 ≤ℤ a = cancel_above g a g_above (rw a_is above) in
    let m = mixed a b f h in
    let gone : b *ℤ entry h q ≡ pos 0 = rw none (omega (arith, ints)) in
    let m_above : pos 1 ≤ℤ entry m q = rw (entry_mixed a b f h q) (omega (arith, ints, gone, product_above a (entry f q) a_above here)) in
    let l_above : pos 1 ≤ℤ line_gcd m = divisor_above (line_gcd m) (entry m q) (line_gcd_least m) (line_gcd_divides m q) m_above in
    record {
      g = line_gcd m;
      a = a;
      b = b;
      mixed = record {
        divisor = l_above;
        factor = a_above;
        is = λ j. entry_divided (line_gcd m) m j l_above (line_gcd_divides m) ∙ entry_mixed a b f h j;
      };
      even = ap (λ (t : ℤ). a *ℤ t) (sym b_is) ∙ ap (λ (t : ℤ). a *ℤ t) (let z : g *ℤ b ≡ b *ℤ g = omega (arith, ints) in z) ∙ swap_first a b g
          ∙ ap (λ (t : ℤ). b *ℤ t) (let z : a *ℤ g ≡ g *ℤ a = omega (arith, ints) in z) ∙ ap (λ (t : ℤ). b *ℤ t) a_is;
    }

-- The rows of the step.

replaced_count : (e : ℕ) (h : List ℤ) (ks : List Held) → length (replaced e h ks) ≡ length ks
replaced_count e h [] = refl
replaced_count e h (k ∷ ks) = ap suc (replaced_count e h ks)

pub exchanged_count : (r e : ℕ) (h : List ℤ) (ks : List Held) → length (exchanged r e h ks) ≡ length ks
exchanged_count r e h [] = refl
exchanged_count zero e h (k ∷ ks) = ap suc (replaced_count e h ks)
exchanged_count (suc r) e h (k ∷ ks) = ap suc (exchanged_count r e h ks)

replaced_at : (e : ℕ) (h : List ℤ) (ks : List Held) (i : ℕ) → i < length ks
    → held_at (replaced e h ks) i ≡ freed e h (held_at ks i)
replaced_at e h [] i below = absurd (omega arith)
replaced_at e h (k ∷ ks) zero below = refl
replaced_at e h (k ∷ ks) (suc i) below = replaced_at e h ks i (omega arith)

pub exchanged_there : (r e : ℕ) (h : List ℤ) (ks : List Held) → r < length ks
    → held_at (exchanged r e h ks) r ≡ record { basic = e; line = h }
exchanged_there r e h [] below = absurd (omega arith)
exchanged_there zero e h (k ∷ ks) below = refl
exchanged_there (suc r) e h (k ∷ ks) below = exchanged_there r e h ks (omega arith)

pub exchanged_other : (r e : ℕ) (h : List ℤ) (ks : List Held) (i : ℕ) → i < length ks → (i ≡ r → ⊥)
    → held_at (exchanged r e h ks) i ≡ freed e h (held_at ks i)
exchanged_other r e h [] i below d = absurd (omega arith)
exchanged_other zero e h (k ∷ ks) zero below d = absurd (d refl)
exchanged_other zero e h (k ∷ ks) (suc i) below d = replaced_at e h ks i (omega arith)
exchanged_other (suc r) e h (k ∷ ks) zero below d = refl
exchanged_other (suc r) e h (k ∷ ks) (suc i) below d = exchanged_other r e h ks i (omega arith) (λ (q : i ≡ r). d (ap suc q))

-- the rule's step is a pivot
pub pivoted_is : (gs : List Generator) (w : ℕ) (t : Tableau) (r e : ℕ) (u : ℤ) → IsSoundTableau gs w t → r < length t.rows
    → u *ℤ u ≡ pos 1
    → pos 1 ≤ℤ (u *ℤ number_at t r e) → IsPivot t (pivoted u r e t) r e u
pivoted_is gs w t r e u s below unit above =
    let h = times_line u (held_at t.rows r).line in
    let there : held_at (exchanged r e h t.rows) r ≡ record { basic = e; line = h } = exchanged_there r e h t.rows below in
    let h_above : pos 1 ≤ℤ entry h e = rw (entry_times u (held_at t.rows r).line e) above in
    let h_zero : (q : ℕ) → number_at t r q ≡ pos 0 → entry h q ≡ pos 0 = λ q z. entry_times u (held_at t.rows r).line q ∙ ap (λ (x : ℤ). u *ℤ x) z ∙ (let y : u *ℤ pos 0 ≡ pos 0 = omega (arith, ints) in y) in
    record {
      count = exchanged_count r e h t.rows;
      place = below;
      unit = unit;
      basic = ap (λ (k : Held). k.basic) there;
      row = λ j. ap (λ (k : Held). entry k.line j) there ∙ entry_times u (held_at t.rows r).line j;
      above = rw there h_above;
      others = λ k less d.
          let cleared_ : IsCleared e (entry (held_at t.rows k).line) (entry h) (entry (cleared e h (held_at t.rows k).line)) =
          cleared_is e (basic_at t k) h (held_at t.rows k).line h_above (s.own k less) (h_zero (basic_at t k) (s.apart r k below less (λ (q : r ≡ k). d (sym q)))) in
          let one = subst (λ (x : Held). IsCleared e (entry (held_at t.rows k).line) (entry h) (entry x.line)) (sym (exchanged_other r e h t.rows k less d)) cleared_ in
          subst (λ (x : Held). IsCleared e (entry (held_at t.rows k).line) (entry x.line) (entry (held_at (exchanged r e h t.rows) k).line)) (sym there) one;
      keeps = λ k less d. ap (λ (k : Held). k.basic) (exchanged_other r e h t.rows k less d);
      objective = subst (λ (x : Held). IsCleared e (entry t.objective) (entry x.line) (entry (cleared e h t.objective))) (sym there) (cleared_is e 1 h t.objective h_above s.scale (h_zero 1 (s.flat r below)));
    }
