-- Laws of choices.
--   leaving_is      the row chosen has a negative right side; where none is chosen, no row has
--   ratio_through   ratios over numbers above 0 are ordered through
use Rattle.std.proofs.Common.{◌≡◌, ℕ, ℤ, pos, zero, suc, arith, sym, ap, ◌∙◌, List, length, ⊎_elim, Option, Some, None, Bool, true, false}
use Rattle.std.specs.Prelude.{◌-ℤ◌, ◌*ℤ◌, ◌≤ℤ◌, ◌<ℤ◌, neg_ℤ, int_lt, nat_lt, ◌&&◌}
use Rattle.std.proofs.lemmas.Int.{ints}
use Rattle.std.proofs.lemmas.Bool.{cases_Bool, cases_eq, and_parts, and_cases}
use Rattle.whole_numbers.specs.MultipleLaws.{times_times}
use Rattle.ipet_rows.specs.Firsts.{entry}
use Rattle.ipet_rows.specs.DualityLaws.{times_rising}
use Rattle.ipet_rows.specs.SumLaws.{swap_first, times_difference}
use Rattle.simplex_rules.specs.Tableaus.{Tableau, number_at, basic_at}
use Rattle.simplex_rules.specs.PivotRule.{leaving_with, leaving_of, leaving, entering_with, entering}
use Rattle.simplex_rules.specs.MixingLaws.{cancel_at_least}
use Rattle.simplex_rules.specs.Choices.{IsLeaving, NoMore, IsEntering, EnteringIs}

-- a test and what follows either way
by_test : {A : Type 0} (v : Bool) → (v ≡ true → A) → (v ≡ false → A) → A
by_test v one other = ⊎_elim one other (cases_Bool v)

leaving_step : (t : Tableau) (n : ℕ) (o : Option ℕ) → IsLeaving t n o → IsLeaving t (suc n) (leaving_with t n o)
leaving_step t n None is = by_test (int_lt (number_at t n 0) (pos 0))
    (λ (yes_ : int_lt (number_at t n 0) (pos 0) ≡ true). rw yes_ (omega arith, omega (arith, ints, yes_)))
    (λ (no_ : int_lt (number_at t n 0) (pos 0) ≡ false). rw no_
    (λ k below. ⊎_elim (λ (q : k ≡ n). rw q (omega (arith, ints, no_))) (λ (d : k ≡ n → ⊥). is k (omega arith)) (cases_eq k n)))
leaving_step t n (Some r) is = by_test (int_lt (number_at t n 0) (pos 0) && nat_lt (basic_at t n) (basic_at t r))
    (λ (yes_ : (int_lt (number_at t n 0) (pos 0) && nat_lt (basic_at t n) (basic_at t r)) ≡ true).
    let parts = and_parts (int_lt (number_at t n 0) (pos 0)) (nat_lt (basic_at t n) (basic_at t r)) yes_ in
    rw yes_ (omega arith, omega (arith, ints, parts.0)))
    (λ (no_ : (int_lt (number_at t n 0) (pos 0) && nat_lt (basic_at t n) (basic_at t r)) ≡ false). rw no_ (omega (arith, is.0), is.1))

leaving_first : (t : Tableau) (n : ℕ) → IsLeaving t n (leaving_of t n)
leaving_first t zero = λ k below. absurd (omega arith)
leaving_first t (suc n) = leaving_step t n (leaving_of t n) (leaving_first t n)

-- the row chosen has a negative right side; where none is chosen, no row has
pub leaving_is : (t : Tableau) → IsLeaving t (length t.rows) (leaving t)
leaving_is t = leaving_first t (length t.rows)

-- Ratios.

-- ratios over numbers above 0 are ordered through
pub ratio_through : (a b c d x y : ℤ) → pos 1 ≤ℤ b → pos 1 ≤ℤ d → pos 1 ≤ℤ y → NoMore a b c d → NoMore c d x y
    → NoMore a b x y
ratio_through a b c d x y pb pd py p q =
    let one : ((a *ℤ d) *ℤ y) ≤ℤ ((c *ℤ b) *ℤ y) = times_rising (a *ℤ d) (c *ℤ b) y p (omega (arith, ints, py)) in
    let two : ((c *ℤ y) *ℤ b) ≤ℤ ((x *ℤ d) *ℤ b) = times_rising (c *ℤ y) (x *ℤ d) b q (omega (arith, ints, pb)) in
    let e1 : (a *ℤ d) *ℤ y ≡ d *ℤ (a *ℤ y) = times_times a d y ∙ swap_first a d y in
    let e2 : (c *ℤ b) *ℤ y ≡ (c *ℤ y) *ℤ b = times_times c b y ∙ ap (λ (t : ℤ). c *ℤ t) (let z : b *ℤ y ≡ y *ℤ b = omega (arith, ints) in z) ∙ sym (times_times c y b) in
    let e3 : (x *ℤ d) *ℤ b ≡ d *ℤ (x *ℤ b) = times_times x d b ∙ swap_first x d b in
    let all : (d *ℤ (a *ℤ y)) ≤ℤ (d *ℤ (x *ℤ b)) = omega (arith, ints, one, two, e1, e2, e3) in
    let left : pos 0 ≤ℤ (d *ℤ ((x *ℤ b) -ℤ (a *ℤ y))) = omega (arith, ints, all, times_difference d (x *ℤ b) (a *ℤ y)) in
    let bare : pos 0 ≤ℤ ((x *ℤ b) -ℤ (a *ℤ y)) = cancel_at_least d ((x *ℤ b) -ℤ (a *ℤ y)) pd left in
    omega (arith, ints, bare)

entering_step : (row d : List ℤ) (n : ℕ) (o : Option ℕ) → EnteringIs row d n o
    → EnteringIs row d (suc n) (entering_with row d (suc (suc n)) o)
entering_step row d n None is =
    let p = suc (suc n) in
    by_test (int_lt (entry row p) (pos 0))
    (λ (yes_ : int_lt (entry row p) (pos 0) ≡ true).
    let low : entry row p <ℤ pos 0 = omega (arith, ints, yes_) in
    rw yes_ (let out : IsEntering row d (suc n) p = record {
      least = omega arith;
      most = omega arith;
      below = low;
      ratio = λ j two less neg. ⊎_elim
          (λ (q : j ≡ p). rw q (omega (arith, ints)))
          (λ (x : j ≡ p → ⊥). absurd (omega (arith, ints, is j two (omega arith), neg)))
          (cases_eq j p);
    } in out))
    (λ (no_ : int_lt (entry row p) (pos 0) ≡ false). rw no_
    (λ j two less. ⊎_elim (λ (q : j ≡ p). rw q (omega (arith, ints, no_))) (λ (x : j ≡ p → ⊥). is j two (omega arith)) (cases_eq j p)))
entering_step row d n (Some e) is =
    let p = suc (suc n) in
    let mine = entry d p *ℤ neg_ℤ (entry row e) in
    let held = entry d e *ℤ neg_ℤ (entry row p) in
    let test = int_lt (entry row p) (pos 0) && int_lt mine held in
    by_test test
    (λ (yes_ : test ≡ true).
    let parts = and_parts (int_lt (entry row p) (pos 0)) (int_lt mine held) yes_ in
    let low : entry row p <ℤ pos 0 = omega (arith, ints, parts.0) in
    let less_ : mine ≤ℤ held = omega (arith, ints, parts.1) in
    let low_e = is.below in
    rw yes_ (let out : IsEntering row d (suc n) p = record {
      least = omega arith;
      most = omega arith;
      below = low;
      ratio = λ j two less neg. ⊎_elim
          (λ (q : j ≡ p). rw q (omega (arith, ints)))
          (λ (x : j ≡ p → ⊥). ratio_through (entry d p) (neg_ℤ (entry row p)) (entry d e) (neg_ℤ (entry row e)) (entry d j) (neg_ℤ (entry row j))
          (omega (arith, ints, low)) (omega (arith, ints, low_e)) (omega (arith, ints, neg)) less_ (is.ratio j two (omega arith) neg))
          (cases_eq j p);
    } in out))
    (λ (no_ : test ≡ false). rw no_ (let out : IsEntering row d (suc n) e = record {
      least = is.least;
      most = omega (arith, is.most);
      below = is.below;
      ratio = λ j two less neg. ⊎_elim
          (λ (q : j ≡ p). rw q
          (⊎_elim
          (λ (no_low : int_lt (entry row p) (pos 0) ≡ false). let high : pos 0 ≤ℤ entry row p = omega (arith, ints, no_low) in
          let neg_ : entry row p <ℤ pos 0 = rw (← q) neg in absurd (omega (arith, ints, high, neg_)))
          (λ (no_less : int_lt mine held ≡ false). omega (arith, ints, no_less))
          (and_cases (int_lt (entry row p) (pos 0)) (int_lt mine held) no_)))
          (λ (x : j ≡ p → ⊥). is.ratio j two (omega arith) neg)
          (cases_eq j p);
    } in out))

pub entering_is : (row d : List ℤ) (n : ℕ) → EnteringIs row d n (entering row d n)
entering_is row d zero = λ j two less. absurd (omega arith)
entering_is row d (suc n) = entering_step row d n (entering row d n) (entering_is row d n)
