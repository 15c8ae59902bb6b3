-- What the opening hands out fits 128 bits in the test of multipliers.
--   opening_narrow   where its numbers are small, the test of what the opening hands out meets no wide number
use Rattle.std.proofs.Common.{inl, inr, ◌≡◌, ◌<◌, ◌≤◌, ◌⊎◌, ℕ, zero, suc, ℤ, pos, negsuc, Bool, true, false, List, [], ◌∷◌, length, Option, None, Some, refl, ap, sym, ◌∙◌, subst, arith}
use Rattle.std.specs.Prelude.{◌^◌, ◌+ℤ◌, ◌-ℤ◌, ◌*ℤ◌, ◌≤ℤ◌, int_le, nat_le}
use Rattle.std.proofs.lemmas.Int.{ints}
use Rattle.std.proofs.lemmas.Bool.{cases_eq, lt-ltb}
use Rattle.lists.specs.TestLaws.{by_test}
use Rattle.ipet_rows.specs.Sums.{total, coefficient}
use Rattle.ipet_rows.specs.Programs.{Row, Program, IsProgram, row_at, cost_at}
use Rattle.ipet_rows.specs.Firsts.{entry, fits, first}
use Rattle.ipet_rows.specs.Duals.{IsDual, column_part, column_sum, right_part, dual_sum}
use Rattle.ipet_rows.specs.Verdicts.{wide_at, first_wide, sign_at, column_test, column_at, unless_wide, floor_of, bound_test, verdict}
use Rattle.ipet_rows.specs.DualityLaws.{times_rising}
use Rattle.ipet_rows.specs.SumLaws.{total_nothing, times_neg}
use Rattle.dual_check.specs.Small.{IsUpTo, IsSmall}
use Rattle.simplex_rules.specs.Tableaus.{Tableau, next_slack, multiplier, multipliers, slacks_from}
use Rattle.simplex_rules.specs.PivotRule.{is_wide, handed_wide, opening_at}
use Rattle.simplex_rules.specs.Promise.{coefficient_at, mark_at, cost_of, handed, Opens}
use Rattle.simplex_rules.proofs.FirstTableauLemmas.{cost_past}
use Rattle.simplex_rules.proofs.HandedOutLemmas.{handed_dual}
use Rattle.simplex_rules.proofs.OpeningLemmas.{opening_right}
use Rattle.simplex_rules.specs.OpeningLaws.{rows_apart}
use Rattle.simplex_rules.specs.OpeningPlaces.{opening_places, OpensRows, started}
use Rattle.simplex_rules.specs.OpeningPlaceLaws.{opens_lines, cost_there}
use Rattle.ipet_rows.specs.declared.verdict.Verdict.TheVariants.{Wide}
use Rattle.simplex_rules.proofs.HandedLaws.{all_none, sign_none}
use Rattle.simplex_rules.specs.PlainOpening.{IsPlain}
use Rattle.simplex_rules.specs.PlainOpeningLaws.{plain_opening, line_own, line_other, cost_scale, times_none}

-- ---- numbers that fit

about_fits : (z : ℤ) → IsUpTo 316912650057057350374175801344 z → fits z ≡ true
about_fits (pos n) is = let high = is.1 in lt-ltb n (2 ^ 127) (omega (arith, ints, high))
about_fits (negsuc n) is = let low = is.0 in lt-ltb n (2 ^ 127) (omega (arith, ints, low))

product_about : (y c : ℤ) → IsUpTo 4294967296 y → IsUpTo 8589934592 c → IsUpTo 36893488147419103232 (y *ℤ c)
product_about y (pos n) about is =
    let y_low = about.0 in
    let y_high = about.1 in
    let c_high = is.1 in
    let high = times_rising y (pos 4294967296) (pos n) y_high (omega (arith, ints)) in
    let low = times_rising (pos 0 -ℤ pos 4294967296) y (pos n) y_low (omega (arith, ints)) in
    let low_is : (pos 0 -ℤ pos 4294967296) *ℤ pos n ≡ pos 0 -ℤ (pos 4294967296 *ℤ pos n) = omega (arith, ints) in
    (omega (arith, ints, low, low_is, c_high), omega (arith, ints, high, c_high))
product_about y (negsuc n) about is =
    let y_low = about.0 in
    let y_high = about.1 in
    let c_low = is.0 in
    let turned : y *ℤ negsuc n ≡ pos 0 -ℤ (y *ℤ pos (suc n)) = times_neg y (pos (suc n)) in
    let high = times_rising y (pos 4294967296) (pos (suc n)) y_high (omega (arith, ints)) in
    let low = times_rising (pos 0 -ℤ pos 4294967296) y (pos (suc n)) y_low (omega (arith, ints)) in
    let low_is : (pos 0 -ℤ pos 4294967296) *ℤ pos (suc n) ≡ pos 0 -ℤ (pos 4294967296 *ℤ pos (suc n)) = omega (arith, ints) in
    (omega (arith, ints, high, turned, c_low), omega (arith, ints, low, low_is, turned, c_low))

-- sums of so many such products
sum_about : (n : ℕ) (f : ℕ → ℤ) → ((k : ℕ) → k < n → IsUpTo 36893488147419103232 (f k))
    → ((pos 0 -ℤ (pos 36893488147419103232 *ℤ pos n)) ≤ℤ total n f) × (total n f ≤ℤ (pos 36893488147419103232 *ℤ pos n))
sum_about zero f each_one = (omega (arith, ints), omega (arith, ints))
sum_about (suc n) f each_one =
    let before = sum_about n f (λ k below. each_one k (omega arith)) in
    let here = each_one n (omega arith) in
    (omega (arith, ints, before.0, here.0), omega (arith, ints, before.1, here.1))

narrow_here : (n k : ℕ) (f : ℕ → ℤ) → n < 4294967296 → ((k : ℕ) → k < n → IsUpTo 36893488147419103232 (f k)) → k < n
    → wide_at f k ≡ None
narrow_here n k f few each_one below =
    let here = each_one k below in
    let before = sum_about k f (λ i low. each_one i (omega (arith, low, below))) in
    let one : fits (f k) ≡ true = about_fits (f k) (omega (arith, ints, here.0), omega (arith, ints, here.1)) in
    let sum : fits (total k f +ℤ f k) ≡ true = about_fits (total k f +ℤ f k) (omega (arith, ints, here.0, before.0, few, below), omega (arith, ints, here.1, before.1, few, below)) in
    rw (one, sum) refl

narrow_sums : (n : ℕ) (f : ℕ → ℤ) → n < 4294967296 → ((k : ℕ) → k < n → IsUpTo 36893488147419103232 (f k))
    → first_wide n f ≡ None
narrow_sums n f few each_one = all_none n (wide_at f) (λ k below. narrow_here n k f few each_one below)

-- ---- the multipliers

multiplier_about : (b : Bool) (s : ℕ) (d : List ℤ)
    → ((j : ℕ) → s ≤ j → (pos 0 ≤ℤ entry d j) × (entry d j ≤ℤ pos 4294967296)) → IsUpTo 4294967296 (multiplier b s d)
multiplier_about true s d each_one =
    let one = each_one s (omega arith) in
    let two = each_one (suc s) (omega arith) in
    (omega (arith, ints, one.0, two.1), omega (arith, ints, one.1, two.0))
multiplier_about false s d each_one = let one = each_one s (omega arith) in (omega (arith, ints, one.0), omega (arith, ints, one.1))

next_most : (b : Bool) (s : ℕ) → s ≤ next_slack b s
next_most true s = omega arith
next_most false s = omega arith

multipliers_about : (rs : List Row) (s : ℕ) (d : List ℤ) (k : ℕ)
    → ((j : ℕ) → s ≤ j → (pos 0 ≤ℤ entry d j) × (entry d j ≤ℤ pos 4294967296))
    → IsUpTo 4294967296 (entry (multipliers rs s d) k)
multipliers_about [] s d k each_one = (omega (arith, ints), omega (arith, ints))
multipliers_about (r ∷ rs) s d zero each_one = multiplier_about r.equation s d each_one
multipliers_about (r ∷ rs) s d (suc k) each_one = let more = next_most r.equation s in multipliers_about rs (next_slack r.equation s) d k (λ j low. each_one j (omega (arith, low, more)))

-- ---- the objective at slacks

total_alone : (n i : ℕ) (f : ℕ → ℤ) → i < n → ((k : ℕ) → k < n → (k ≡ i → ⊥) → f k ≡ pos 0) → total n f ≡ f i
total_alone zero i f below none = absurd (omega arith)
total_alone (suc n) i f below none = elim (cases_eq i n) [
  | inl same ↦
      let before : total n f ≡ pos 0 = total_nothing n f (λ k low. none k (omega arith) (λ q. omega (arith, low, q, same))) in
      rw same (omega (arith, ints, before))
  | inr other ↦
      let last : f n ≡ pos 0 = none n (omega arith) (λ q. other (sym q)) in
      let before = total_alone n i f (omega arith) (λ k low. none k (omega arith)) in
      omega (arith, ints, before, last)
]

module _ (p : Program) (os : List (ℕ × ℕ)) (is : IsProgram p) (o : Opens p os) (small : IsSmall p) (prices : (j : ℕ) → 2 ≤ j → ((pos 0 -ℤ pos 4294967296) ≤ℤ cost_of p j) × (cost_of p j ≤ℤ pos 0)) where
  abbrev row_of : ℕ → ℕ
  row_of i = (opening_at os i).0

  abbrev place_of : ℕ → ℕ
  place_of i = (opening_at os i).1

  -- the opening whose slack is at the place, or none
  marked_by : (n j : ℕ)
      → ((i : ℕ) × (i < n) × (j ≡ mark_at p (row_of i))) ⊎ ((i : ℕ) → i < n → j ≡ mark_at p (row_of i) → ⊥)
  marked_by zero j = inr (λ i low same. omega arith)
  marked_by (suc n) j = elim (cases_eq j (mark_at p (row_of n))) [
    | inl same ↦ inl (n, omega arith, same)
    | inr other ↦ elim (marked_by n j) [
      | inl found ↦ let low = found.1 in inl (found.0, omega (arith, low), found.2)
      | inr none ↦ inr (λ i low same. elim (cases_eq i n) [ inl q ↦ other (subst (λ (k : ℕ). j ≡ mark_at p (row_of k)) q same) | inr d ↦ none i (omega arith) same ])
    ]
  ]

  slack_about : (t : Tableau) (j : ℕ) → IsPlain p os (length os) t → slacks_from p ≤ j
      → (pos 0 ≤ℤ entry t.objective j) × (entry t.objective j ≤ℤ pos 4294967296)
  slack_about t j plain past =
      let f : ℕ → ℤ = λ i. cost_of p (place_of i) *ℤ coefficient_at p (row_of i) j in
      let none : cost_of p j ≡ pos 0 = cost_past p j past in
      elim (marked_by (length os) j) [
        | inl found ↦
            let i = found.0 in
            let low = found.1 in
            let own : coefficient_at p (row_of i) j ≡ pos 1 = ap (λ (k : ℕ). coefficient_at p (row_of i) k) found.2 ∙ (line_own p (row_of i) is (o.rows i low)).own in
            let sum : total (length os) f ≡ f i = total_alone (length os) i f low (λ k below other. times_none (cost_of p (place_of k)) (coefficient_at p (row_of k) j) (other_row k i below low other found.2)) in
            let one : cost_of p (place_of i) *ℤ coefficient_at p (row_of i) j ≡ cost_of p (place_of i) = ap (λ (z : ℤ). cost_of p (place_of i) *ℤ z) own ∙ (let u : cost_of p (place_of i) *ℤ pos 1 ≡ cost_of p (place_of i) = omega (arith, ints) in u) in
            let price = prices (place_of i) (o.least i low) in
            (omega (arith, ints, plain.objective j, none, sum, one, price.1), omega (arith, ints, plain.objective j, none, sum, one, price.0))
        | inr no_one ↦
            let sum : total (length os) f ≡ pos 0 = total_nothing (length os) f (λ k below. times_none (cost_of p (place_of k)) (coefficient_at p (row_of k) j) ((line_own p (row_of k) is (o.rows k below)).others j past (no_one k below))) in
            (omega (arith, ints, plain.objective j, none, sum), omega (arith, ints, plain.objective j, none, sum))
      ]
    where
      other_row : (k i : ℕ) → k < length os → i < length os → (k ≡ i → ⊥) → j ≡ mark_at p (row_of i)
          → coefficient_at p (row_of k) j ≡ pos 0
      other_row k i below low other same =
          ap (λ (e : ℕ). coefficient_at p (row_of k) e) same ∙ line_other p (row_of k) (row_of i) is (o.rows k below) (o.rows i low) (rows_apart p os k i o below low other)

  -- the test of what the opening hands out meets no wide number
  pub plain_narrow : (t : Tableau) → IsPlain p os (length os) t → IsDual p (entry t.objective 1) (handed p t)
      → handed_wide p t ≡ false
  unfolding verdict
  plain_narrow t plain dual =
      let d = t.objective in
      let scale = entry t.objective 1 in
      let y = handed p t in
      let rows = length p.rows in
      let y_about : (k : ℕ) → IsUpTo 4294967296 (entry y k) = λ k. multipliers_about p.rows (slacks_from p) d k (λ j past. slack_about t j plain past) in
      let flat : total (length os) (λ i. cost_of p (place_of i) *ℤ coefficient_at p (row_of i) 1) ≡ pos 0 =
      total_nothing (length os) (λ i. cost_of p (place_of i) *ℤ coefficient_at p (row_of i) 1) (λ i low. times_none (cost_of p (place_of i)) (coefficient_at p (row_of i) 1) (line_own p (row_of i) is (o.rows i low)).flat) in
      let one : scale ≡ pos 1 = omega (arith, ints, plain.objective 1, cost_scale p, flat) in
      let signs : first rows (sign_at p y) ≡ None = all_none rows (sign_at p y) (λ k below. sign_none k (row_at p.rows k).equation (entry y k) (dual.signs k below)) in
      let column : (e : ℕ) → e < length p.costs → column_at p scale y e ≡ None = λ e below.
      let price = small.costs e in
      let need_is : scale *ℤ pos (cost_at p.costs e) ≡ pos (cost_at p.costs e) = ap (λ (z : ℤ). z *ℤ pos (cost_at p.costs e)) one ∙ (let u : pos 1 *ℤ pos (cost_at p.costs e) ≡ pos (cost_at p.costs e) = omega (arith, ints) in u) in
      let fit : fits (scale *ℤ pos (cost_at p.costs e)) ≡ true = about_fits (scale *ℤ pos (cost_at p.costs e)) (omega (arith, ints, need_is, price), omega (arith, ints, need_is, price)) in
      let narrow : first_wide rows (column_part p y e) ≡ None = narrow_sums rows (column_part p y e) small.rows (λ k low. product_about (entry y k) (coefficient (row_at p.rows k).terms e) (y_about k) (small.numbers k e)) in
      passes rows e (first_wide rows (column_part p y e)) (scale *ℤ pos (cost_at p.costs e)) (column_sum p y e) narrow fit (dual.columns e below) in
      let columns : first (length p.costs) (column_at p scale y) ≡ None = all_none (length p.costs) (column_at p scale y) column in
      let right : first_wide rows (right_part p y) ≡ None = narrow_sums rows (right_part p y) small.rows (λ k low. product_about (entry y k) (row_at p.rows k).right (y_about k) (small.rights k)) in
      let told : verdict p scale y 0 ≡ bound_test 0 (floor_of (dual_sum p y) scale) = rw (signs, columns, right) refl in
      ap is_wide told ∙ never_wide (floor_of (dual_sum p y) scale)
    where
      passes : (rows e : ℕ) (w : Option ℕ) (need sum : ℤ) → w ≡ None → fits need ≡ true → need ≤ℤ sum
          → unless_wide w (λ k. Some (Wide k)) (column_test rows e need sum) ≡ None
      passes rows e w need sum none fit bounded =
          let le : int_le need sum ≡ true = by_test (int_le need sum) (λ yes_. yes_) (λ clear. absurd (omega (arith, ints, clear, bounded))) in
          rw none (rw (fit, le) refl)

      never_wide : (v : ℕ) → is_wide (bound_test 0 v) ≡ false
      never_wide v = by_test (nat_le v 0) (λ yes_. rw yes_ refl) (λ clear. rw clear refl)

-- the test of what the opening hands out meets no wide number
pub opening_narrow : (p : Program) (os : List (ℕ × ℕ)) → IsProgram p → OpensRows p os → IsSmall p
    → handed_wide p (started p os) ≡ false
opening_narrow p os is o small =
    let places = opening_places p.rows os in
    let lines = opens_lines p os o in
    let right = opening_right p places is lines in
    plain_narrow p places is lines small prices (started p os) (plain_opening p places is lines (length places) (omega arith))
    (handed_dual p (started p os).objective right.0.spans_objective right.0.scale right.1)
  where
    prices : (j : ℕ) → 2 ≤ j → ((pos 0 -ℤ pos 4294967296) ≤ℤ cost_of p j) × (cost_of p j ≤ℤ pos 0)
    prices zero least = absurd (omega arith)
    prices (suc zero) least = absurd (omega arith)
    prices (suc (suc e)) least = let c = cost_there p e in let low = small.costs e in (omega (arith, ints, c, low), omega (arith, ints, c, low))
