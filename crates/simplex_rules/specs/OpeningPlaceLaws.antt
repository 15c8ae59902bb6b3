-- Rows and columns that open a program, as lines and places.
--   opens_lines     the lines and places open the tableau
use Rattle.std.proofs.Common.{◌≡◌, ◌<◌, ◌≤◌, ◌+◌, ℕ, zero, suc, pos, Bool, true, false, List, [], ◌∷◌, length, refl, ap, sym, ◌∙◌, subst, arith}
use Rattle.std.specs.Prelude.{neg_ℤ}
use Rattle.std.proofs.lemmas.Int.{ints}
use Rattle.ipet_rows.specs.Sums.{coefficient}
use Rattle.ipet_rows.specs.Programs.{Row, Program, row_at, cost_at}
use Rattle.ipet_rows.specs.SumLaws.{term_elsewhere}
use Rattle.simplex_rules.specs.Tableaus.{Generator, slack_line, row_lines, next_slack, generators, cost_terms, slacks_from}
use Rattle.simplex_rules.specs.PivotRule.{opening_at}
use Rattle.simplex_rules.specs.Promise.{generator_at, lines_of, coefficient_at, cost_of, IsCovered, Opens}
use Rattle.simplex_rules.specs.FirstLineLaws.{slack_line_column, cost_terms_here}
use Rattle.simplex_rules.specs.OpeningPlaces.{next_line, line_place, opening_places, OpensRows}

-- ---- the line of a row

-- it is the row with a slack of its own
pub record IsSlackLine (r : Row) (s : ℕ) (g : Generator) : Type 0 where
  pub slack : ℕ
  pub low : s ≤ slack
  pub is : g ≡ slack_line r.right r.terms slack

later_line : (b : Bool) (r : Row) (s k : ℕ) (more : List Generator)
    → generator_at (row_lines b r s more) (next_line b k) ≡ generator_at more k
later_line true r s k more = refl
later_line false r s k more = refl

first_line : (b : Bool) (r : Row) (s : ℕ) (more : List Generator)
    → generator_at (row_lines b r s more) 0 ≡ slack_line r.right r.terms s
first_line true r s more = refl
first_line false r s more = refl

slack_rises : (b : Bool) (s : ℕ) → s ≤ next_slack b s
slack_rises true s = omega arith
slack_rises false s = omega arith

pub line_is : (rs : List Row) (s k : ℕ) → k < length rs
    → IsSlackLine (row_at rs k) s (generator_at (generators rs s) (line_place rs k))
line_is [] s k below = absurd (omega arith)
line_is (r ∷ rs) s zero below = record { slack = s; low = omega arith; is = first_line r.equation r s (generators rs (next_slack r.equation s)) }
line_is (r ∷ rs) s (suc k) below =
    let later = line_is rs (next_slack r.equation s) k (omega arith) in
    let low = later.low in
    let rises = slack_rises r.equation s in
    record { slack = later.slack; low = omega (arith, low, rises); is = later_line r.equation r s (line_place rs k) (generators rs (next_slack r.equation s)) ∙ later.is }

count_lines : (b : Bool) (r : Row) (s k : ℕ) (more : List Generator) → k < length more
    → next_line b k < length (row_lines b r s more)
count_lines true r s k more below = omega arith
count_lines false r s k more below = omega arith

some_lines : (b : Bool) (r : Row) (s : ℕ) (more : List Generator) → 0 < length (row_lines b r s more)
some_lines true r s more = omega arith
some_lines false r s more = omega arith

line_low : (rs : List Row) (s k : ℕ) → k < length rs → line_place rs k < length (generators rs s)
line_low [] s k below = absurd (omega arith)
line_low (r ∷ rs) s zero below = some_lines r.equation r s (generators rs (next_slack r.equation s))
line_low (r ∷ rs) s (suc k) below = count_lines r.equation r s (line_place rs k) (generators rs (next_slack r.equation s)) (line_low rs (next_slack r.equation s) k (omega arith))

-- what the line of a row has at the place of a column, and at the right side
line_column : (p : Program) (k e : ℕ) → k < length p.rows → e < length p.costs
    → coefficient_at p (line_place p.rows k) (suc (suc e)) ≡ coefficient (row_at p.rows k).terms e
line_column p k e below within =
    let l = line_is p.rows (slacks_from p) k below in
    let low = l.low in
    ap (λ (g : Generator). coefficient g.1 (suc (suc e))) l.is ∙ slack_line_column (row_at p.rows k).right (row_at p.rows k).terms l.slack e (omega (arith, low, within))

-- what a column costs
pub cost_there : (p : Program) (e : ℕ) → cost_of p (suc (suc e)) ≡ neg_ℤ (pos (cost_at p.costs e))
cost_there p e =
    let place : suc (suc e) ≡ 2 + e = omega arith in
    let costs : coefficient (cost_terms p.costs 2) (suc (suc e)) ≡ neg_ℤ (pos (cost_at p.costs e)) = ap (λ (j : ℕ). coefficient (cost_terms p.costs 2) j) place ∙ cost_terms_here p.costs 2 e in
    omega (arith, ints, costs, term_elsewhere 1 (suc (suc e)) (pos 1) (λ (q : 1 ≡ suc (suc e)). absurd (omega arith)))

-- ---- the openings

pub places_length : (rows : List Row) (os : List (ℕ × ℕ)) → length (opening_places rows os) ≡ length os
places_length rows [] = refl
places_length rows (o ∷ os) = ap suc (places_length rows os)

place_at : (rows : List Row) (os : List (ℕ × ℕ)) (i : ℕ) → i < length os
    → opening_at (opening_places rows os) i ≡ (line_place rows (opening_at os i).0, suc (suc (opening_at os i).1))
place_at rows [] i below = absurd (omega arith)
place_at rows (o ∷ os) zero below = refl
place_at rows (o ∷ os) (suc i) below = place_at rows os i (omega arith)

module _ (p : Program) (os : List (ℕ × ℕ)) (o : OpensRows p os) where
  abbrev pub places : List (ℕ × ℕ)
  places = opening_places p.rows os

  abbrev pub row_of : (i : ℕ) → ℕ
  row_of i = (opening_at os i).0

  abbrev pub column_of : (i : ℕ) → ℕ
  column_of i = (opening_at os i).1

  pub line_at : (i : ℕ) → i < length os → (opening_at places i).0 ≡ line_place p.rows (row_of i)
  line_at i below = ap (λ (x : ℕ × ℕ). x.0) (place_at p.rows os i below)

  pub variable_at : (i : ℕ) → i < length os → (opening_at places i).1 ≡ suc (suc (column_of i))
  variable_at i below = ap (λ (x : ℕ × ℕ). x.1) (place_at p.rows os i below)

  within : (i : ℕ) → i < length places → i < length os
  within i below = let long = places_length p.rows os in omega (arith, below, long)

  -- what the opening i has at a column
  at_column : (i e : ℕ) → i < length os → e < length p.costs
      → coefficient_at p (opening_at places i).0 (suc (suc e)) ≡ coefficient (row_at p.rows (row_of i)).terms e
  at_column i e below low = ap (λ (k : ℕ). coefficient_at p k (suc (suc e))) (line_at i below) ∙ line_column p (row_of i) e (o.rows i below) low

  at_opening : (i k : ℕ) → i < length os → k < length os → coefficient_at p (opening_at places i).0 (opening_at places k).1 ≡ coefficient (row_at p.rows (row_of i)).terms (column_of k)
  at_opening i k below other = ap (λ (j : ℕ). coefficient_at p (opening_at places i).0 j) (variable_at k other) ∙ at_column i (column_of k) below (o.columns k other)

  covered : (e : ℕ) → e < length p.costs → IsCovered p places (suc (suc e))
  covered e low =
      let c = o.covers e low in
      let long = places_length p.rows os in
      let by_low = c.below in
      let one : cost_of p (suc (suc e)) ≡ cost_of p (suc (suc (column_of c.by))) = cost_there p e ∙ ap (λ (n : ℕ). neg_ℤ (pos n)) c.cost ∙ sym (cost_there p (column_of c.by)) in
      record {
        by = c.by;
        below = omega (arith, long, by_low);
        own = at_column c.by e c.below low ∙ c.own;
        others = λ k less other. at_column k e (within k less) low ∙ c.others k (within k less) other;
        cost = one ∙ ap (λ (j : ℕ). cost_of p j) (sym (variable_at c.by c.below));
      }

  cover_at : (j : ℕ) → 2 ≤ j → j < slacks_from p → IsCovered p places j
  cover_at zero least most = absurd (omega arith)
  cover_at (suc zero) least most = absurd (omega arith)
  cover_at (suc (suc e)) least most = covered e (omega arith)

  -- the lines and places open the tableau
  pub opens_lines : Opens p (opening_places p.rows os)
  opens_lines = record {
    rows = λ i below. subst (λ (k : ℕ). k < length (lines_of p)) (sym (line_at i (within i below))) (line_low p.rows (slacks_from p) (row_of i) (o.rows i (within i below)));
    least = λ i below. let at_place = variable_at i (within i below) in omega (arith, at_place);
    most = λ i below. let at_place = variable_at i (within i below) in let low = o.columns i (within i below) in omega (arith, at_place, low);
    own = λ i below. at_opening i i (within i below) (within i below) ∙ o.own i (within i below);
    apart = λ i k below other apart. at_opening i k (within i below) (within k other) ∙ o.apart i k (within i below) (within k other) apart;
    covers = cover_at;
  }
