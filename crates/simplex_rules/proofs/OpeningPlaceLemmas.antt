-- On the way to the laws of opening place.
--   opening_worth   the sum over the openings in rows and columns
use Rattle.std.proofs.Common.{◌≡◌, ◌<◌, ℕ, ℤ, pos, List, length, ap, ◌∙◌, arith}
use Rattle.std.specs.Prelude.{◌-ℤ◌, ◌*ℤ◌}
use Rattle.std.proofs.lemmas.Int.{ints}
use Rattle.ipet_rows.specs.Sums.{total, coefficient}
use Rattle.ipet_rows.specs.Programs.{Program, row_at, cost_at}
use Rattle.ipet_rows.specs.SumLaws.{total_same}
use Rattle.simplex_rules.specs.Tableaus.{Generator, slacks_from}
use Rattle.simplex_rules.specs.PivotRule.{opening_at}
use Rattle.simplex_rules.specs.Promise.{coefficient_at, cost_of}
use Rattle.simplex_rules.proofs.PromiseLaws.{opening_sum}
use Rattle.simplex_rules.proofs.FirstLineLemmas.{slack_line_right}
use Rattle.simplex_rules.specs.OpeningPlaces.{line_place, opening_places, OpensRows}
use Rattle.simplex_rules.specs.OpeningPlaceLaws.{line_is, cost_there, places_length, line_at, variable_at}

-- ---- the line of a row

line_right : (p : Program) (k : ℕ) → k < length p.rows
    → coefficient_at p (line_place p.rows k) 0 ≡ (row_at p.rows k).right
line_right p k below =
    let l = line_is p.rows (slacks_from p) k below in
    let low = l.low in
    ap (λ (g : Generator). coefficient g.1 0) l.is ∙ slack_line_right (row_at p.rows k).right (row_at p.rows k).terms l.slack (omega (arith, low))

-- ---- the openings

module _ (p : Program) (os : List (ℕ × ℕ)) (o : OpensRows p os) where
  abbrev places : List (ℕ × ℕ)
  places = opening_places p.rows os

  abbrev row_of : (i : ℕ) → ℕ
  row_of i = (opening_at os i).0

  abbrev column_of : (i : ℕ) → ℕ
  column_of i = (opening_at os i).1

  -- the sum over the openings, in rows and columns
  pub opening_worth : opening_sum p (opening_places p.rows os) ≡ total (length os) (λ i. pos (cost_at p.costs (opening_at os i).1) *ℤ (row_at p.rows (opening_at os i).0).right)
  opening_worth =
      let f : ℕ → ℤ = λ i. (pos 0 -ℤ cost_of p (opening_at places i).1) *ℤ coefficient_at p (opening_at places i).0 0 in
      let g : ℕ → ℤ = λ i. pos (cost_at p.costs (column_of i)) *ℤ (row_at p.rows (row_of i)).right in
      let each_one : (i : ℕ) → i < length os → f i ≡ g i = λ i below.
      let price : pos 0 -ℤ cost_of p (opening_at places i).1 ≡ pos (cost_at p.costs (column_of i)) = (let c = ap (λ (j : ℕ). cost_of p j) (variable_at p os o i below) ∙ cost_there p (column_of i) in omega (arith, ints, c)) in
      let right : coefficient_at p (opening_at places i).0 0 ≡ (row_at p.rows (row_of i)).right = ap (λ (k : ℕ). coefficient_at p k 0) (line_at p os o i below) ∙ line_right p (row_of i) (o.rows i below) in
      ap (λ (z : ℤ). z *ℤ coefficient_at p (opening_at places i).0 0) price ∙ ap (λ (z : ℤ). pos (cost_at p.costs (column_of i)) *ℤ z) right in
      ap (λ (n : ℕ). total n f) (places_length p.rows os) ∙ total_same (length os) f g each_one
