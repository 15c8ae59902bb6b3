-- Laws of handed out.
--   handed_columns   the sums of a spanned line's multipliers in each column
--   handed_dual      the multipliers of a spanned, rising objective are a dual point
--   handed_sum       the objective's right side is the sum of multiplier times right side
use Rattle.std.proofs.Common.{◌≡◌, ℕ, ℤ, pos, zero, suc, ◌+◌, ◌<◌, ◌≤◌, arith, refl, sym, ap, ◌∙◌, List, [], ◌∷◌, length, Bool, true, false}
use Rattle.std.specs.Prelude.{◌+ℤ◌, ◌*ℤ◌, ◌≤ℤ◌, neg_ℤ}
use Rattle.std.proofs.lemmas.Int.{ints}
use Rattle.whole_numbers.specs.MultipleLaws.{difference_times}
use Rattle.ipet_rows.specs.Sums.{total, coefficient}
use Rattle.ipet_rows.specs.Programs.{Row, Program, row_at, cost_at}
use Rattle.ipet_rows.specs.Firsts.{entry}
use Rattle.ipet_rows.specs.Duals.{IsDual, column_sum, dual_sum}
use Rattle.ipet_rows.specs.SumLaws.{total_first, times_neg, term_elsewhere}
use Rattle.simplex_rules.specs.Tableaus.{Generator, slack_line, turned, row_lines, next_slack, generators, width_from, multiplier, multipliers, cost_terms, objective_line, slacks_from, all_lines, width_of}
use Rattle.simplex_rules.specs.Mixing.{IsSpanned, combination}
use Rattle.simplex_rules.proofs.FirstLineLemmas.{slack_line_right}
use Rattle.simplex_rules.specs.FirstLineLaws.{slack_line_column, coefficient_turned, cost_terms_here, cost_terms_low}
use Rattle.simplex_rules.specs.HandedOut.{IsRising}
use Rattle.simplex_rules.specs.HandedOutLaws.{next_above, width_above}

-- a row's lines at a column
column_step : (b : Bool) (r : Row) (s e : ℕ) (d : List ℤ) (more : List Generator) → suc (suc e) < s
    → combination (row_lines b r s more) (entry d) (suc (suc e)) ≡ (multiplier b s d *ℤ coefficient r.terms e) +ℤ combination more (entry d) (suc (suc e))
column_step false r s e d more below =
    rw (slack_line_column r.right r.terms s e below) refl
column_step true r s e d more below =
    let one = slack_line_column r.right r.terms s e below in
    let two : coefficient (slack_line (neg_ℤ r.right) (turned r.terms) (suc s)).1 (suc (suc e)) ≡ neg_ℤ (coefficient r.terms e) =
    slack_line_column (neg_ℤ r.right) (turned r.terms) (suc s) e (omega arith) ∙ coefficient_turned r.terms e in
    rw (one, two) (omega (arith, ints, difference_times (entry d s) (entry d (suc s)) (coefficient r.terms e), times_neg (entry d (suc s)) (coefficient r.terms e)))

-- a row's lines at the right side
right_step : (b : Bool) (r : Row) (s : ℕ) (d : List ℤ) (more : List Generator) → 2 ≤ s
    → combination (row_lines b r s more) (entry d) 0 ≡ (multiplier b s d *ℤ r.right) +ℤ combination more (entry d) 0
right_step false r s d more least =
    rw (slack_line_right r.right r.terms s least) refl
right_step true r s d more least =
    let one = slack_line_right r.right r.terms s least in
    let two = slack_line_right (neg_ℤ r.right) (turned r.terms) (suc s) (omega arith) in
    rw (one, two) (omega (arith, ints, difference_times (entry d s) (entry d (suc s)) r.right, times_neg (entry d (suc s)) r.right))

-- all rows' lines at a column
rows_column : (rs : List Row) (s e : ℕ) (d : List ℤ) → suc (suc e) < s
    → combination (generators rs s) (entry d) (suc (suc e)) ≡ total (length rs) (λ k. entry (multipliers rs s d) k *ℤ coefficient (row_at rs k).terms e)
rows_column [] s e d below = refl
rows_column (r ∷ rs) s e d below =
    let next_ = next_slack r.equation s in
    column_step r.equation r s e d (generators rs next_) below
    ∙ ap (λ (t : ℤ). (multiplier r.equation s d *ℤ coefficient r.terms e) +ℤ t) (rows_column rs next_ e d (omega (arith, next_above r.equation s)))
    ∙ sym (total_first (length rs) (λ k. entry (multipliers (r ∷ rs) s d) k *ℤ coefficient (row_at (r ∷ rs) k).terms e))

-- all rows' lines at the right side
rows_right : (rs : List Row) (s : ℕ) (d : List ℤ) → 2 ≤ s
    → combination (generators rs s) (entry d) 0 ≡ total (length rs) (λ k. entry (multipliers rs s d) k *ℤ (row_at rs k).right)
rows_right [] s d least = refl
rows_right (r ∷ rs) s d least =
    let next_ = next_slack r.equation s in
    right_step r.equation r s d (generators rs next_) least
    ∙ ap (λ (t : ℤ). (multiplier r.equation s d *ℤ r.right) +ℤ t) (rows_right rs next_ d (omega (arith, next_above r.equation s)))
    ∙ sym (total_first (length rs) (λ k. entry (multipliers (r ∷ rs) s d) k *ℤ (row_at (r ∷ rs) k).right))

sign_step : (b : Bool) (s : ℕ) (d : List ℤ) → b ≡ false → pos 0 ≤ℤ entry d s → pos 0 ≤ℤ multiplier b s d
sign_step true s d e positive = cc
sign_step false s d e positive = positive

signs : (rs : List Row) (s w : ℕ) (d : List ℤ) (k : ℕ) → 2 ≤ s → width_from rs s ≤ w → IsRising w d
    → k < length rs → (row_at rs k).equation ≡ false → pos 0 ≤ℤ entry (multipliers rs s d) k
signs [] s w d k least most rising below e = absurd (omega arith)
signs (r ∷ rs) s w d zero least most rising below e =
    sign_step r.equation s d e (rising.is s least (omega (arith, next_above r.equation s, width_above rs (next_slack r.equation s))))
signs (r ∷ rs) s w d (suc k) least most rising below e =
    signs rs (next_slack r.equation s) w d k (omega (arith, next_above r.equation s)) most rising (omega arith) e

-- the sums of a spanned line's multipliers in each column
pub handed_columns : (p : Program) (d : List ℤ) → IsSpanned (all_lines p) (entry d) → IsRising (width_of p) d
    → (e : ℕ) → e < length p.costs → (entry d 1 *ℤ pos (cost_at p.costs e)) ≤ℤ column_sum p (multipliers p.rows (slacks_from p) d) e
handed_columns p d spans rising e below =
    let here : coefficient (objective_line p.costs).1 (suc (suc e)) ≡ neg_ℤ (pos (cost_at p.costs e)) =
    (let q : 2 + e ≡ suc (suc e) = omega arith in
    let c : coefficient (cost_terms p.costs 2) (suc (suc e)) ≡ neg_ℤ (pos (cost_at p.costs e)) = rw q at (cost_terms_here p.costs 2 e) in
    omega (arith, ints, c, term_elsewhere 1 (suc (suc e)) (pos 1) (λ (z : 1 ≡ suc (suc e)). absurd (omega arith)))) in
    let sum : entry d (suc (suc e)) ≡ (entry d 1 *ℤ neg_ℤ (pos (cost_at p.costs e))) +ℤ column_sum p (multipliers p.rows (slacks_from p) d) e =
    spans.is (suc (suc e)) ∙ ap (λ (t : ℤ). (entry d 1 *ℤ t) +ℤ combination (generators p.rows (slacks_from p)) (entry d) (suc (suc e))) here
    ∙ ap (λ (t : ℤ). (entry d 1 *ℤ neg_ℤ (pos (cost_at p.costs e))) +ℤ t) (rows_column p.rows (slacks_from p) e d (omega arith)) in
    omega (arith, ints, sum, times_neg (entry d 1) (pos (cost_at p.costs e)), rising.is (suc (suc e)) (omega arith) (omega (arith, width_above p.rows (slacks_from p))))

pub handed_signs : (p : Program) (d : List ℤ) → IsRising (width_of p) d
    → (k : ℕ) → k < length p.rows → (row_at p.rows k).equation ≡ false → pos 0 ≤ℤ entry (multipliers p.rows (slacks_from p) d) k
handed_signs p d rising k below e = signs p.rows (slacks_from p) (width_of p) d k (omega arith) (omega arith) rising below e

-- the multipliers of a spanned, rising objective are a dual point
pub handed_dual : (p : Program) (d : List ℤ) → IsSpanned (all_lines p) (entry d) → pos 1 ≤ℤ entry d 1
    → IsRising (width_of p) d
    → IsDual p (entry d 1) (multipliers p.rows (slacks_from p) d)
handed_dual p d spans above rising = record { above = above; signs = handed_signs p d rising; columns = handed_columns p d spans rising }

-- the objective's right side is the sum of multiplier times right side
pub handed_sum : (p : Program) (d : List ℤ) → IsSpanned (all_lines p) (entry d)
    → dual_sum p (multipliers p.rows (slacks_from p) d) ≡ entry d 0
handed_sum p d spans =
    let here : coefficient (objective_line p.costs).1 0 ≡ pos 0 =
    omega (arith, ints, cost_terms_low p.costs 2 0 (omega arith), term_elsewhere 1 0 (pos 1) (λ (z : 1 ≡ 0). absurd (omega arith))) in
    let sum : entry d 0 ≡ (entry d 1 *ℤ pos 0) +ℤ dual_sum p (multipliers p.rows (slacks_from p) d) =
    spans.is 0 ∙ ap (λ (t : ℤ). (entry d 1 *ℤ t) +ℤ combination (generators p.rows (slacks_from p)) (entry d) 0) here
    ∙ ap (λ (t : ℤ). (entry d 1 *ℤ pos 0) +ℤ t) (rows_right p.rows (slacks_from p) d (omega arith)) in
    omega (arith, ints, sum)
