-- Laws of read off.
--   read_off_is            it is a point, it meets the rows where no right side is negative, and it has the dual value
use Rattle.std.proofs.Common.{◌≡◌, ◌<◌, ℕ, zero, suc, ℤ, pos, Bool, true, false, List, [], ◌∷◌, length, ap, sym, ◌∙◌, arith}
use Rattle.std.specs.Prelude.{◌-ℤ◌, ◌*ℤ◌, ◌≤ℤ◌}
use Rattle.std.proofs.lemmas.Int.{ints}
use Rattle.whole_numbers.specs.MultipleLaws.{sum_times, times_times}
use Rattle.ipet_rows.specs.Sums.{total, value_at}
use Rattle.ipet_rows.specs.Programs.{Program, IsProgram, IsWithin, row_at, cost_at}
use Rattle.ipet_rows.specs.Points.{MeetsAs, worth}
use Rattle.ipet_rows.specs.Firsts.{entry}
use Rattle.ipet_rows.specs.Fractions.{whole_of, part_of}
use Rattle.ipet_rows.specs.PointLaws.{whole_above}
use Rattle.ipet_rows.specs.Duals.{dual_sum}
use Rattle.ipet_rows.specs.SumLaws.{swap_first, times_difference}
use Rattle.ipet_rows.specs.DualityLaws.{times_rising}
use Rattle.simplex_rules.specs.PivotRule.{Least, Ended}
use Rattle.simplex_rules.specs.Promise.{basic_point, point_whole, handed, Answers}
use Rattle.simplex_rules.specs.MixingLaws.{cancel_same, cancel_at_least}
use Rattle.simplex_rules.specs.ReadOff.{AreParts, IsReadOff, IsLeastPoint}

-- ---- parts over one whole

-- a column's part times the tableau's whole is its number times the point's whole
part_is : (x : ℕ → ℤ) (w : ℤ) (point : List (ℤ × ℤ)) (e : ℕ) → AreParts x w point → e < length point
    → part_of point e *ℤ w ≡ x e *ℤ whole_of point
part_is x w [] e are below = absurd (omega arith)
part_is x w (a ∷ more) zero are below =
    let one : (a.0 *ℤ whole_of more) *ℤ w ≡ whole_of more *ℤ (a.0 *ℤ w) = times_times a.0 (whole_of more) w ∙ swap_first a.0 (whole_of more) w in
    let two : whole_of more *ℤ (x 0 *ℤ a.1) ≡ x 0 *ℤ (whole_of more *ℤ a.1) = swap_first (whole_of more) (x 0) a.1 in
    let three : whole_of more *ℤ a.1 ≡ a.1 *ℤ whole_of more = omega (arith, ints) in
    one ∙ ap (λ (z : ℤ). whole_of more *ℤ z) are.0 ∙ two ∙ ap (λ (z : ℤ). x 0 *ℤ z) three
part_is x w (a ∷ more) (suc e) are below =
    let rest = part_is (λ k. x (suc k)) w more e are.1 (omega arith) in
    times_times a.1 (part_of more e) w ∙ ap (λ (z : ℤ). a.1 *ℤ z) rest ∙ swap_first a.1 (x (suc e)) (whole_of more)

-- so of terms, and of the worth
value_is : (ts : List (ℕ × ℤ)) (n : ℕ) (x y : ℕ → ℤ) (w v : ℤ) → IsWithin n ts → ((e : ℕ) → e < n → y e *ℤ w ≡ x e *ℤ v)
    → value_at ts y *ℤ w ≡ value_at ts x *ℤ v
value_is [] n x y w v within same = omega (arith, ints)
value_is (t ∷ ts) n x y w v within same =
    let here : (t.1 *ℤ y t.0) *ℤ w ≡ (t.1 *ℤ x t.0) *ℤ v = times_times t.1 (y t.0) w ∙ ap (λ (z : ℤ). t.1 *ℤ z) (same t.0 within.0) ∙ sym (times_times t.1 (x t.0) v) in
    let later = value_is ts n x y w v within.1 same in
    omega (arith, ints, sum_times (t.1 *ℤ y t.0) (value_at ts y) w, sum_times (t.1 *ℤ x t.0) (value_at ts x) v, here, later)

total_is : (n : ℕ) (c x y : ℕ → ℤ) (w v : ℤ) → ((e : ℕ) → e < n → y e *ℤ w ≡ x e *ℤ v)
    → total n (λ e. c e *ℤ y e) *ℤ w ≡ total n (λ e. c e *ℤ x e) *ℤ v
total_is zero c x y w v same = omega (arith, ints)
total_is (suc n) c x y w v same =
    let here : (c n *ℤ y n) *ℤ w ≡ (c n *ℤ x n) *ℤ v = times_times (c n) (y n) w ∙ ap (λ (z : ℤ). c n *ℤ z) (same n (omega arith)) ∙ sym (times_times (c n) (x n) v) in
    let later = total_is n c x y w v (λ e below. same e (omega arith)) in
    omega (arith, ints, sum_times (total n (λ e. c e *ℤ y e)) (c n *ℤ y n) w, sum_times (total n (λ e. c e *ℤ x e)) (c n *ℤ x n) v, here, later)

-- ---- rows

meets_still : (equation : Bool) (a b right w v : ℤ) → pos 1 ≤ℤ w → pos 1 ≤ℤ v → b *ℤ w ≡ a *ℤ v
    → MeetsAs equation a (right *ℤ w) → MeetsAs equation b (right *ℤ v)
meets_still true a b right w v above whole same is =
    let one : w *ℤ b ≡ w *ℤ (right *ℤ v) = (let turned : w *ℤ b ≡ b *ℤ w = omega (arith, ints) in turned) ∙ same ∙ ap (λ (z : ℤ). z *ℤ v) is ∙ times_times right w v ∙ swap_first right w v in
    cancel_same w b (right *ℤ v) above one
meets_still false a b right w v above whole same is =
    let scaled : (a *ℤ v) ≤ℤ ((right *ℤ w) *ℤ v) = times_rising a (right *ℤ w) v is (omega (arith, ints, whole)) in
    let turned : (right *ℤ w) *ℤ v ≡ w *ℤ (right *ℤ v) = times_times right w v ∙ swap_first right w v in
    let back : w *ℤ b ≡ b *ℤ w = omega (arith, ints) in
    let apart = times_difference w (right *ℤ v) b in
    let left : pos 0 ≤ℤ (w *ℤ ((right *ℤ v) -ℤ b)) = omega (arith, ints, scaled, turned, back, same, apart) in
    let not_more = cancel_at_least w ((right *ℤ v) -ℤ b) above left in
    omega (arith, ints, not_more)

-- what was read off meets the rows, and is worth the dual value
pub read_off_is : (p : Program) (x : Ended) (point : List (ℤ × ℤ)) → IsProgram p → Answers p x → x.end ≡ Least
    → IsReadOff p x.tableau point → IsLeastPoint p x point
read_off_is p x point is answers least read =
    let w = point_whole x.tableau in
    let v = whole_of point in
    let b = basic_point x.tableau in
    let above = answers.above in
    let whole : pos 1 ≤ℤ whole_of point = whole_above point read.is.fractions in
    let count = read.is.columns in
    let parts : (e : ℕ) → e < length p.costs → part_of point e *ℤ point_whole x.tableau ≡ basic_point x.tableau e *ℤ whole_of point = λ e below. part_is b w point e read.parts (omega (arith, count, below)) in
    let meets = answers.meets least in
    let all : worth p (part_of point) *ℤ point_whole x.tableau ≡ worth p (basic_point x.tableau) *ℤ whole_of point = total_is (length p.costs) (λ e. pos (cost_at p.costs e)) b (part_of point) w v parts in
    let d = entry x.tableau.objective 1 in
    let sum = dual_sum p (handed p x.tableau) in
    let equal : d *ℤ worth p (basic_point x.tableau) ≡ sum *ℤ point_whole x.tableau = answers.equal in
    let one : w *ℤ (d *ℤ worth p (part_of point)) ≡ d *ℤ (worth p (part_of point) *ℤ w) = swap_first w d (worth p (part_of point)) ∙ ap (λ (z : ℤ). d *ℤ z) (let turned : w *ℤ worth p (part_of point) ≡ worth p (part_of point) *ℤ w = omega (arith, ints) in turned) in
    let two : d *ℤ (worth p b *ℤ v) ≡ w *ℤ (sum *ℤ v) = sym (times_times d (worth p b) v) ∙ ap (λ (z : ℤ). z *ℤ v) equal ∙ times_times sum w v ∙ swap_first sum w v in
    record {
      feasible = λ k below. meets_still (row_at p.rows k).equation (value_at (row_at p.rows k).terms b) (value_at (row_at p.rows k).terms (part_of point)) (row_at p.rows k).right w v above whole
          (value_is (row_at p.rows k).terms (length p.costs) b (part_of point) w v (is k) parts) (meets.meets k below);
      worth = cancel_same w (d *ℤ worth p (part_of point)) (sum *ℤ v) above (one ∙ ap (λ (z : ℤ). d *ℤ z) all ∙ two);
    }
