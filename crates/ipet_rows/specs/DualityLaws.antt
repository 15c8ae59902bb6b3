-- Weak duality: multipliers that bound each cost bound each point that meets the rows.
use Rattle.std.proofs.Common.{◌≡◌, ℕ, ℤ, pos, negsuc, ◌<◌, arith, refl, sym, ap, ◌∙◌, List, length, true, false, Bool}
use Rattle.std.specs.Prelude.{◌-ℤ◌, ◌*ℤ◌, ◌≤ℤ◌}
use Rattle.std.proofs.lemmas.Int.{ints}
use Rattle.whole_numbers.specs.MultipleLaws.{difference_times, times_times}
use Rattle.ipet_rows.specs.Sums.{total, coefficient, value_at}
use Rattle.ipet_rows.specs.Firsts.{entry}
use Rattle.ipet_rows.specs.Programs.{Program, IsProgram, row_at, cost_at}
use Rattle.ipet_rows.specs.Points.{MeetsAs, MeetsAll, worth}
use Rattle.ipet_rows.specs.Duals.{IsDual, column_part, column_sum, right_part, dual_sum}
use Rattle.ipet_rows.specs.SumLaws.{total_same, total_times, total_most, total_exchange, total_terms}

not_below : (d m : ℤ) → pos 0 ≤ℤ d → pos 0 ≤ℤ m → pos 0 ≤ℤ (d *ℤ m)
not_below (pos d) (pos m) p q = omega (arith, ints)
not_below (negsuc d) m p q = absurd (omega (arith, ints))
not_below (pos d) (negsuc m) p q = absurd (omega (arith, ints))

-- a factor at least 0 keeps an order
pub times_rising : (a b m : ℤ) → a ≤ℤ b → pos 0 ≤ℤ m → (a *ℤ m) ≤ℤ (b *ℤ m)
times_rising a b m rising positive =
    let h : pos 0 ≤ℤ ((b -ℤ a) *ℤ m) = not_below (b -ℤ a) m (omega (arith, ints)) positive in
    omega (arith, ints, h, difference_times b a m)

-- a row times its multiplier
row_bound : (equation : Bool) (y v b : ℤ) → MeetsAs equation v b → (equation ≡ false → pos 0 ≤ℤ y)
    → (y *ℤ v) ≤ℤ (y *ℤ b)
row_bound true y v b same sign = rw same (omega (arith, ints))
row_bound false y v b most sign = omega (arith, ints, times_rising v b y most (sign refl))

-- a sum times a factor
total_by : (n : ℕ) (c : ℤ) (f : ℕ → ℤ) → total n f *ℤ c ≡ total n (λ j. f j *ℤ c)
total_by n c f =
    let turned : total n (λ j. c *ℤ f j) ≡ total n (λ j. f j *ℤ c) = total_same n (λ j. c *ℤ f j) (λ j. f j *ℤ c) (λ j below. omega (arith, ints)) in
    let out : total n (λ j. c *ℤ f j) ≡ c *ℤ total n f = total_times n c f in
    let same : total n f *ℤ c ≡ c *ℤ total n f = omega (arith, ints) in
    same ∙ sym out ∙ turned

-- the sum of one row's parts over the columns
row_sum : (p : Program) (y : List ℤ) (x : ℕ → ℤ) (k : ℕ) → IsProgram p
    → total (length p.costs) (λ e. column_part p y e k *ℤ x e) ≡ entry y k *ℤ value_at (row_at p.rows k).terms x
row_sum p y x k is =
    let n = length p.costs in
    let ts = (row_at p.rows k).terms in
    let moved : total n (λ e. column_part p y e k *ℤ x e) ≡ total n (λ e. entry y k *ℤ (coefficient ts e *ℤ x e)) =
    total_same n (λ e. column_part p y e k *ℤ x e) (λ e. entry y k *ℤ (coefficient ts e *ℤ x e)) (λ e below. times_times (entry y k) (coefficient ts e) (x e)) in
    moved ∙ total_times n (entry y k) (λ e. coefficient ts e *ℤ x e) ∙ ap (λ (t : ℤ). entry y k *ℤ t) (total_terms n ts x (is k))

-- weak duality, for any scale
pub weak_parts : (p : Program) (scale : ℤ) (y : List ℤ) (x : ℕ → ℤ) (w : ℤ) → IsProgram p
    → ((k : ℕ) → k < length p.rows → (row_at p.rows k).equation ≡ false → pos 0 ≤ℤ entry y k)
    → ((e : ℕ) → e < length p.costs → (scale *ℤ pos (cost_at p.costs e)) ≤ℤ column_sum p y e) → MeetsAll p x w
    → (scale *ℤ worth p x) ≤ℤ (dual_sum p y *ℤ w)
weak_parts p scale y x w is signs columns meets =
    let n = length p.costs in
    let m = length p.rows in
    let costs : scale *ℤ worth p x ≡ total n (λ e. scale *ℤ (pos (cost_at p.costs e) *ℤ x e)) =
    sym (total_times n scale (λ e. pos (cost_at p.costs e) *ℤ x e)) in
    let each_column : total n (λ e. scale *ℤ (pos (cost_at p.costs e) *ℤ x e)) ≤ℤ total n (λ e. column_sum p y e *ℤ x e) =
    total_most n (λ e. scale *ℤ (pos (cost_at p.costs e) *ℤ x e)) (λ e. column_sum p y e *ℤ x e)
    (λ e below. omega (
      arith,
      ints,
      times_times scale (pos (cost_at p.costs e)) (x e),
      times_rising (scale *ℤ pos (cost_at p.costs e)) (column_sum p y e) (x e) (columns e below) (meets.columns e),
    )) in
    let parts : total n (λ e. column_sum p y e *ℤ x e) ≡ total n (λ e. total m (λ k. column_part p y e k *ℤ x e)) =
    total_same n (λ e. column_sum p y e *ℤ x e) (λ e. total m (λ k. column_part p y e k *ℤ x e)) (λ e below. total_by m (x e) (column_part p y e)) in
    let exchanged : total n (λ e. total m (λ k. column_part p y e k *ℤ x e)) ≡ total m (λ k. total n (λ e. column_part p y e k *ℤ x e)) =
    total_exchange n m (λ e k. column_part p y e k *ℤ x e) in
    let each_row : total m (λ k. total n (λ e. column_part p y e k *ℤ x e)) ≤ℤ total m (λ k. right_part p y k *ℤ w) =
    total_most m (λ k. total n (λ e. column_part p y e k *ℤ x e)) (λ k. right_part p y k *ℤ w)
    (λ k below.
    let v = value_at (row_at p.rows k).terms x in
    let b = (row_at p.rows k).right in
    let sum : total n (λ e. column_part p y e k *ℤ x e) ≡ entry y k *ℤ v = row_sum p y x k is in
    let bound : (entry y k *ℤ v) ≤ℤ (entry y k *ℤ (b *ℤ w)) = row_bound (row_at p.rows k).equation (entry y k) v (b *ℤ w) (meets.meets k below) (signs k below) in
    omega (arith, ints, sum, bound, times_times (entry y k) b w)) in
    let rights : dual_sum p y *ℤ w ≡ total m (λ k. right_part p y k *ℤ w) = total_by m w (right_part p y) in
    omega (arith, ints, costs, each_column, parts, exchanged, each_row, rights)

-- weak duality
pub weak_duality : (p : Program) (scale : ℤ) (y : List ℤ) (x : ℕ → ℤ) (w : ℤ) → IsProgram p → IsDual p scale y
    → MeetsAll p x w
    → (scale *ℤ worth p x) ≤ℤ (dual_sum p y *ℤ w)
weak_duality p scale y x w is dual meets = weak_parts p scale y x w is dual.signs dual.columns meets
