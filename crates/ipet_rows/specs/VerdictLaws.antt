-- From the verdict `Holds` to a dual point, and to every point that meets the rows.
use Rattle.std.proofs.Common.{◌≡◌, ℕ, ℤ, pos, negsuc, zero, suc, ◌<◌, ◌≤◌, arith, refl, sym, ◌∙◌, List, length, Option, Some, None, ⊎_elim, true, false, Bool}
use Rattle.std.specs.Prelude.{◌+ℤ◌, ◌-ℤ◌, ◌*ℤ◌, ◌≤ℤ◌, ◌<ℤ◌, ◌||◌, int_le, nat_le, unsigned_abs}
use Rattle.std.specs.Int.{int_div_euclid, int_rem_euclid, int_max}
use Rattle.std.proofs.lemmas.Int.{ints, clamps}
use Rattle.std.proofs.lemmas.Bool.{cases_Bool, cases_eq, leb-true}
use Rattle.ipet_rows.specs.Firsts.{fits, entry, first, or_else}
use Rattle.whole_numbers.specs.DivisionLaws.{quotient_and_rest, rest_range}
use Rattle.whole_numbers.specs.MultipleLaws.{sum_times, times_times}
use Rattle.ipet_rows.specs.Programs.{Program, IsProgram, row_at, cost_at}
use Rattle.ipet_rows.specs.Points.{MeetsAll, worth}
use Rattle.ipet_rows.specs.Fractions.{part_of, whole_of}
use Rattle.ipet_rows.specs.Duals.{IsDual, column_part, column_sum, right_part, dual_sum}
use Rattle.ipet_rows.specs.Verdicts.{first_wide, sign_at, column_test, column_at, unless_wide, floor_of, bound_test, right_verdict, verdict_or, verdict}
use Rattle.ipet_rows.specs.Bounds.{BoundsAll, OnHolds}
use Rattle.ipet_rows.specs.declared.verdict.Verdict.{Verdict}
use Rattle.ipet_rows.specs.declared.verdict.Verdict.TheVariants.{Holds, Negative, Wide, Column, Bound}
use Rattle.ipet_rows.specs.PointLaws.{whole_above, point_meets_all}
use Rattle.ipet_rows.specs.DualityLaws.{weak_duality, times_rising}
use Rattle.ipet_rows.specs.SumLaws.{times_difference, swap_first}

by_test : {A : Type 0} (v : Bool) → (v ≡ true → A) → (v ≡ false → A) → A
by_test v one other = ⊎_elim one other (cases_Bool v)

-- no first answer: no answer
or_none : {A : Type 0} (a b : Option A) → or_else a b ≡ None → (a ≡ None) × (b ≡ None)
or_none None b e = (refl, e)
or_none (Some v) b e = absurd cc

none_before : {A : Type 0} (n k : ℕ) (f : ℕ → Option A) → first n f ≡ None → k < n → f k ≡ None
none_before zero k f e below = absurd (omega arith)
none_before (suc n) k f e below =
    let parts = or_none (first n f) (f n) e in
    ⊎_elim (λ (q : k ≡ n). rw q parts.1) (λ (d : k ≡ n → ⊥). none_before n k f parts.0 (omega arith)) (cases_eq k n)

-- the parts of a verdict that holds
sign_is : (p : Program) (y : List ℤ) (k : ℕ) → sign_at p y k ≡ None → (row_at p.rows k).equation ≡ false
    → pos 0 ≤ℤ entry y k
sign_is p y k e eq = by_test (int_le (pos 0) (entry y k))
    (λ (yes_ : int_le (pos 0) (entry y k) ≡ true). omega (arith, ints, yes_))
    (λ (no_ : int_le (pos 0) (entry y k) ≡ false). let z : sign_at p y k ≡ Some (Negative k) = rw (eq, no_) refl in absurd cc)

column_is : (rows e : ℕ) (need sum : ℤ) → column_test rows e need sum ≡ None → need ≤ℤ sum
column_is rows e need sum q = by_test (fits need)
    (λ (f : fits need ≡ true). by_test (int_le need sum)
    (λ (yes_ : int_le need sum ≡ true). omega (arith, ints, yes_))
    (λ (no_ : int_le need sum ≡ false). let z : column_test rows e need sum ≡ Some (Column e) = rw (f, no_) refl in absurd cc))
    (λ (f : fits need ≡ false). let z : column_test rows e need sum ≡ Some (Wide rows) = rw f refl in absurd cc)

unless_none : (o : Option ℕ) (t : Option Verdict) → unless_wide o (λ k. Some (Wide k)) t ≡ None → t ≡ None
unless_none None t e = e
unless_none (Some k) t e = absurd cc

bound_is : (bound value v : ℕ) → bound_test bound value ≡ Holds v → (v ≡ value) × (value ≤ bound)
bound_is bound value v e = by_test (nat_le value bound)
    (λ (yes_ : nat_le value bound ≡ true). let z : bound_test bound value ≡ Holds value = rw yes_ refl in (cc, leb-true value bound yes_))
    (λ (no_ : nat_le value bound ≡ false). let z : bound_test bound value ≡ Bound value = rw no_ refl in absurd cc)

unless_holds : (o : Option ℕ) (t : Verdict) (v : ℕ) → unless_wide o Wide t ≡ Holds v → t ≡ Holds v
unless_holds None t v e = e
unless_holds (Some k) t v e = absurd cc

some_step : {A : Type 0} (a b : Option A) (P : A → Type 0) (v : A) → ((w : A) → a ≡ Some w → P w)
    → ((w : A) → b ≡ Some w → P w) → or_else a b ≡ Some v → P v
some_step None b P v pa pb e = pb v e
some_step (Some w) b P v pa pb e = pa v e

floor_step : (sum q r : ℤ) (n : ℕ) → sum ≡ (q *ℤ pos n) +ℤ r → r <ℤ pos n
    → sum <ℤ (pos (suc (unsigned_abs (int_max (pos 0) q))) *ℤ pos n)
floor_step sum (pos q) r n e less =
    let m : int_max (pos 0) (pos q) ≡ pos q = omega (arith, ints, clamps) in
    rw m (omega (arith, ints, e, less, sum_times (pos q) (pos 1) (pos n)))
floor_step sum (negsuc q) r n e less =
    omega (arith, ints, e, less)

-- the floor is below the next number
floor_is : (sum scale : ℤ) → pos 1 ≤ℤ scale → sum <ℤ (pos (suc (floor_of sum scale)) *ℤ scale)
floor_is sum (pos zero) above = absurd (omega (arith, ints))
floor_is sum (pos (suc n)) above =
    let q = quotient_and_rest sum (suc n) (omega arith) in
    let r = rest_range sum (suc n) (omega arith) in
    floor_step sum (int_div_euclid sum (pos (suc n))) (int_rem_euclid sum (pos (suc n))) (suc n) q r.1
floor_is sum (negsuc n) above = absurd (omega (arith, ints))

cancel_above : (g z : ℤ) → pos 1 ≤ℤ g → pos 1 ≤ℤ (g *ℤ z) → pos 1 ≤ℤ z
cancel_above (pos zero) z p e = absurd (omega (arith, ints))
cancel_above (pos (suc g)) (pos zero) p e = absurd (omega (arith, ints))
cancel_above (pos (suc g)) (pos (suc z)) p e = omega (arith, ints)
cancel_above (pos (suc g)) (negsuc z) p e = absurd (omega (arith, ints))
cancel_above (negsuc g) z p e = absurd (omega (arith, ints))

-- from the multipliers to each point
point_below : (scale worth_ sum w : ℤ) (v : ℕ) → pos 1 ≤ℤ scale → pos 1 ≤ℤ w → (scale *ℤ worth_) ≤ℤ (sum *ℤ w)
    → sum <ℤ (pos (suc v) *ℤ scale) → worth_ <ℤ (pos (suc v) *ℤ w)
point_below scale worth_ sum w v above whole most less =
    let up = pos (suc v) in
    let one : ((sum +ℤ pos 1) *ℤ w) ≤ℤ ((up *ℤ scale) *ℤ w) = times_rising (sum +ℤ pos 1) (up *ℤ scale) w (omega (arith, ints, less)) (omega (arith, ints, whole)) in
    let two = sum_times sum (pos 1) w in
    let three : (up *ℤ scale) *ℤ w ≡ scale *ℤ (up *ℤ w) = times_times up scale w ∙ swap_first up scale w in
    let four = times_difference scale (up *ℤ w) worth_ in
    let five : pos 1 ≤ℤ (scale *ℤ ((up *ℤ w) -ℤ worth_)) = omega (arith, ints, one, two, three, four, most, whole) in
    let six : pos 1 ≤ℤ ((up *ℤ w) -ℤ worth_) = cancel_above scale ((up *ℤ w) -ℤ worth_) above five in
    omega (arith, ints, six)

-- the verdict is that of the right sides
parts_of : (a b : Option Verdict) (last : Verdict) (v : ℕ) → verdict_or (or_else a b) last ≡ Holds v
    → ((w : Verdict) → a ≡ Some w → w ≡ Holds v → ⊥) → ((w : Verdict) → b ≡ Some w → w ≡ Holds v → ⊥)
    → (a ≡ None) × (b ≡ None) × (last ≡ Holds v)
parts_of None None last v e na nb = (refl, refl, e)
parts_of None (Some w) last v e na nb = absurd (nb w refl e)
parts_of (Some w) b last v e na nb = absurd (na w refl e)

-- an answer among the first n is the answer at some place
some_before : {A : Type 0} (n : ℕ) (f : ℕ → Option A) (P : A → Type 0) (v : A) → ((k : ℕ) (w : A) → f k ≡ Some w → P w)
    → first n f ≡ Some v → P v
some_before zero f P v each_one e = absurd cc
some_before (suc n) f P v each_one e = some_step (first n f) (f n) P v (λ w q. some_before n f P w each_one q) (each_one n) e

sign_never : (p : Program) (y : List ℤ) (v k : ℕ) (w : Verdict) → sign_at p y k ≡ Some w → w ≡ Holds v → ⊥
sign_never p y v k w e h = by_test ((row_at p.rows k).equation || int_le (pos 0) (entry y k))
    (λ (t : ((row_at p.rows k).equation || int_le (pos 0) (entry y k)) ≡ true). let z : sign_at p y k ≡ None = rw t refl in absurd cc)
    (λ (t : ((row_at p.rows k).equation || int_le (pos 0) (entry y k)) ≡ false). let z : sign_at p y k ≡ Some (Negative k) = rw t refl in absurd cc)

test_never : (rows e : ℕ) (need sum : ℤ) (v : ℕ) (w : Verdict) → column_test rows e need sum ≡ Some w → w ≡ Holds v → ⊥
test_never rows e need sum v w q h = by_test (fits need)
    (λ (f : fits need ≡ true). by_test (int_le need sum)
    (λ (t : int_le need sum ≡ true). let z : column_test rows e need sum ≡ None = rw (f, t) refl in absurd cc)
    (λ (t : int_le need sum ≡ false). let z : column_test rows e need sum ≡ Some (Column e) = rw (f, t) refl in absurd cc))
    (λ (f : fits need ≡ false). let z : column_test rows e need sum ≡ Some (Wide rows) = rw f refl in absurd cc)

unless_never : (o : Option ℕ) (t : Option Verdict) (v : ℕ) (w : Verdict) → unless_wide o (λ k. Some (Wide k)) t ≡ Some w
    → ((w : Verdict) → t ≡ Some w → w ≡ Holds v → ⊥) → w ≡ Holds v → ⊥
unless_never None t v w e later h = later w e h
unless_never (Some k) t v w e later h = absurd cc

-- a verdict that holds is of a dual point
pub holds_dual : (p : Program) (scale : ℤ) (y : List ℤ) (bound v : ℕ) → pos 0 <ℤ scale
    → verdict p scale y bound ≡ Holds v
    → IsDual p scale y × (v ≡ floor_of (dual_sum p y) scale) × (v ≤ bound)
unfolding verdict
holds_dual p scale y bound v positive e =
    let above : pos 1 ≤ℤ scale = omega (arith, ints, positive) in
    let parts = parts_of (first (length p.rows) (sign_at p y)) (first (length p.costs) (column_at p scale y)) (right_verdict p scale y bound) v e
    (λ w q h. some_before (length p.rows) (sign_at p y) (λ (w : Verdict). w ≡ Holds v → ⊥) w (sign_never p y v) q h)
    (λ w q h. some_before (length p.costs) (column_at p scale y) (λ (w : Verdict). w ≡ Holds v → ⊥) w
    (λ e' w' q'. unless_never (first_wide (length p.rows) (column_part p y e')) (column_test (length p.rows) e' (scale *ℤ pos (cost_at p.costs e')) (column_sum p y e')) v w' q'
    (test_never (length p.rows) e' (scale *ℤ pos (cost_at p.costs e')) (column_sum p y e') v)) q h) in
    let b = bound_is bound (floor_of (dual_sum p y) scale) v (unless_holds (first_wide (length p.rows) (right_part p y)) (bound_test bound (floor_of (dual_sum p y) scale)) v parts.2) in (
      record {
        above = above;
        signs = λ k below eq. sign_is p y k (none_before (length p.rows) k (sign_at p y) parts.0 below) eq;
        columns = λ e' below. column_is (length p.rows) e' (scale *ℤ pos (cost_at p.costs e')) (column_sum p y e')
            (unless_none (first_wide (length p.rows) (column_part p y e')) (column_test (length p.rows) e' (scale *ℤ pos (cost_at p.costs e')) (column_sum p y e'))
            (none_before (length p.costs) e' (column_at p scale y) parts.1 below));
      },
      b.0,
      omega (arith, b.0, b.1),
    )

bounds_at : (p : Program) (scale : ℤ) (y : List ℤ) (bound : ℕ) (w : Verdict) → IsProgram p → pos 1 ≤ℤ scale
    → verdict p scale y bound ≡ w → OnHolds w (λ v. BoundsAll p v bound)
bounds_at p scale y bound (Holds v) is above e =
    let d = holds_dual p scale y bound v (omega (arith, ints, above)) e in
    let points : (x : ℕ → ℤ) (w : ℤ) → pos 1 ≤ℤ w → MeetsAll p x w → worth p x <ℤ (pos (suc v) *ℤ w) =
    λ x w whole meets. rw d.1 (point_below scale (worth p x) (dual_sum p y) w (floor_of (dual_sum p y) scale) above whole (weak_duality p scale y x w is d.0 meets) (floor_is (dual_sum p y) scale above)) in
    record {
      points = points;
      fractions = λ point is' feasible. points (part_of point) (whole_of point) (whole_above point is'.fractions) (point_meets_all p point is' feasible);
      least = d.2;
    }
bounds_at p scale y bound (Negative k) is above e = tt
bounds_at p scale y bound (Wide k) is above e = tt
bounds_at p scale y bound (Column k) is above e = tt
bounds_at p scale y bound (Bound k) is above e = tt

-- and bounds each point
pub holds_bounds : (p : Program) (scale : ℤ) (y : List ℤ) (bound v : ℕ) → IsProgram p → pos 0 <ℤ scale
    → verdict p scale y bound ≡ Holds v → BoundsAll p v bound
holds_bounds p scale y bound v is above e = bounds_at p scale y bound (Holds v) is (omega (arith, ints, above)) e

-- what the verdict promises
pub verdict_bounds : (p : Program) (scale : ℤ) (y : List ℤ) (bound : ℕ) (w : Verdict) → IsProgram p → pos 0 <ℤ scale
    → w ≡ verdict p scale y bound → OnHolds w (λ v. BoundsAll p v bound)
verdict_bounds p scale y bound w is above e = bounds_at p scale y bound w is (omega (arith, ints, above)) (sym e)

-- how the parts make the verdict
pub verdict_first : (p : Program) (scale : ℤ) (y : List ℤ) (bound : ℕ) (v : Verdict)
    → first (length p.rows) (sign_at p y) ≡ Some v → v ≡ verdict p scale y bound
unfolding verdict
verdict_first p scale y bound v e = rw e refl

pub verdict_second : (p : Program) (scale : ℤ) (y : List ℤ) (bound : ℕ) (v : Verdict)
    → first (length p.rows) (sign_at p y) ≡ None → first (length p.costs) (column_at p scale y) ≡ Some v
    → v ≡ verdict p scale y bound
unfolding verdict
verdict_second p scale y bound v e f = rw (e, f) refl

pub verdict_last : (p : Program) (scale : ℤ) (y : List ℤ) (bound : ℕ) → first (length p.rows) (sign_at p y) ≡ None
    → first (length p.costs) (column_at p scale y) ≡ None → right_verdict p scale y bound ≡ verdict p scale y bound
unfolding verdict
verdict_last p scale y bound e f = rw (e, f) refl
