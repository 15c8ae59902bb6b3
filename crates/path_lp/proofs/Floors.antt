-- Quotients that are rounded down.
--   floor_most    the quotient of what is at most a multiple of the scale
--   floor_same    two fractions that are one have one quotient
--   rising_over   two fractions in order, over their wholes
use Rattle.std.proofs.Common.{◌≡◌, ℕ, zero, suc, ℤ, pos, negsuc, arith, sym, ap, ◌∙◌}
use Rattle.std.specs.Prelude.{◌+ℤ◌, ◌-ℤ◌, ◌*ℤ◌, ◌≤ℤ◌, unsigned_abs}
use Rattle.std.specs.Int.{int_div_euclid, int_rem_euclid, int_max}
use Rattle.std.proofs.lemmas.Int.{ints, clamps}
use Rattle.whole_numbers.specs.MultipleLaws.{times_times}
use Rattle.whole_numbers.specs.DivisionLaws.{quotient_and_rest, rest_range, quotient_is, quotient_rises}
use Rattle.ipet_rows.specs.Verdicts.{floor_of}
use Rattle.ipet_rows.specs.DualityLaws.{times_rising}
use Rattle.ipet_rows.specs.SumLaws.{times_sum, times_difference, swap_first}
use Rattle.simplex_rules.specs.MixingLaws.{cancel_above, cancel_at_least}

-- ---- a quotient and a number

cut_most : (q w : ℤ) → pos 0 ≤ℤ w → q ≤ℤ w → pos (unsigned_abs (int_max (pos 0) q)) ≤ℤ w
cut_most (pos q) w above most =
    let m : int_max (pos 0) (pos q) ≡ pos q = omega (arith, ints, clamps) in
    rw m (omega (arith, ints, most))
cut_most (negsuc q) w above most = omega (arith, ints, above)

-- the quotient of what is at most a multiple of the scale
pub floor_most : (w sum scale : ℤ) → pos 0 ≤ℤ w → pos 1 ≤ℤ scale → sum ≤ℤ (w *ℤ scale) → pos (floor_of sum scale) ≤ℤ w
floor_most w sum (pos zero) above one most = absurd (omega (arith, ints, one))
floor_most w sum (negsuc n) above one most = absurd (omega (arith, ints, one))
floor_most w sum (pos (suc n)) above one most =
    let rises = quotient_rises sum (w *ℤ pos (suc n)) (suc n) (omega arith) most in
    let whole : w *ℤ pos (suc n) ≡ (w *ℤ pos (suc n)) +ℤ pos 0 = omega (arith, ints) in
    let is = (quotient_is (w *ℤ pos (suc n)) w (pos 0) (suc n) (omega arith) whole (omega (arith, ints)) (omega (arith, ints))).0 in
    cut_most (int_div_euclid sum (pos (suc n))) w above (omega (arith, ints, rises, is))

-- ---- two fractions

not_below : (a b : ℤ) → pos 0 ≤ℤ a → pos 0 ≤ℤ b → pos 0 ≤ℤ (a *ℤ b)
not_below (pos a) (pos b) p q = omega (arith, ints)
not_below (negsuc a) b p q = absurd (omega (arith, ints))
not_below (pos a) (negsuc b) p q = absurd (omega (arith, ints))

above_one : (a b : ℤ) → pos 1 ≤ℤ a → pos 1 ≤ℤ b → pos 1 ≤ℤ (a *ℤ b)
above_one (pos (suc a)) (pos (suc b)) p q = omega (arith, ints)
above_one (pos zero) b p q = absurd (omega (arith, ints))
above_one (pos (suc a)) (pos zero) p q = absurd (omega (arith, ints))
above_one (pos (suc a)) (negsuc b) p q = absurd (omega (arith, ints))
above_one (negsuc a) b p q = absurd (omega (arith, ints))

-- what is left of the second fraction is to its whole as what is left of the first is to its scale
left_over : (sum scale worth whole q r : ℤ) → scale *ℤ worth ≡ sum *ℤ whole → sum ≡ (q *ℤ scale) +ℤ r
    → scale *ℤ (worth -ℤ (q *ℤ whole)) ≡ whole *ℤ r
left_over sum scale worth whole q r same is =
    let apart = times_difference scale worth (q *ℤ whole) in
    let turned : sum *ℤ whole ≡ whole *ℤ sum = omega (arith, ints) in
    let cut : whole *ℤ sum ≡ (whole *ℤ (q *ℤ scale)) +ℤ (whole *ℤ r) = ap (λ (z : ℤ). whole *ℤ z) is ∙ times_sum whole (q *ℤ scale) r in
    let one : whole *ℤ (q *ℤ scale) ≡ q *ℤ (whole *ℤ scale) = swap_first whole q scale in
    let two : scale *ℤ (q *ℤ whole) ≡ q *ℤ (scale *ℤ whole) = swap_first scale q whole in
    let three : q *ℤ (whole *ℤ scale) ≡ q *ℤ (scale *ℤ whole) = ap (λ (z : ℤ). q *ℤ z) (let u : whole *ℤ scale ≡ scale *ℤ whole = omega (arith, ints) in u) in
    omega (arith, ints, apart, same, turned, cut, one, two, three)

same_quotient : (sum worth : ℤ) (n m : ℕ) → pos (suc n) *ℤ worth ≡ sum *ℤ pos (suc m)
    → int_div_euclid worth (pos (suc m)) ≡ int_div_euclid sum (pos (suc n))
same_quotient sum worth n m same =
    let q = int_div_euclid sum (pos (suc n)) in
    let r = int_rem_euclid sum (pos (suc n)) in
    let range = rest_range sum (suc n) (omega arith) in
    let t = worth -ℤ (q *ℤ pos (suc m)) in
    let left : pos (suc n) *ℤ (worth -ℤ (q *ℤ pos (suc m))) ≡ pos (suc m) *ℤ r =
    left_over sum (pos (suc n)) worth (pos (suc m)) q r same (quotient_and_rest sum (suc n) (omega arith)) in
    let low : pos 0 ≤ℤ (worth -ℤ (q *ℤ pos (suc m))) =
    cancel_at_least (pos (suc n)) t (omega (arith, ints)) (let up = not_below (pos (suc m)) r (omega (arith, ints)) range.0 in omega (arith, ints, left, up)) in
    let rest : pos 1 ≤ℤ (pos (suc n) -ℤ r) = (let below = range.1 in omega (arith, ints, below)) in
    let up : pos 1 ≤ℤ (pos (suc m) *ℤ (pos (suc n) -ℤ r)) = above_one (pos (suc m)) (pos (suc n) -ℤ r) (omega (arith, ints)) rest in
    let first = times_difference (pos (suc m)) (pos (suc n)) r in
    let second = times_difference (pos (suc n)) (pos (suc m)) t in
    let swapped : pos (suc m) *ℤ pos (suc n) ≡ pos (suc n) *ℤ pos (suc m) = omega (arith, ints) in
    let gap : pos 1 ≤ℤ (pos (suc n) *ℤ (pos (suc m) -ℤ t)) = omega (arith, ints, up, first, second, swapped, left) in
    let high : pos 1 ≤ℤ (pos (suc m) -ℤ t) = cancel_above (pos (suc n)) (pos (suc m) -ℤ t) (omega (arith, ints)) gap in
    (quotient_is worth q t (suc m) (omega arith) (omega (arith, ints)) low (omega (arith, ints, high))).0

-- two fractions that are one have one quotient
pub floor_same : (sum scale worth whole : ℤ) → pos 1 ≤ℤ scale → pos 1 ≤ℤ whole → scale *ℤ worth ≡ sum *ℤ whole
    → floor_of sum scale ≡ floor_of worth whole
floor_same sum (pos (suc n)) worth (pos (suc m)) one two same = ap (λ (q : ℤ). unsigned_abs (int_max (pos 0) q)) (sym (same_quotient sum worth n m same))
floor_same sum (pos zero) worth whole one two same = absurd (omega (arith, ints, one))
floor_same sum (negsuc n) worth whole one two same = absurd (omega (arith, ints, one))
floor_same sum (pos (suc n)) worth (pos zero) one two same = absurd (omega (arith, ints, two))
floor_same sum (pos (suc n)) worth (negsuc m) one two same = absurd (omega (arith, ints, two))

-- where the second fraction is the sum over the scale, what is at most that sum is at most it
pub rising_over : (sum scale worth whole other w : ℤ) → pos 1 ≤ℤ scale → pos 1 ≤ℤ whole → scale *ℤ worth ≡ sum *ℤ whole
    → (scale *ℤ other) ≤ℤ (sum *ℤ w) → (other *ℤ whole) ≤ℤ (worth *ℤ w)
rising_over sum scale worth whole other w one two same most =
    let scaled : ((scale *ℤ other) *ℤ whole) ≤ℤ ((sum *ℤ w) *ℤ whole) = times_rising (scale *ℤ other) (sum *ℤ w) whole most (omega (arith, ints, two)) in
    let left : (scale *ℤ other) *ℤ whole ≡ scale *ℤ (other *ℤ whole) = times_times scale other whole in
    let turned : (sum *ℤ w) *ℤ whole ≡ w *ℤ (sum *ℤ whole) = times_times sum w whole ∙ swap_first sum w whole in
    let moved : w *ℤ (sum *ℤ whole) ≡ w *ℤ (scale *ℤ worth) = ap (λ (z : ℤ). w *ℤ z) (sym same) in
    let back : w *ℤ (scale *ℤ worth) ≡ scale *ℤ (w *ℤ worth) = swap_first w scale worth in
    let flat : scale *ℤ (w *ℤ worth) ≡ scale *ℤ (worth *ℤ w) = ap (λ (z : ℤ). scale *ℤ z) (let u : w *ℤ worth ≡ worth *ℤ w = omega (arith, ints) in u) in
    let apart = times_difference scale (worth *ℤ w) (other *ℤ whole) in
    let gap : pos 0 ≤ℤ (scale *ℤ ((worth *ℤ w) -ℤ (other *ℤ whole))) = omega (arith, ints, scaled, left, turned, moved, back, flat, apart) in
    let not_more = cancel_at_least scale ((worth *ℤ w) -ℤ (other *ℤ whole)) one gap in
    omega (arith, ints, not_more)
