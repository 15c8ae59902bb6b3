-- On the way to the laws of progression.
--   hull_least   a hull has the numbers of both, and lies in each progression that has
use Rattle.std.proofs.Common.{ℤ, pos, arith, sym}
use Rattle.std.specs.Prelude.{◌+ℤ◌, ◌-ℤ◌, int_lt}
use Rattle.std.specs.Int.{int_min, int_max}
use Rattle.std.proofs.lemmas.Int.{ints, clamps}
use Rattle.whole_numbers.specs.Numbers.{Divides, gcd}
use Rattle.whole_numbers.specs.MultipleLaws.{by_test, divides_same, divides_sum, divides_difference, divides_through, divides_zero}
use Rattle.whole_numbers.specs.GcdLaws.{gcd_is_greatest}
use Rattle.progressions.specs.declared.ends.Progression.{Progression}
use Rattle.progressions.specs.Progressions.{Has, IsProgression, hull}
use Rattle.progressions.specs.ProgressionLaws.{from_to_aligned, has_lo, has_hi, step_positive, step_width, hull_step}

-- A progression that has the numbers of both has those of the hull.

-- the step of a progression divides that of one that lies in it
inner_step : (p r : Progression) → IsProgression p → ((n : ℤ) → Has p n → Has r n) → Divides r.step p.step
inner_step p r is inside = by_test (int_lt p.lo p.hi)
    (λ more. let positive = step_positive p is (omega (arith, ints, more)) in
    let width = step_width p is in
    let next : Has p (p.lo +ℤ p.step) = record {
      least = omega (arith, ints, positive);
      most = omega (arith, ints, width);
      aligned = record { times = pos 1; is = omega (arith, ints) };
    } in
    divides_same r.step (((p.lo +ℤ p.step) -ℤ r.lo) -ℤ (p.lo -ℤ r.lo)) p.step (omega (arith, ints))
    (divides_difference r.step ((p.lo +ℤ p.step) -ℤ r.lo) (p.lo -ℤ r.lo) (inside (p.lo +ℤ p.step) next).aligned (inside p.lo (has_lo p is)).aligned))
    (λ one. divides_same r.step (pos 0) p.step (let e = is.lone (omega (arith, ints, one, is.order)) in sym e) (divides_zero r.step))

pub hull_least : (p q r : Progression) (n : ℤ) → IsProgression p → IsProgression q
    → ((m : ℤ) → Has p m → Has r m) → ((m : ℤ) → Has q m → Has r m) → Has (hull p q) n → Has r n
unfolding hull
hull_least p q r n is also inside within h =
    let a = inside p.lo (has_lo p is) in
    let b = within q.lo (has_lo q also) in
    let c = inside p.hi (has_hi p is) in
    let d = within q.hi (has_hi q also) in
    let apart : Divides r.step (p.lo -ℤ q.lo) = divides_same r.step ((p.lo -ℤ r.lo) -ℤ (q.lo -ℤ r.lo)) (p.lo -ℤ q.lo) (omega (arith, ints)) (divides_difference r.step (p.lo -ℤ r.lo) (q.lo -ℤ r.lo) a.aligned b.aligned) in
    let step = (gcd_is_greatest (gcd p.step q.step) (p.lo -ℤ q.lo)).greatest r.step ((gcd_is_greatest p.step q.step).greatest r.step (inner_step p r is inside) (inner_step q r also within)) apart in
    let low : Divides r.step (int_min p.lo q.lo -ℤ r.lo) = by_test (int_lt q.lo p.lo) (λ less. rw less b.aligned) (λ more. rw more a.aligned) in
    let along = divides_through r.step (hull_step p q) (n -ℤ int_min p.lo q.lo) step (from_to_aligned (int_min p.lo q.lo) (int_max p.hi q.hi) (hull_step p q) n h) in
    record {
      least = omega (arith, ints, clamps, h.least, a.least, b.least);
      most = omega (arith, ints, clamps, h.most, c.most, d.most);
      aligned = divides_same r.step ((n -ℤ int_min p.lo q.lo) +ℤ (int_min p.lo q.lo -ℤ r.lo)) (n -ℤ r.lo) (omega (arith, ints, clamps)) (divides_sum r.step (n -ℤ int_min p.lo q.lo) (int_min p.lo q.lo -ℤ r.lo) along low);
    }
