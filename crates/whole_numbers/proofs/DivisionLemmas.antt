-- On the way to the laws of division.
--   quotient_floor        the quotient is rounded down
use Rattle.std.proofs.Common.{ℤ, pos, negsuc, ◌<◌, arith}
use Rattle.std.specs.Prelude.{◌<ℤ◌}
use Rattle.std.specs.Int.{int_div_euclid}
use Rattle.std.proofs.lemmas.Int.{ints}
use Rattle.whole_numbers.specs.Numbers.{IsFloor}
use Rattle.whole_numbers.specs.MultipleLaws.{sum_times}
use Rattle.whole_numbers.specs.DivisionLaws.{quotient_and_rest, rest_range}

-- Quotients and rests by a number above 0.

-- the quotient is rounded down
pub quotient_floor : (z d : ℤ) → pos 0 <ℤ d → IsFloor (int_div_euclid z d) z d
quotient_floor z (pos d) positive =
    let above : 0 < d = omega (arith, ints) in
    let e = quotient_and_rest z d above in
    let r = rest_range z d above in
    record { least = omega (arith, ints, e, r.0); most = omega (arith, ints, e, r.1, sum_times (int_div_euclid z (pos d)) (pos 1) (pos d)) }
quotient_floor z (negsuc d) positive = absurd (omega (arith, ints))
