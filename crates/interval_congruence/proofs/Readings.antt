-- The word of the low end, read signed.
--   signed_low        it is the low end
use Rattle.std.proofs.Common.{◌≡◌, pos, arith}
use Rattle.std.specs.Prelude.{◌-ℤ◌}
use Rattle.std.proofs.lemmas.Int.{ints}
use Rattle.alf_ops.specs.TwosComplement.{signed}
use Rattle.whole_numbers.specs.MultipleLaws.{divides_same, divides_difference}
use Rattle.progressions.specs.Progressions.{full}
use Rattle.progressions.specs.ProgressionLaws.{halves}
use Rattle.flat_domain.specs.OperatorSizeLaws.{word_below}
use Rattle.strided_rules.specs.Strides.{Stride, IsStride}
use Rattle.strided_rules.specs.Members.{word_of}
use Rattle.strided_rules.specs.PlacedLaws.{from_word, signed_range, by_distance}
use Rattle.strided_rules.specs.MemberLaws.{signed_apart}

pub signed_low : (b : Stride) → IsStride b → signed b.size (word_of b) ≡ b.numbers.lo
signed_low b s =
    let w = b.size in
    let t = word_of b in
    let lo = b.numbers.lo in
    let below = word_below w lo in
    let range = signed_range w t s.size.least below in
    let two = halves w s.size.least in
    by_distance w (signed w t) lo
    (divides_same (full w) ((signed w t -ℤ pos t) -ℤ (lo -ℤ pos t)) (signed w t -ℤ lo) (omega (arith, ints))
    (divides_difference (full w) (signed w t -ℤ pos t) (lo -ℤ pos t) (signed_apart w t below) (from_word w lo)))
    (omega (arith, ints, two, range.1, s.placed.low))
    (omega (arith, ints, two, range.0, s.placed.high))
