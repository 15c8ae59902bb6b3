-- Bounds under which the pieces of values fit 128 bits.
--   unsigned_far, signed_far   the pieces of a value lie within 2 to the 64
--   unsigned_greatest_far, ..   and the greatest and the least of them lie there
--   lesser_places     the words up to the lesser of two greatest ones can be placed
use Rattle.std.proofs.Common.{ℕ, ℤ, pos, neg_ℤ, ◌≤◌, ◌^◌, arith, Option, Some, None}
use Rattle.std.specs.Prelude.{◌-ℤ◌, ◌≤ℤ◌}
use Rattle.std.specs.Int.{int_min}
use Rattle.std.proofs.lemmas.Int.{ints, clamps}
use Rattle.progressions.specs.declared.ends.Progression.{Progression}
use Rattle.progressions.specs.declared.ends.Pieces.{Pieces}
use Rattle.progressions.specs.Progressions.{full, half}
use Rattle.progressions.specs.Parts.{IsPiece, IfPiece, ArePieces}
use Rattle.progressions.specs.ProgressionLaws.{halves, full_most}
use Rattle.strided_rules.specs.Strides.{Stride, IsStride}
use Rattle.strided_rules.specs.Members.{unsigned_of, signed_of, greater_end, lesser_end, greatest_of, least_of, unsigned_greatest, unsigned_least, signed_greatest, signed_least}
use Rattle.strided_rules.specs.MemberLaws.{of_unsigned, of_signed}
use Rattle.strided_rules.specs.Rules.{span}
use Rattle.strided_rules.specs.RuleLaws.{span_is}
use Rattle.strided_operators.specs.Limits.{CanPlace}

-- a piece within 2 to the 64
abbrev pub IsFar : Progression → Type 0
IsFar p = IsPiece (neg_ℤ (pos (2 ^ 64))) (pos (2 ^ 64)) p

wider : (least most : ℤ) (o : Option Progression) → neg_ℤ (pos (2 ^ 64)) ≤ℤ least → most ≤ℤ pos (2 ^ 64)
    → IfPiece least most o → IfPiece (neg_ℤ (pos (2 ^ 64))) (pos (2 ^ 64)) o
wider least most None low high i = tt
wider least most (Some p) low high i = record { progression = i.progression; low = omega (arith, ints, low, i.low); high = omega (arith, ints, high, i.high) }

pub pieces_far : (least most : ℤ) (pieces : Pieces) → neg_ℤ (pos (2 ^ 64)) ≤ℤ least → most ≤ℤ pos (2 ^ 64)
    → ArePieces least most pieces → ArePieces (neg_ℤ (pos (2 ^ 64))) (pos (2 ^ 64)) pieces
pieces_far least most pieces low high are = record {
  first = wider least most pieces.first low high are.first;
  second = wider least most pieces.second low high are.second;
  third = wider least most pieces.third low high are.third;
}

pub unsigned_far : (w : ℕ) (pieces : Pieces) → w ≤ 64 → ArePieces (pos 0) (full w -ℤ pos 1) pieces
    → ArePieces (neg_ℤ (pos (2 ^ 64))) (pos (2 ^ 64)) pieces
unsigned_far w pieces most are = pieces_far (pos 0) (full w -ℤ pos 1) pieces (omega (arith, ints)) (omega (arith, ints, full_most w most)) are

pub signed_far : (w : ℕ) (pieces : Pieces) → 1 ≤ w → w ≤ 64 → ArePieces (neg_ℤ (half w)) (half w -ℤ pos 1) pieces
    → ArePieces (neg_ℤ (pos (2 ^ 64))) (pos (2 ^ 64)) pieces
signed_far w pieces least most are = pieces_far (neg_ℤ (half w)) (half w -ℤ pos 1) pieces (omega (arith, ints, full_most w most, halves w least)) (omega (arith, ints, full_most w most, halves w least)) are

-- an end of pieces that lie from low to high does
end_within : (low high so_far : ℤ) (o : Option Progression) → low ≤ℤ so_far → so_far ≤ℤ high → IfPiece low high o
    → ((low ≤ℤ greater_end so_far o) × (greater_end so_far o ≤ℤ high)) × ((low ≤ℤ lesser_end so_far o) × (lesser_end so_far o ≤ℤ high))
end_within low high so_far None p q i = ((p, q), (p, q))
end_within low high so_far (Some r) p q i = (
  (omega (arith, ints, clamps, p, i.low, i.progression.order), omega (arith, ints, clamps, q, i.high)),
  (omega (arith, ints, clamps, p, i.low), omega (arith, ints, clamps, q, i.high, i.progression.order)),
)

greatest_within : (low high so_far : ℤ) (pieces : Pieces) → low ≤ℤ so_far → so_far ≤ℤ high → ArePieces low high pieces
    → (low ≤ℤ greatest_of so_far pieces) × (greatest_of so_far pieces ≤ℤ high)
greatest_within low high so_far pieces p q are =
    let a = (end_within low high so_far pieces.first p q are.first).0 in
    let b = (end_within low high (greater_end so_far pieces.first) pieces.second a.0 a.1 are.second).0 in
    (end_within low high (greater_end (greater_end so_far pieces.first) pieces.second) pieces.third b.0 b.1 are.third).0

least_within : (low high so_far : ℤ) (pieces : Pieces) → low ≤ℤ so_far → so_far ≤ℤ high → ArePieces low high pieces
    → (low ≤ℤ least_of so_far pieces) × (least_of so_far pieces ≤ℤ high)
least_within low high so_far pieces p q are =
    let a = (end_within low high so_far pieces.first p q are.first).1 in
    let b = (end_within low high (lesser_end so_far pieces.first) pieces.second a.0 a.1 are.second).1 in
    (end_within low high (lesser_end (lesser_end so_far pieces.first) pieces.second) pieces.third b.0 b.1 are.third).1

abbrev pub Far : ℤ → Type 0
Far z = (neg_ℤ (pos (2 ^ 64)) ≤ℤ z) × (z ≤ℤ pos (2 ^ 64))

pub unsigned_greatest_far : (y : Stride) → IsStride y → Far (unsigned_greatest y)
unsigned_greatest_far y s = greatest_within (neg_ℤ (pos (2 ^ 64))) (pos (2 ^ 64)) (pos 0) (unsigned_of y) (omega (arith, ints)) (omega (arith, ints)) (unsigned_far y.size (unsigned_of y) s.size.most (of_unsigned y s))

pub unsigned_least_far : (y : Stride) → IsStride y → Far (unsigned_least y)
unsigned_least_far y s = least_within (neg_ℤ (pos (2 ^ 64))) (pos (2 ^ 64)) (full y.size -ℤ pos 1) (unsigned_of y) (omega (arith, ints)) (omega (arith, ints, full_most y.size s.size.most)) (unsigned_far y.size (unsigned_of y) s.size.most (of_unsigned y s))

pub signed_greatest_far : (y : Stride) → IsStride y → Far (signed_greatest y)
signed_greatest_far y s = greatest_within (neg_ℤ (pos (2 ^ 64))) (pos (2 ^ 64)) (neg_ℤ (half y.size)) (signed_of y) (omega (arith, ints, full_most y.size s.size.most, halves y.size s.size.least)) (omega (arith, ints)) (signed_far y.size (signed_of y) s.size.least s.size.most (of_signed y s))

pub signed_least_far : (y : Stride) → IsStride y → Far (signed_least y)
signed_least_far y s = least_within (neg_ℤ (pos (2 ^ 64))) (pos (2 ^ 64)) (half y.size -ℤ pos 1) (signed_of y) (omega (arith, ints)) (omega (arith, ints, full_most y.size s.size.most, halves y.size s.size.least)) (signed_far y.size (signed_of y) s.size.least s.size.most (of_signed y s))

-- the words from 0 to the lesser of the greatest ones can be placed
end_rises : (so_far : ℤ) (o : Option Progression) → so_far ≤ℤ greater_end so_far o
end_rises so_far None = omega (arith, ints)
end_rises so_far (Some p) = omega (arith, ints, clamps)

greatest_rises : (pieces : Pieces) → pos 0 ≤ℤ greatest_of (pos 0) pieces
greatest_rises pieces =
    let a = end_rises (pos 0) pieces.first in
    let b = end_rises (greater_end (pos 0) pieces.first) pieces.second in
    let c = end_rises (greater_end (greater_end (pos 0) pieces.first) pieces.second) pieces.third in
    omega (arith, ints, a, b, c)

pub lesser_places : (a b : Stride) → unsigned_greatest a ≤ℤ pos (2 ^ 64)
    → CanPlace (span (pos 0) (int_min (unsigned_greatest a) (unsigned_greatest b)))
lesser_places a b small =
    let first = greatest_rises (unsigned_of a) in
    let second = greatest_rises (unsigned_of b) in
    let least : pos 0 ≤ℤ int_min (unsigned_greatest a) (unsigned_greatest b) = omega (arith, ints, clamps, first, second) in
    record { progression = span_is (pos 0) (int_min (unsigned_greatest a) (unsigned_greatest b)) least; low = omega (arith, ints); high = omega (arith, ints, clamps, small) }
