-- Parts of pieces fit 128 bits.
--   piece_small       a piece within 2 to the 64 is small
--   between_piece, end_piece   parts of such a piece are such pieces
--   steps_fit         the common divisor of the steps of two fits
use Rattle.std.proofs.Common.{ℤ, pos, neg_ℤ, ◌^◌, arith, Option, Some, None}
use Rattle.std.specs.Int.{w128}
use Rattle.std.specs.Int.RustNames.{FitsSigned}
use Rattle.std.proofs.lemmas.Int.{ints}
use Rattle.whole_numbers.specs.Numbers.{gcd}
use Rattle.whole_numbers.specs.GcdLaws.{gcd_fits}
use Rattle.progressions.specs.declared.ends.Progression.{Progression}
use Rattle.progressions.specs.Progressions.{Has, HasSome, IfProgression}
use Rattle.progressions.specs.Parts.{IsPiece, IfPiece, between}
use Rattle.progressions.specs.Limits.{IsSmall}
use Rattle.progressions.specs.ProgressionLaws.{step_width, has_lo, has_hi}
use Rattle.strided_rules.specs.Members.{without_end}
use Rattle.strided_rules.specs.MemberLaws.{IsPart, between_part, end_part}

abbrev pub IsFar : Progression → Type 0
IsFar p = IsPiece (neg_ℤ (pos (2 ^ 64))) (pos (2 ^ 64)) p

pub piece_small : (p : Progression) → IsPiece (neg_ℤ (pos (2 ^ 64))) (pos (2 ^ 64)) p → IsSmall p
piece_small p i = let s = step_width p i.progression in record {
  low = omega (arith, ints, i.low);
  high = omega (arith, ints, i.high);
  order = i.progression.order;
  rising = i.progression.rising;
  near = omega (arith, ints, s, i.low, i.high);
}

inside_piece : (least most : ℤ) (p : Progression) (o : Option Progression) → IsPiece least most p → IfProgression o
    → ((n : ℤ) → HasSome o n → Has p n) → IfPiece least most o
inside_piece least most p None piece is inside = tt
inside_piece least most p (Some q) piece is inside = record {
  progression = is;
  low = let h = inside q.lo (has_lo q is) in omega (arith, ints, h.least, piece.low);
  high = let h = inside q.hi (has_hi q is) in omega (arith, ints, h.most, piece.high);
}

part_piece : (part : Progression → Option Progression) (p : Progression) → IsPart part → IsFar p
    → IfPiece (neg_ℤ (pos (2 ^ 64))) (pos (2 ^ 64)) (part p)
part_piece part p is i = inside_piece (neg_ℤ (pos (2 ^ 64))) (pos (2 ^ 64)) p (part p) i (is.is p i.progression) (λ n. is.inside p n i.progression)

pub between_piece : (least greatest : ℤ) (p : Progression) → IsPiece (neg_ℤ (pos (2 ^ 64))) (pos (2 ^ 64)) p
    → IfPiece (neg_ℤ (pos (2 ^ 64))) (pos (2 ^ 64)) (between least greatest p)
between_piece least greatest p i = part_piece (between least greatest) p (between_part least greatest) i

pub end_piece : (n : ℤ) (p : Progression) → IsPiece (neg_ℤ (pos (2 ^ 64))) (pos (2 ^ 64)) p
    → IfPiece (neg_ℤ (pos (2 ^ 64))) (pos (2 ^ 64)) (without_end n p)
end_piece n p i = part_piece (without_end n) p (end_part n) i

pub steps_fit : (p q : Progression) → IsFar p → IsFar q → FitsSigned w128 (gcd p.step q.step)
steps_fit p q i j =
    let s = piece_small p i in
    let t = piece_small q j in
    gcd_fits p.step q.step (omega (arith, ints, s.rising, s.near)) (omega (arith, ints, t.rising, t.near))
