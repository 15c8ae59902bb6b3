-- Numbers that need no turn to be words, which are their own one piece.
--   unsigned_turn, signed_turn   their pieces
--   each_alone                   the join over one piece
--   word_low                     a number from 0 on is its own word
use Rattle.std.proofs.Common.{◌≡◌, ◌∙◌, ap, sym, refl, true, false, ℕ, ℤ, pos, neg_ℤ, ◌≤◌, ◌<◌, ◌^◌, arith, Some, None}
use Rattle.std.specs.Prelude.{◌-ℤ◌, ◌≤ℤ◌, ◌<ℤ◌, int_le, int_lt}
use Rattle.std.proofs.lemmas.Int.{ints}
use Rattle.progressions.specs.declared.ends.Progression.{Progression}
use Rattle.progressions.specs.declared.ends.Pieces.{Pieces}
use Rattle.progressions.specs.Progressions.{full, half}
use Rattle.progressions.specs.ProgressionLaws.{halves}
use Rattle.progressions.specs.Parts.{from_least, up_to, unsigned_pieces, signed_pieces}
use Rattle.strided_rules.specs.Strides.{Stride, norm}
use Rattle.alf_ops.specs.TwosComplement.{word}
use Rattle.strided_rules.specs.PlacedLaws.{word_itself}
use Rattle.strided_rules.specs.Joins.{each, settled}

-- the pieces that are one, at the place of each
abbrev pub first_alone : Progression → Pieces
first_alone p = record { first = Some p; second = None; third = None }

abbrev pub second_alone : Progression → Pieces
second_alone p = record { first = None; second = Some p; third = None }

-- from 0 to below 2 to the size
pub unsigned_turn : (w : ℕ) (p : Progression) → p.lo ≤ℤ p.hi → pos 0 ≤ℤ p.lo → p.hi <ℤ full w
    → unsigned_pieces w p ≡ second_alone p
unfolding from_least up_to
unsigned_turn w p order low high =
    let a : int_le p.hi (neg_ℤ (pos 1)) ≡ false = sym (omega (arith, ints, order, low)) in
    let b : int_lt (neg_ℤ (pos 1)) p.lo ≡ true = sym (omega (arith, ints, low)) in
    let c : int_le (pos 0) p.lo ≡ true = sym (omega (arith, ints, low)) in
    let d : int_le p.hi (full w -ℤ pos 1) ≡ true = sym (omega (arith, ints, high)) in
    let e : int_le (full w) p.lo ≡ false = sym (omega (arith, ints, order, high)) in
    let f : int_lt p.hi (full w) ≡ true = sym (omega (arith, ints, high)) in
    rw (a, b, c, d, e, f) refl

-- up to below half of it
pub signed_turn : (w : ℕ) (p : Progression) → p.lo ≤ℤ p.hi → p.hi <ℤ half w → signed_pieces w p ≡ first_alone p
unfolding from_least up_to
signed_turn w p order high =
    let a : int_le p.hi (half w -ℤ pos 1) ≡ true = sym (omega (arith, ints, high)) in
    let b : int_le (half w) p.lo ≡ false = sym (omega (arith, ints, order, high)) in
    let c : int_lt p.hi (half w) ≡ true = sym (omega (arith, ints, high)) in
    rw (a, b, c) refl

-- the value of numbers in normal form, and the join over one piece
abbrev pub normed_value : ℕ → Progression → Stride
normed_value w p = record { size = w; numbers = norm w p }

pub each_alone : (w : ℕ) (rule : Progression → Progression) (p : Progression)
    → settled w (each w rule (second_alone p)) ≡ normed_value w (rule p)
unfolding each
each_alone w rule p = refl

-- a number from 0 on of the signed range is its own word
pub word_low : (w t : ℕ) (z : ℤ) → 1 ≤ w → pos t ≡ z → z <ℤ half w → (t ≡ word w z) × (t < 2 ^ w)
word_low w t z least same high =
    let below : t < 2 ^ w = omega (arith, ints, same, high, halves w least) in
    (sym (ap (word w) (sym same) ∙ word_itself w t below), below)
