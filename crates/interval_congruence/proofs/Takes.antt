-- Rules take the pieces of values.
--   TakesBoth takes a b   each choice of a piece of each is taken
--   takes_each, takes_pair          a rule that takes each piece of a range takes all pieces of that range
--   unsigned_takes, signed_takes    so it takes the pieces of two values
--   unsigned_halves, signed_halves  those of sizes that fit 64 bits together lie within 2 to the 63
--   unsigned_words                  unsigned pieces lie from 0 to 2 to the 64
--   unsigned_fars, signed_fars      all pieces lie within 2 to the 64
use Rattle.std.proofs.Common.{ℕ, ℤ, pos, neg_ℤ, ◌+◌, ◌≤◌, ◌^◌, arith, Option, Some, None}
use Rattle.std.specs.Prelude.{◌-ℤ◌, ◌≤ℤ◌}
use Rattle.std.proofs.lemmas.Int.{ints}
use Rattle.std.proofs.Math.Pow.{pow_mono}
use Rattle.progressions.specs.declared.ends.Progression.{Progression}
use Rattle.progressions.specs.declared.ends.Pieces.{Pieces}
use Rattle.progressions.specs.Progressions.{full, half}
use Rattle.progressions.specs.ProgressionLaws.{halves, full_most}
use Rattle.progressions.specs.Parts.{IsPiece, IfPiece, ArePieces}
use Rattle.strided_rules.specs.Strides.{Stride, IsStride}
use Rattle.strided_rules.specs.Members.{unsigned_of, signed_of}
use Rattle.strided_rules.specs.MemberLaws.{of_unsigned, of_signed}
use Rattle.strided_operators.specs.Limits.{IsHalf, IfTakes, TakesEach}
use Rattle.interval_congruence.proofs.Bounds.{IsFar, unsigned_far, signed_far}

-- each choice of a piece of each is taken
abbrev pub TakesBoth : (Progression → Progression → Type 0) → Pieces → Pieces → Type 0
TakesBoth takes firsts seconds = TakesEach (λ p. TakesEach (takes p) seconds) firsts

if_takes : (low high : ℤ) (P : Progression → Type 0) (o : Option Progression)
    → ((p : Progression) → IsPiece low high p → P p) → IfPiece low high o → IfTakes P o
if_takes low high P None takes i = tt
if_takes low high P (Some p) takes i = takes p i

pub takes_each : (low high : ℤ) (P : Progression → Type 0) (pieces : Pieces)
    → ((p : Progression) → IsPiece low high p → P p) → ArePieces low high pieces → TakesEach P pieces
takes_each low high P pieces takes are = record {
  first = if_takes low high P pieces.first takes are.first;
  second = if_takes low high P pieces.second takes are.second;
  third = if_takes low high P pieces.third takes are.third;
}

pub takes_pair : (low high least most : ℤ) (P : Progression → Progression → Type 0) (firsts seconds : Pieces)
    → ((p q : Progression) → IsPiece low high p → IsPiece least most q → P p q)
    → ArePieces low high firsts → ArePieces least most seconds → TakesBoth P firsts seconds
takes_pair low high least most P firsts seconds takes are also =
    takes_each low high (λ p. TakesEach (P p) seconds) firsts (λ p i. takes_each least most (P p) seconds (λ q j. takes p q i j) also) are

-- The pieces of two values.

pub unsigned_takes : (P : Progression → Progression → Type 0) (a b : Stride) → IsStride a → IsStride b
    → ((p q : Progression) → IsPiece (pos 0) (full a.size -ℤ pos 1) p → IsPiece (pos 0) (full b.size -ℤ pos 1) q → P p q)
    → TakesBoth P (unsigned_of a) (unsigned_of b)
unsigned_takes P a b s t takes =
    takes_pair (pos 0) (full a.size -ℤ pos 1) (pos 0) (full b.size -ℤ pos 1) P (unsigned_of a) (unsigned_of b) takes (of_unsigned a s) (of_unsigned b t)

pub signed_takes : (P : Progression → Progression → Type 0) (a b : Stride) → IsStride a → IsStride b
    → ((p q : Progression) → IsPiece (neg_ℤ (half a.size)) (half a.size -ℤ pos 1) p → IsPiece (neg_ℤ (half b.size)) (half b.size -ℤ pos 1) q → P p q)
    → TakesBoth P (signed_of a) (signed_of b)
signed_takes P a b s t takes =
    takes_pair (neg_ℤ (half a.size)) (half a.size -ℤ pos 1) (neg_ℤ (half b.size)) (half b.size -ℤ pos 1) P (signed_of a) (signed_of b)
    takes (of_signed a s) (of_signed b t)

-- Two sizes that fit 64 bits together.

abbrev pub AreHalves : Progression → Progression → Type 0
AreHalves p q = IsHalf p × IsHalf q

half_of : (low high : ℤ) (p : Progression) → neg_ℤ (pos (2 ^ 62)) ≤ℤ low → high ≤ℤ (pos (2 ^ 63) -ℤ pos 1)
    → (high -ℤ low) ≤ℤ (pos (2 ^ 63) -ℤ pos 1) → IsPiece low high p → IsHalf p
half_of low high p least most width i = record {
  progression = i.progression;
  low = omega (arith, ints, least, i.low);
  high = omega (arith, ints, most, i.high);
  width = omega (arith, ints, width, i.low, i.high);
}

unsigned_half : (w : ℕ) (p : Progression) → w ≤ 63 → IsPiece (pos 0) (full w -ℤ pos 1) p → IsHalf p
unsigned_half w p most i =
    let m : 2 ^ w ≤ 2 ^ 63 = pow_mono most in
    half_of (pos 0) (full w -ℤ pos 1) p (omega (arith, ints)) (omega (arith, ints, m)) (omega (arith, ints, m)) i

signed_half : (w : ℕ) (p : Progression) → 1 ≤ w → w ≤ 63 → IsPiece (neg_ℤ (half w)) (half w -ℤ pos 1) p → IsHalf p
signed_half w p least most i =
    let m : 2 ^ w ≤ 2 ^ 63 = pow_mono most in
    let two = halves w least in
    half_of (neg_ℤ (half w)) (half w -ℤ pos 1) p (omega (arith, ints, m, two)) (omega (arith, ints, m, two)) (omega (arith, ints, m, two)) i

pub unsigned_halves : (a b : Stride) → IsStride a → IsStride b → a.size + b.size ≤ 64
    → TakesBoth AreHalves (unsigned_of a) (unsigned_of b)
unsigned_halves a b s t most = unsigned_takes AreHalves a b s t (λ p q i j. (
  unsigned_half a.size p (omega (arith, most, t.size.least)) i,
  unsigned_half b.size q (omega (arith, most, s.size.least)) j,
))

pub signed_halves : (a b : Stride) → IsStride a → IsStride b → a.size + b.size ≤ 64
    → TakesBoth AreHalves (signed_of a) (signed_of b)
signed_halves a b s t most = signed_takes AreHalves a b s t (λ p q i j. (
  signed_half a.size p s.size.least (omega (arith, most, t.size.least)) i,
  signed_half b.size q t.size.least (omega (arith, most, s.size.least)) j,
))

-- Any two sizes.

abbrev pub AreWords : Progression → Progression → Type 0
AreWords p q = IsPiece (pos 0) (pos (2 ^ 64)) p × IsPiece (pos 0) (pos (2 ^ 64)) q

abbrev pub AreFar : Progression → Progression → Type 0
AreFar p q = IsFar p × IsFar q

word_piece : (w : ℕ) (p : Progression) → w ≤ 64 → IsPiece (pos 0) (full w -ℤ pos 1) p → IsPiece (pos 0) (pos (2 ^ 64)) p
word_piece w p most i = record { progression = i.progression; low = i.low; high = omega (arith, ints, full_most w most, i.high) }

pub unsigned_words : (a b : Stride) → IsStride a → IsStride b → TakesBoth AreWords (unsigned_of a) (unsigned_of b)
unsigned_words a b s t = unsigned_takes AreWords a b s t (λ p q i j. (word_piece a.size p s.size.most i, word_piece b.size q t.size.most j))

takes_far : (firsts seconds : Pieces) → ArePieces (neg_ℤ (pos (2 ^ 64))) (pos (2 ^ 64)) firsts
    → ArePieces (neg_ℤ (pos (2 ^ 64))) (pos (2 ^ 64)) seconds → TakesBoth AreFar firsts seconds
takes_far firsts seconds are also =
    takes_pair (neg_ℤ (pos (2 ^ 64))) (pos (2 ^ 64)) (neg_ℤ (pos (2 ^ 64))) (pos (2 ^ 64)) AreFar firsts seconds (λ p q i j. (i, j)) are also

pub unsigned_fars : (a b : Stride) → IsStride a → IsStride b → TakesBoth AreFar (unsigned_of a) (unsigned_of b)
unsigned_fars a b s t = takes_far (unsigned_of a) (unsigned_of b)
    (unsigned_far a.size (unsigned_of a) s.size.most (of_unsigned a s))
    (unsigned_far b.size (unsigned_of b) t.size.most (of_unsigned b t))

pub signed_fars : (a b : Stride) → IsStride a → IsStride b → TakesBoth AreFar (signed_of a) (signed_of b)
signed_fars a b s t = takes_far (signed_of a) (signed_of b)
    (signed_far a.size (signed_of a) s.size.least s.size.most (of_signed a s))
    (signed_far b.size (signed_of b) t.size.least t.size.most (of_signed b t))
