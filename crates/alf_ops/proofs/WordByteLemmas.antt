-- Laws of word bytes.
--   byte_far             a word of 64 bits has no byte past the eighth
--   word_of_below        the word of so many bytes
--   byte_at              a byte of the word of bytes is the byte that stands there
--   bits_below   what a store left in a byte is below 256
use Rattle.std.proofs.Common.{◌≡◌, sym, ◌∙◌, ap, ℕ, suc, zero, map, Option, Some, None, refl, arith, ◌+◌, ◌-◌, ◌*◌, ◌<◌, ◌≤◌, ◌/◌, ◌%◌, ◌^◌}
use Rattle.std.proofs.lemmas.Nat.{shr-shr, shr_high, mod_below}
use Rattle.std.proofs.Math.Nat.{div-one, mod-eq_of_lt, div-eq_of_lt, pow-le-pow_right, mul-add-mod_self_right}
use Rattle.alf_ops.specs.Histories.{Byte, byte_of, bits_at, offsets, word_of}
use Rattle.alf_ops.specs.WordByteLaws.{wider}

-- a word of 64 bits has no byte past the eighth
pub byte_far : (bits place : ℕ) → bits < 2 ^ 64 → 8 ≤ place → byte_of place bits ≡ 0
byte_far bits place small far =
    let wide : 64 ≤ 8 * place = omega arith in
    let power : 2 ^ 64 ≤ 2 ^ (8 * place) = pow-le-pow_right (omega arith) wide in
    let none : bits / 2 ^ (8 * place) ≡ 0 = div-eq_of_lt (omega (arith, small, power)) in
    rw none refl

-- what a store left in a byte is below 256
pub bits_below : (byte : Option Byte) → bits_at byte < 256
bits_below None = omega arith
bits_below (Some byte) = mod_below _ 256 (omega arith)

-- the word of so many bytes
pub word_of_below : (from : ℕ → Option Byte) (offset count : ℕ)
    → word_of (map from (offsets offset count)) < 2 ^ (8 * count)
word_of_below from offset zero = omega arith
word_of_below from offset (suc count) =
    let rest : word_of (map from (offsets (suc offset) count)) < 2 ^ (8 * count) = word_of_below from (suc offset) count in
    let one : suc count - 1 ≡ count = omega arith in
    wider (word_of (map from (offsets (suc offset) count))) (suc count) (bits_at (from offset)) (omega arith) (rw one rest) (bits_below (from offset))

-- a word above a byte
low_byte : (high low : ℕ) → low < 256 → byte_of 0 (high * 256 + low) ≡ low
low_byte high low small = ap (λ (n : ℕ). n % 256) (div-one (high * 256 + low)) ∙ mul-add-mod_self_right high 256 low ∙ mod-eq_of_lt small

high_byte : (high low place : ℕ) → low < 256 → byte_of (suc place) (high * 256 + low) ≡ byte_of place high
high_byte high low place small =
    let e : 8 * suc place ≡ 8 + 8 * place = omega arith in
    ap (λ (n : ℕ). (high * 256 + low) / 2 ^ n % 256) e
    ∙ ap (λ (n : ℕ). n % 256) (sym (shr-shr (high * 256 + low) 8 (8 * place)))
    ∙ ap (λ (n : ℕ). n / 2 ^ (8 * place) % 256) (shr_high high 8 low small)

-- a byte of the word of bytes is the byte that stands there
pub byte_at : (from : ℕ → Option Byte) (offset count place : ℕ) → place < count
    → byte_of place (word_of (map from (offsets offset count))) ≡ bits_at (from (offset + place))
byte_at from offset zero place low = absurd (omega arith)
byte_at from offset (suc count) zero low =
    let here : offset ≡ offset + 0 = omega arith in
    low_byte (word_of (map from (offsets (suc offset) count))) (bits_at (from offset)) (bits_below (from offset)) ∙ ap (λ (n : ℕ). bits_at (from n)) here
byte_at from offset (suc count) (suc place) low =
    let there : suc offset + place ≡ offset + suc place = omega arith in
    high_byte (word_of (map from (offsets (suc offset) count))) (bits_at (from offset)) place (bits_below (from offset))
    ∙ byte_at from (suc offset) count place (omega arith)
    ∙ ap (λ (n : ℕ). bits_at (from n)) there
