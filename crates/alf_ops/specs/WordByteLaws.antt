-- Laws of word bytes.
--   wider, within_word   one byte more of a word, and how far it can go
--   stored_word          bytes that a store of a word left are bits of the word, in their order
use Rattle.std.proofs.Common.{◌≡◌, sym, ◌∙◌, ap, ℕ, suc, zero, map, Option, Some, arith, ◌+◌, ◌-◌, ◌*◌, ◌<◌, ◌≤◌, ◌/◌, ◌%◌, ◌^◌}
use Rattle.std.proofs.lemmas.Nat.{mod-pow-add, shr-shr, pow-add}
use Rattle.std.proofs.Math.Nat.{pow-le-pow_right}
use Rattle.alf_ops.specs.declared.history.Value.TheVariants.{Int}
use Rattle.alf_ops.specs.Histories.{Byte, left_by, byte_of, bits_at, offsets, word_of}

-- one more byte of a word
pub wider : (word count low : ℕ) → 0 < count → word < 2 ^ (8 * (count - 1)) → low < 256
    → word * 256 + low < 2 ^ (8 * count)
wider word count low some small few =
    let e : 8 * count ≡ 8 * (count - 1) + 8 = omega arith in
    let p : 2 ^ (8 * count) ≡ 2 ^ (8 * (count - 1)) * 2 ^ 8 = ap (λ (n : ℕ). 2 ^ n) e ∙ pow-add 2 (8 * (count - 1)) 8 in
    omega arith

pub within_word : (count : ℕ) → count ≤ 8 → 2 ^ (8 * count) ≤ 2 ^ 64
within_word count few = let bits : 8 * count ≤ 64 = omega arith in pow-le-pow_right (omega arith) bits

-- the bytes from this place on
pub stored_word : (from : ℕ → Option Byte) (offset size bits : ℕ) (start place count : ℕ) → start ≡ offset + place
    → ((byte : ℕ) → start ≤ byte → byte < start + count → from byte ≡ Some (left_by offset size (Int size bits) byte))
    → word_of (map from (offsets start count)) ≡ bits / 2 ^ (8 * place) % 2 ^ (8 * count)
stored_word from offset size bits start place zero at each = omega arith
stored_word from offset size bits start place (suc count) at each =
    let rest : word_of (map from (offsets (suc start) count)) ≡ bits / 2 ^ (8 * suc place) % 2 ^ (8 * count) =
    stored_word from offset size bits (suc start) (suc place) count (omega arith) (λ byte low high. each byte (omega arith) (omega arith)) in
    let here : bits_at (from start) ≡ byte_of (start - offset) bits = ap bits_at (each start (omega arith) (omega arith)) in
    let p : start - offset ≡ place = omega arith in
    let low : bits_at (from start) ≡ bits / 2 ^ (8 * place) % 2 ^ 8 = here ∙ ap (λ (n : ℕ). byte_of n bits) p in
    let shift : 8 * suc place ≡ 8 * place + 8 = omega arith in
    let wide : 8 * suc count ≡ 8 * count + 8 = omega arith in
    let high : bits / 2 ^ (8 * suc place) ≡ bits / 2 ^ (8 * place) / 2 ^ 8 = ap (λ (n : ℕ). bits / 2 ^ n) shift ∙ sym (shr-shr bits (8 * place) 8) in
    let whole : bits / 2 ^ (8 * place) % 2 ^ (8 * suc count) ≡ (bits / 2 ^ (8 * place) / 2 ^ 8 % 2 ^ (8 * count)) * 2 ^ 8 + bits / 2 ^ (8 * place) % 2 ^ 8 =
    ap (λ (n : ℕ). bits / 2 ^ (8 * place) % 2 ^ n) wide ∙ mod-pow-add (bits / 2 ^ (8 * place)) (8 * count) 8 in
    let upper : word_of (map from (offsets (suc start) count)) ≡ bits / 2 ^ (8 * place) / 2 ^ 8 % 2 ^ (8 * count) = rest ∙ ap (λ (n : ℕ). n % 2 ^ (8 * count)) high in
    omega arith
