-- Laws of signed.
--   word_fits   the word of any number has its size
--   word_back   a word is read back from how far it is below 0
use Rattle.std.proofs.Common.{◌≡◌, ◌<◌, ◌≤◌, ◌-◌, ◌*◌, ◌%◌, ◌^◌, ℕ, zero, suc, pos, neg_ℤ, true, false, refl, ap, ◌∙◌, arith}
use Rattle.std.proofs.Math.Pow.{pow_mono}
use Rattle.std.proofs.Math.Nat.{pow-succ', mod-eq_of_lt}
use Rattle.std.proofs.lemmas.Int.{ints}
use Rattle.alf_ops.specs.TwosComplement.{word, is_negative}
use Rattle.alf_reader.specs.Signed.{IsBelow}

pub low_power : (s : ℕ) → s ≤ 64 → 2 ^ s ≤ 2 ^ 64
low_power s le = pow_mono {i = s} {j = 64} le

pub some_power : (s : ℕ) → 1 ≤ 2 ^ s
some_power s = pow_mono {i = 0} {j = s} (omega arith)

pub half_power : (s : ℕ) → 1 ≤ s → 2 ^ s ≡ 2 * 2 ^ (s - 1)
half_power s some = let e : s ≡ suc (s - 1) = omega arith in ap (λ (n : ℕ). 2 ^ n) e ∙ pow-succ' 2 (s - 1)

pub below : (s b : ℕ) → b < 2 ^ s → is_negative s b ≡ true → IsBelow s b
below s b lt e = record { far = grind (arith, ints); near = grind (arith, ints) }

pub not_below : (s b : ℕ) → b < 2 ^ s → is_negative s b ≡ false → b < 2 ^ (s - 1)
not_below s b lt e = grind (arith, ints)

-- the word of any number has its size
pub word_fits : (s d : ℕ) → word s (neg_ℤ (pos d)) < 2 ^ s
word_fits s zero = grind (arith, some_power s)
word_fits s (suc d) = omega (arith, some_power s)

-- a word is read back from how far it is below 0
pub word_back : (s b : ℕ) → 0 < b → b < 2 ^ s → word s (neg_ℤ (pos (2 ^ s - b))) ≡ b
word_back s b some lt = by_distance (2 ^ s - b) refl
  where
    by_distance : (d : ℕ) → d ≡ 2 ^ s - b → word s (neg_ℤ (pos d)) ≡ b
    by_distance zero e = absurd (omega (arith, e, lt))
    by_distance (suc d) e = let small : d % 2 ^ s ≡ d = mod-eq_of_lt (omega (arith, e, some)) in rw small (omega (arith, e, some, lt))
