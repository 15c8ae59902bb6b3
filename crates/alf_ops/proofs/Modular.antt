-- Words of a size as remainders.
use Rattle.std.proofs.Common.{◌≡◌, ℕ, zero, suc, ◌+◌, ◌-◌, ◌*◌, ◌/◌, ◌%◌, ◌^◌, ◌<◌, ◌≤◌, ℤ, pos, negsuc, neg_ℤ, true, false, refl, sym, ap, ◌∙◌, arith, ⊎_elim}
use Rattle.std.specs.Prelude.{min, max, unsigned_abs, int_div, int_rem, bit_and, bit_or, bit_xor, ◌-ℤ◌, ◌*ℤ◌}
use Rattle.std.specs.Int.{int_div_euclid}
use Rattle.std.proofs.lemmas.Bool.{cases_lt}
use Rattle.std.proofs.lemmas.Int.{ints, quot-rem}
use Rattle.std.proofs.lemmas.Nat.{pow_pos, pow-add, mod_below, div-add-mod', mod-mul-add, shr_le, shl_whole, and_le_l, or_lt, xor_lt}
use Rattle.std.proofs.Math.Nat.{mod_self, sub-zero, zero-mod, mod-mod, mul-mod_left, div-le_self}
use Rattle.std.proofs.Math.IntN.{*ℤ_comm}
use Rattle.std.proofs.Math.Pow.{pow_mono}
use Rattle.alf_ops.specs.TwosComplement.{word, signed, sign, with_sign}

-- a number below the modulus is its own remainder
pub mod_small : (x m : ℕ) → x < m → x % m ≡ x
mod_small x m below = grind arith

pub powers_rise : (m n : ℕ) → m ≤ n → 2 ^ m ≤ 2 ^ n
powers_rise m n rise = pow_mono rise

pub word_negated : (size a : ℕ) → a < 2 ^ size → (2 ^ size - a) % 2 ^ size ≡ word size (neg_ℤ (pos a))
word_negated size zero below = rw (sub-zero (2 ^ size), mod_self (2 ^ size), zero-mod (2 ^ size)) refl
word_negated size (suc n) below = grind (arith, pow_pos size, mod_small)

-- the remainder of the next number
next_mod : (n m : ℕ) → n % m + 1 < m → suc n % m ≡ suc (n % m)
next_mod n m below =
    let e : suc n ≡ n / m * m + (n % m + 1) = omega (arith, div-add-mod' n m) in
    let f : suc n % m ≡ n % m + 1 = rw e (mod-mul-add (n / m) m (n % m + 1) below) in
    omega (arith, f)

next_mod_zero : (n m : ℕ) → n % m + 1 ≡ m → suc n % m ≡ 0
next_mod_zero n m last =
    let e : suc n ≡ (n / m + 1) * m = omega (arith, div-add-mod' n m) in
    rw e (mul-mod_left (n / m + 1) m)

-- a negative number loses nothing that counts when its distance is cut
pub word_negated_cut : (size q : ℕ) → word size (neg_ℤ (pos (q % 2 ^ size))) ≡ word size (neg_ℤ (pos q))
word_negated_cut size zero = rw (zero-mod (2 ^ size)) (zero-mod (2 ^ size))
word_negated_cut size (suc n) = ⊎_elim
    (λ (below : n % 2 ^ size + 1 < 2 ^ size). rw (next_mod n (2 ^ size) below, mod-mod n (2 ^ size)) refl)
    (λ (above : 2 ^ size ≤ n % 2 ^ size + 1).
    let last : n % 2 ^ size + 1 ≡ 2 ^ size = omega (arith, mod_below n (2 ^ size) (pow_pos size)) in
    rw (next_mod_zero n (2 ^ size) last, zero-mod (2 ^ size)) (omega (arith, last)))
    (cases_lt (n % 2 ^ size + 1) (2 ^ size))

pub shifted_out_high : (a b size : ℕ) → size ≤ b → 0 ≡ a * 2 ^ b % 2 ^ size
shifted_out_high a b size past =
    let e : 2 ^ b ≡ 2 ^ (b - size) * 2 ^ size = rw (← (pow-add 2 (b - size) size)) (ap (λ k. 2 ^ k) (omega arith)) in
    let f : a * 2 ^ b ≡ (a * 2 ^ (b - size)) * 2 ^ size = rw e (omega arith) in
    sym (rw f (mul-mod_left (a * 2 ^ (b - size)) (2 ^ size)))

pub shifted_out_low : (a b : ℕ) → a < 2 ^ 64 → 64 ≤ b → 0 ≡ a / 2 ^ b
shifted_out_low a b below past = grind (arith, pow_mono past, pow_pos b)

-- a word with its highest bit, in two's complement
pub signed_high : (size a : ℕ) → sign (signed size a) ≡ true → a < 2 ^ size → signed size a ≡ negsuc (2 ^ size - suc a)
signed_high size a high below = grind (arith, ints)

pub word_extended : (m n a : ℕ) → m ≤ n → a < 2 ^ m → sign (signed m a) ≡ true
    → a + (2 ^ n - 2 ^ m) ≡ word n (signed m a)
word_extended m n a wider below high = rw (signed_high m a high below) (grind (arith, pow_mono wider, mod_small))

-- a word without its highest bit
pub signed_low : (size a : ℕ) → sign (signed size a) ≡ false → a < 2 ^ size → signed size a ≡ pos a
signed_low size a low below = grind (arith, ints)

pub word_kept : (m n a : ℕ) → m ≤ n → a < 2 ^ m → sign (signed m a) ≡ false → a ≡ word n (signed m a)
word_kept m n a wider below low = rw (signed_low m a low below) (grind (arith, pow_mono wider, mod_small))

-- a negative word shifted to lower places, rounded down
pub word_shifted : (size a b : ℕ) → a < 2 ^ size → sign (signed size a) ≡ true
    → 2 ^ size - 1 - (2 ^ size - 1 - a) / 2 ^ b ≡ word size (int_div_euclid (signed size a) (pos (2 ^ b)))
word_shifted size a b below high =
    let e : 2 ^ size - suc a ≡ 2 ^ size - 1 - a = omega arith in
    let f : (2 ^ size - 1 - a) / 2 ^ b ≤ 2 ^ size - 1 - a = shr_le (2 ^ size - 1 - a) b in
    rw (signed_high size a high below) (rw e (rw (mod_small ((2 ^ size - 1 - a) / 2 ^ b) (2 ^ size) (omega arith)) refl))

rem_by_sign : (x y : ℤ) → int_rem x y ≡ with_sign (sign x) (unsigned_abs x % unsigned_abs y)
rem_by_sign (pos a) y = refl
rem_by_sign (negsuc a) y = refl

-- what the quotient leaves has the sign of the number divided
pub remainder_by_sign : (x y : ℤ) → x -ℤ (y *ℤ int_div x y) ≡ with_sign (sign x) (unsigned_abs x % unsigned_abs y)
remainder_by_sign x y =
    let e : x -ℤ (y *ℤ int_div x y) ≡ int_rem x y = omega (arith, ints, quot-rem x y, *ℤ_comm y (int_div x y)) in e ∙ rem_by_sign x y

-- a sum of two shifted words
pub rotated : (a places : ℕ) → a < 2 ^ 64 → places ≤ 64 → (a * 2 ^ places) % 2 ^ 128 ≡ a * 2 ^ places
rotated a places below within = shl_whole a 64 places 128 below (omega arith)

-- a word of a machine is below 2 to a size that it has room for
pub below_wide : (x size : ℕ) → x < 2 ^ 64 → 64 ≤ size → x < 2 ^ size
below_wide x size below wide = let e : 2 ^ 64 ≤ 2 ^ size = pow_mono wide in omega arith

-- Results that are below the modulus already.

pub lesser_kept : (a b m : ℕ) → a < 2 ^ m → b < 2 ^ m → min a b % 2 ^ m ≡ min a b
lesser_kept a b m below_a below_b = mod_small (min a b) (2 ^ m) (omega arith)

pub greater_kept : (a b m : ℕ) → a < 2 ^ m → b < 2 ^ m → max a b % 2 ^ m ≡ max a b
greater_kept a b m below_a below_b = mod_small (max a b) (2 ^ m) (omega arith)

pub quotient_kept : (a b m : ℕ) → a < 2 ^ m → a / b ≡ (a / b) % 2 ^ m
quotient_kept a b m below = sym (mod_small (a / b) (2 ^ m) (let e : a / b ≤ a = div-le_self a b in omega arith))

pub shift_kept : (a b m : ℕ) → a < 2 ^ m → a / 2 ^ b ≡ a / 2 ^ b % 2 ^ m
shift_kept a b m below = quotient_kept a (2 ^ b) m below

pub low_kept : (a m n : ℕ) → m ≤ n → a < 2 ^ m → a ≡ a % 2 ^ n
low_kept a m n wider below = sym (mod_small a (2 ^ n) (let e : 2 ^ m ≤ 2 ^ n = pow_mono wider in omega arith))

pub both_kept : (a b m : ℕ) → a < 2 ^ m → bit_and a b ≡ bit_and a b % 2 ^ m
both_kept a b m below = sym (mod_small (bit_and a b) (2 ^ m) (let e : bit_and a b ≤ a = and_le_l a b in omega arith))

pub either_kept : (a b m : ℕ) → a < 2 ^ m → b < 2 ^ m → bit_or a b ≡ bit_or a b % 2 ^ m
either_kept a b m below_a below_b = sym (mod_small (bit_or a b) (2 ^ m) (or_lt m a b below_a below_b))

pub one_kept : (a b m : ℕ) → a < 2 ^ m → b < 2 ^ m → bit_xor a b ≡ bit_xor a b % 2 ^ m
one_kept a b m below_a below_b = sym (mod_small (bit_xor a b) (2 ^ m) (xor_lt m a b below_a below_b))

-- a word that is not negative, shifted to lower places
pub low_shifted : (size a b : ℕ) → a < 2 ^ size → sign (signed size a) ≡ false
    → a / 2 ^ b ≡ word size (int_div_euclid (signed size a) (pos (2 ^ b)))
low_shifted size a b below low = rw (signed_low size a low below) (shift_kept a b size below)

-- the remainder of two words, by the quotient
pub remainder_kept : (a b n : ℕ) → 0 < b → b < 2 ^ n → a % b ≡ word n (pos a -ℤ (pos b *ℤ pos (a / b)))
remainder_kept a b n positive below =
    let e : pos a -ℤ (pos b *ℤ pos (a / b)) ≡ pos (a % b) = omega (arith, ints, div-add-mod' a b) in
    rw e (sym (mod_small (a % b) (2 ^ n) (let f : a % b < b = mod_below a b positive in omega arith)))
