-- Bits of words.
--   set_or, set_and, set_not, set_none   a bit of what the code computes
--   place_split    where the bits of a word go on, and which word it is
use Rattle.std.proofs.Common.{◌≡◌, ◌-◌, ◌^◌, ◌<◌, ◌==◌, ◌&&◌, ◌||◌, not, min, max, bit_or, bit_and, ℕ, zero, suc, false, refl, ap, ◌∙◌, arith}
use Rattle.std.specs.Int.{bit_at, bit_not, w64}
use Rattle.std.proofs.lemmas.Nat.Bits.{bit_at_or, bit_at_and, bit_at_not, bit_at-zero, bit_at-lt}
use Rattle.recorder_rules.specs.BitWords.{is_set}

or_test : (x y : ℕ) → x < 2 → y < 2 → (max x y == 1) ≡ ((x == 1) || (y == 1))
or_test zero zero low high = refl
or_test zero (suc zero) low high = refl
or_test zero (suc (suc y)) low high = absurd (omega arith)
or_test (suc zero) zero low high = refl
or_test (suc zero) (suc zero) low high = refl
or_test (suc zero) (suc (suc y)) low high = absurd (omega arith)
or_test (suc (suc x)) y low high = absurd (omega arith)

and_test : (x y : ℕ) → x < 2 → y < 2 → (min x y == 1) ≡ ((x == 1) && (y == 1))
and_test zero zero low high = refl
and_test zero (suc zero) low high = refl
and_test zero (suc (suc y)) low high = absurd (omega arith)
and_test (suc zero) zero low high = refl
and_test (suc zero) (suc zero) low high = refl
and_test (suc zero) (suc (suc y)) low high = absurd (omega arith)
and_test (suc (suc x)) y low high = absurd (omega arith)

not_test : (x : ℕ) → x < 2 → (1 - x == 1) ≡ not (x == 1)
not_test zero low = refl
not_test (suc zero) low = refl
not_test (suc (suc x)) low = absurd (omega arith)

pub set_or : (a b i : ℕ) → is_set (bit_or a b) i ≡ (is_set a i || is_set b i)
set_or a b i = ap (λ (n : ℕ). n == 1) (bit_at_or a b i) ∙ or_test (bit_at a i) (bit_at b i) (bit_at-lt a i) (bit_at-lt b i)

pub set_and : (a b i : ℕ) → is_set (bit_and a b) i ≡ (is_set a i && is_set b i)
set_and a b i = ap (λ (n : ℕ). n == 1) (bit_at_and a b i) ∙ and_test (bit_at a i) (bit_at b i) (bit_at-lt a i) (bit_at-lt b i)

pub set_not : (a i : ℕ) → a < 2 ^ 64 → i < 64 → is_set (bit_not w64 a) i ≡ not (is_set a i)
set_not a i low within = ap (λ (n : ℕ). n == 1) (bit_at_not w64 a i low within) ∙ not_test (bit_at a i) (bit_at-lt a i)

pub set_none : (i : ℕ) → is_set 0 i ≡ false
set_none i = ap (λ (n : ℕ). n == 1) (bit_at-zero i)
