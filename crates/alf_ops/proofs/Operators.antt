-- What the laws of operators say.
use Rattle.std.proofs.Common.{◌≡◌, ◌≢◌, ℕ, zero, suc, [], ◌∷◌, ◌+◌, ◌-◌, ◌*◌, ◌/◌, ◌%◌, ◌^◌, ◌<◌, ◌≤◌, ℤ, pos, negsuc, true, false, refl, ap, sym, ◌∙◌, arith, eq-eqb, ⊎_elim}
use Rattle.std.proofs.lemmas.Grind.{common_steps}
use Rattle.std.specs.Prelude.{◌≤ℤ◌, ◌<ℤ◌, ◌-ℤ◌, ◌*ℤ◌, ◌+ℤ◌, int_lt, int_le}
use Rattle.std.specs.Int.{int_div_euclid}
use Rattle.lists.specs.TestLaws.{by_test}
use Rattle.std.proofs.lemmas.Int.{ints}
use Rattle.std.proofs.lemmas.Bool.{ne_eqb, le-leb, lt-leb, cases_lt}
use Rattle.std.proofs.lemmas.Nat.{pow_pos, pow-add, mod_below, div-add-mod', mod-mul-add, mul-add-lt}
use Rattle.std.proofs.Math.Pow.{pow_mono}
use Rattle.std.proofs.Math.Nat.{div-le_self, mod_self, mul-le-mul_left}
use Rattle.alf_ops.specs.declared.operator.Op.TheVariants.{Neg, Not, Add, Sub, CAdd, CSub, UMul, UDiv, UMod, RShift, RShiftA, ULt, ULe, UGt, UGe, SLt, SLe, SGt, SGe, SExt, ZExt, Trunc, If, Eq, Neq}
use Rattle.alf_ops.specs.TwosComplement.{word, signed}
use Rattle.alf_ops.specs.Words.{value}
use Rattle.alf_ops.specs.OperatorLaws.{with_bit, of_two, Subtracts, RoundsDownAt, IsBelow, IsLevel, OrdersWords, TellsEqual}
use Rattle.alf_ops.proofs.Modular.{mod_small, word_negated, remainder_kept, quotient_kept}
use Rattle.alf_ops.proofs.WordReadings.{is_read, reads_twos_complement}

-- ---- sums and differences

-- a number from one modulus on, and below two
mod_once : (n m : ℕ) → m ≤ n → n < m + m → n % m ≡ n - m
mod_once n m above below =
    let e : n ≡ 1 * m + (n - m) = omega arith in
    ap (λ (k : ℕ). k % m) e ∙ mod-mul-add 1 m (n - m) (omega arith)

is_carried : (size a b bit : ℕ) → 2 ^ size ≤ a + b + bit → with_bit CAdd size a b bit ≡ 1
is_carried size a b bit above = rw (le-leb (2 ^ size) (a + b + bit) above) refl

is_not_carried : (size a b bit : ℕ) → a + b + bit < 2 ^ size → with_bit CAdd size a b bit ≡ 0
is_not_carried size a b bit below = rw (lt-leb (2 ^ size) (a + b + bit) below) refl

pub adds : (size a b bit : ℕ) → a < 2 ^ size → b < 2 ^ size → bit ≤ 1
    → with_bit CAdd size a b bit * 2 ^ size + with_bit Add size a b bit ≡ a + b + bit
adds size a b bit below_a below_b few = ⊎_elim
    (λ (low : a + b + bit < 2 ^ size). rw (is_not_carried size a b bit low) (let e = mod_small (a + b + bit) (2 ^ size) low in omega (arith, e)))
    (λ (above : 2 ^ size ≤ a + b + bit). rw (is_carried size a b bit above) (let e = mod_once (a + b + bit) (2 ^ size) above (omega arith) in omega (arith, e)))
    (cases_lt (a + b + bit) (2 ^ size))

-- the first number comes back where the size is added once, or not at all
comes_back : (m a b n : ℕ) → a < m → b < m → n ≡ a + (m - 1 - b) + 1 → (n % m + b) % m ≡ a
comes_back m a b n below_a below_b e = ⊎_elim
    (λ (low : n < m). let f = mod_small n m low in let g : n + b ≡ a + m = omega (arith, e) in rw (f, g) (mod_once (a + m) m (omega arith) (omega arith) ∙ omega arith))
    (λ (above : m ≤ n). let f = mod_once n m above (omega (arith, e)) in let g : n - m + b ≡ a = omega (arith, e) in rw (f, g) (mod_small a m below_a))
    (cases_lt n m)

comes_back_borrowed : (m a b n : ℕ) → a < m → b < m → n ≡ a + (m - 1 - b) → (n % m + b + 1) % m ≡ a
comes_back_borrowed m a b n below_a below_b e = ⊎_elim
    (λ (low : n < m). let f = mod_small n m low in let g : n + b + 1 ≡ a + m = omega (arith, e) in rw (f, g) (mod_once (a + m) m (omega arith) (omega arith) ∙ omega arith))
    (λ (above : m ≤ n). let f = mod_once n m above (omega (arith, e)) in let g : n - m + b + 1 ≡ a = omega (arith, e) in rw (f, g) (mod_small a m below_a))
    (cases_lt n m)

pub subtracts : (size a b : ℕ) → a < 2 ^ size → b < 2 ^ size → Subtracts size a b
subtracts size a b below_a below_b = record {
  back = comes_back (2 ^ size) a b (a + (2 ^ size - 1 - b) + 1) below_a below_b refl;
  back_borrowed = comes_back_borrowed (2 ^ size) a b (a + (2 ^ size - 1 - b) + 0) below_a below_b (omega arith);
  enough = λ order. rw (le-leb (2 ^ size) (a + (2 ^ size - 1 - b) + 1) (omega arith)) refl;
  borrowed = λ order. rw (lt-leb (2 ^ size) (a + (2 ^ size - 1 - b) + 1) (omega arith)) refl;
  more_than_enough = λ order. rw (le-leb (2 ^ size) (a + (2 ^ size - 1 - b) + 0) (omega arith)) refl;
  borrowed_again = λ order. rw (lt-leb (2 ^ size) (a + (2 ^ size - 1 - b) + 0) (omega arith)) refl;
}

pub negates : (size a : ℕ) → a < 2 ^ size
    → ((value Neg (size ∷ []) (a ∷ []) + a) % 2 ^ size ≡ 0) × (value Not (size ∷ []) (a ∷ []) + a + 1 ≡ 2 ^ size)
negates size a below = (negated a below, complement)
  where
    negated : (a : ℕ) → a < 2 ^ size → (value Neg (size ∷ []) (a ∷ []) + a) % 2 ^ size ≡ 0
    negated zero below = let e = mod_small 0 (2 ^ size) (pow_pos size) in rw (e, e) refl
    negated (suc a) below =
        let e : (2 ^ size - suc a) % 2 ^ size ≡ value Neg (size ∷ []) (suc a ∷ []) = word_negated size (suc a) below in
        let f = mod_small (2 ^ size - suc a) (2 ^ size) (omega arith) in
        let g : value Neg (size ∷ []) (suc a ∷ []) + suc a ≡ 2 ^ size = omega (arith, e, f) in
        ap (λ (n : ℕ). n % 2 ^ size) g ∙ mod_self (2 ^ size)

    complement : value Not (size ∷ []) (a ∷ []) + a + 1 ≡ 2 ^ size
    complement = let e = mod_small (2 ^ size - 1 - a) (2 ^ size) (omega arith) in omega (arith, e)

-- ---- products and quotients

pub multiplies : (m n a b : ℕ) → a < 2 ^ m → b < 2 ^ n → value UMul (m ∷ n ∷ []) (a ∷ b ∷ []) ≡ a * b
multiplies m n a b below_a below_b =
    let power : 2 ^ (m + n) ≡ 2 ^ m * 2 ^ n = pow-add 2 m n in
    let more : a * b ≤ a * 2 ^ n = mul-le-mul_left a (let less : b ≤ 2 ^ n = omega arith in less) in
    let whole : a * 2 ^ n + b < 2 ^ n * 2 ^ m = mul-add-lt a (2 ^ n) b (2 ^ m) below_a below_b in
    mod_small (a * b) (2 ^ (m + n)) (omega arith)

pub divides_words : (m n a b : ℕ) → a < 2 ^ m → 0 < b → b < 2 ^ n
    → (value UDiv (m ∷ n ∷ []) (a ∷ b ∷ []) * b + value UMod (m ∷ n ∷ []) (a ∷ b ∷ []) ≡ a) × (value UMod (m ∷ n ∷ []) (a ∷ b ∷ []) < b)
divides_words m n a b below_a some below_b =
    let quotient : value UDiv (m ∷ n ∷ []) (a ∷ b ∷ []) ≡ a / b = sym (quotient_kept a b m below_a) in
    let rest : value UMod (m ∷ n ∷ []) (a ∷ b ∷ []) ≡ a % b = sym (remainder_kept a b n some below_b) in
    (rw (quotient, rest) (div-add-mod' a b), rw rest (mod_below a b some))

-- ---- shifts

next_above : (n p q : ℕ) → q * p ≤ n → negsuc n <ℤ ((negsuc q +ℤ pos 1) *ℤ pos p)
next_above n p zero low = omega (arith, ints)
next_above n p (suc q) low = let e : negsuc (suc q) +ℤ pos 1 ≡ negsuc q = omega (arith, ints) in rw e (omega (arith, ints))

-- a division by a positive number rounds down
rounds : (z : ℤ) (p : ℕ) → 0 < p
    → ((int_div_euclid z (pos p) *ℤ pos p) ≤ℤ z) × (z <ℤ ((int_div_euclid z (pos p) +ℤ pos 1) *ℤ pos p))
rounds (pos n) p some = (omega (arith, ints, div-add-mod' n p), omega (arith, ints, div-add-mod' n p, mod_below n p some))
rounds (negsuc n) p some = (omega (arith, ints, div-add-mod' n p, mod_below n p some), next_above n p (n / p) (omega (arith, div-add-mod' n p)))

pub rounds_down : (m n a b : ℕ) → 1 ≤ m → a < 2 ^ m → RoundsDownAt m n a b
rounds_down m n a b positive below =
    let some = pow_pos b in
    let down : value RShift (m ∷ n ∷ []) (a ∷ b ∷ []) ≡ a / 2 ^ b = sym (quotient_kept a (2 ^ b) m below) in
    let read = reading in
    let quotient = rounds (signed m a) (2 ^ b) some in
    record {
      below = rw down (omega (arith, div-add-mod' a (2 ^ b)));
      nearest = rw down (omega (arith, div-add-mod' a (2 ^ b), mod_below a (2 ^ b) some));
      signed_below = rw read quotient.0;
      signed_nearest = rw read quotient.1;
    }
  where
    -- a quotient by a positive number lies between the number and 0, or is -1
    nearer_low : (z : ℤ) (p h : ℕ) → 0 < p → 0 < h → (pos 0 -ℤ pos h) ≤ℤ z
        → (pos 0 -ℤ pos h) ≤ℤ int_div_euclid z (pos p)
    nearer_low (pos k) p h some half low = omega (arith, ints)
    nearer_low (negsuc k) p h some half low = let less = div-le_self k p in omega (arith, ints, less)

    nearer_high : (z : ℤ) (p h : ℕ) → 0 < p → 0 < h → z <ℤ pos h → int_div_euclid z (pos p) <ℤ pos h
    nearer_high (pos k) p h some half high = let less = div-le_self k p in omega (arith, ints, less)
    nearer_high (negsuc k) p h some half high = omega (arith, ints)

    reading : signed m (value RShiftA (m ∷ n ∷ []) (a ∷ b ∷ [])) ≡ int_div_euclid (signed m a) (pos (2 ^ b))
    reading =
        let within = reads_twos_complement m a positive below in
        let half = pow_pos (m - 1) in
        is_read m (int_div_euclid (signed m a) (pos (2 ^ b))) positive
        (let low = nearer_low (signed m a) (2 ^ b) (2 ^ (m - 1)) (pow_pos b) half (omega (arith, ints, within.1)) in omega (arith, ints, low))
        (nearer_high (signed m a) (2 ^ b) (2 ^ (m - 1)) (pow_pos b) half within.2)

-- ---- choice

pub chooses : (size a b : ℕ) → a < 2 ^ size → b < 2 ^ size
    → (value If (size ∷ []) (1 ∷ a ∷ b ∷ []) ≡ a) × (value If (size ∷ []) (0 ∷ a ∷ b ∷ []) ≡ b)
chooses size a b below_a below_b = (mod_small a (2 ^ size) below_a, mod_small b (2 ^ size) below_b)

-- ---- orders

below_unsigned : (size a b : ℕ) → a < b → IsBelow ULt ULe UGt UGe size a b
below_unsigned size a b order =
    let less = le-leb (suc a) b order in
    let at_most = le-leb a b (omega arith) in
    let not_greater = lt-leb (suc b) a (omega arith) in
    let not_at_least = lt-leb b a order in
    record {
      is_less = rw less refl;
      is_at_most = rw at_most refl;
      not_greater = rw not_greater refl;
      not_at_least = rw not_at_least refl;
      reversed_less = rw not_greater refl;
      reversed_at_most = rw not_at_least refl;
      reversed_greater = rw less refl;
      reversed_at_least = rw at_most refl;
    }

level_unsigned : (size a : ℕ) → IsLevel ULt ULe UGt UGe size a
level_unsigned size a =
    let not_less = lt-leb (suc a) a (omega arith) in
    let at_most = le-leb a a (omega arith) in
    record { not_less = rw not_less refl; is_at_most = rw at_most refl; not_greater = rw not_less refl; is_at_least = rw at_most refl }

-- the tests of whole numbers
lesser : (x y : ℤ) → x <ℤ y → (int_lt x y ≡ true) × (int_le x y ≡ true) × (int_lt y x ≡ false) × (int_le y x ≡ false)
lesser x y order = (
  by_test (int_lt x y) (λ e. e) (λ e. absurd (omega (arith, ints))),
  by_test (int_le x y) (λ e. e) (λ e. absurd (omega (arith, ints))),
  by_test (int_lt y x) (λ e. absurd (omega (arith, ints))) (λ e. e),
  by_test (int_le y x) (λ e. absurd (omega (arith, ints))) (λ e. e),
)

same : (x : ℤ) → (int_lt x x ≡ false) × (int_le x x ≡ true)
same x = (by_test (int_lt x x) (λ e. absurd (omega (arith, ints))) (λ e. e), by_test (int_le x x) (λ e. e) (λ e. absurd (omega (arith, ints))))

below_signed : (size a b : ℕ) → signed size a <ℤ signed size b → IsBelow SLt SLe SGt SGe size a b
below_signed size a b order =
    let tests = lesser (signed size a) (signed size b) order in
    record {
      is_less = rw tests.0 refl;
      is_at_most = rw tests.1 refl;
      not_greater = rw tests.2 refl;
      not_at_least = rw tests.3 refl;
      reversed_less = rw tests.2 refl;
      reversed_at_most = rw tests.3 refl;
      reversed_greater = rw tests.0 refl;
      reversed_at_least = rw tests.1 refl;
    }

level_signed : (size a : ℕ) → IsLevel SLt SLe SGt SGe size a
level_signed size a =
    let tests = same (signed size a) in
    record { not_less = rw tests.0 refl; is_at_most = rw tests.1 refl; not_greater = rw tests.0 refl; is_at_least = rw tests.1 refl }

pub orders : OrdersWords
orders = record { unsigned = below_unsigned; unsigned_level = level_unsigned; signed_readings = below_signed; signed_level = level_signed }

pub tells_equal : TellsEqual
tells_equal = record {
  same = λ size a. let e = eq-eqb a a refl in (rw e refl, rw e refl);
  other = λ size a b apart. let e = ne_eqb a b apart in (rw e refl, rw e refl);
}

-- ---- sizes

pub keeps_reading : (m n a : ℕ) → 1 ≤ m → m ≤ n → a < 2 ^ m
    → (signed n (value SExt (m ∷ n ∷ []) (a ∷ [])) ≡ signed m a) × (value ZExt (m ∷ n ∷ []) (a ∷ []) ≡ a) × (value Trunc (n ∷ m ∷ []) (a ∷ []) ≡ a)
keeps_reading m n a positive wider below =
    let within = reads_twos_complement m a positive below in
    let half : 2 ^ (m - 1) ≤ 2 ^ (n - 1) = pow_mono (let less : m - 1 ≤ n - 1 = omega arith in less) in
    let whole : 2 ^ m ≤ 2 ^ n = pow_mono wider in (
      is_read n (signed m a) (omega arith) (omega (arith, ints, half, within.1)) (omega (arith, ints, half, within.2)),
      mod_small a (2 ^ n) (omega arith),
      mod_small a (2 ^ m) below,
    )
