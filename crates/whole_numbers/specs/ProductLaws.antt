-- Products and order of whole numbers.
--   times_not_negative, times_rising, times_falling   a product by a number that is not negative, or not positive
--   product_between       a product lies between the products of the ends
--   scaled_left, ring     multiples by a factor on the left; the product of two differences
--   power_most            powers of 2 that fit 128 signed bits
use Rattle.std.proofs.Common.{◌≡◌, ℕ, ℤ, pos, negsuc, ◌<◌, ◌≤◌, ◌^◌, arith}
use Rattle.std.specs.Prelude.{◌+ℤ◌, ◌-ℤ◌, ◌*ℤ◌, ◌≤ℤ◌, int_le, int_lt}
use Rattle.std.specs.Int.{int_min, int_max}
use Rattle.std.proofs.lemmas.Int.{ints, clamps}
use Rattle.std.proofs.Math.IntN.{*ℤ_comm}
use Rattle.std.proofs.Math.Pow.{pow_mono}
use Rattle.whole_numbers.specs.Numbers.{Divides}
use Rattle.whole_numbers.specs.MultipleLaws.{by_test, difference_times, divides_same, divides_difference, divides_scaled}

-- Products.

pub times_not_negative : (a b : ℤ) → pos 0 ≤ℤ a → pos 0 ≤ℤ b → pos 0 ≤ℤ (a *ℤ b)
times_not_negative (pos a) (pos b) p q = omega (arith, ints)
times_not_negative (pos a) (negsuc b) p q = absurd (omega (arith, ints))
times_not_negative (negsuc a) b p q = absurd (omega (arith, ints))

-- a multiple of a number lies between the multiples of the ends
pub times_rising : (lo n m : ℤ) → lo ≤ℤ n → pos 0 ≤ℤ m → (lo *ℤ m) ≤ℤ (n *ℤ m)
times_rising lo n m p q = omega (arith, ints, times_not_negative (n -ℤ lo) m (omega (arith, ints)) q, difference_times n lo m)

pub times_falling : (lo n m : ℤ) → lo ≤ℤ n → m ≤ℤ pos 0 → (n *ℤ m) ≤ℤ (lo *ℤ m)
times_falling lo n m p q = omega (arith, ints, times_rising lo n (pos 0 -ℤ m) p (omega (arith, ints)), difference_times (pos 0) m lo, difference_times (pos 0) m n, *ℤ_comm (pos 0 -ℤ m) lo, *ℤ_comm (pos 0 -ℤ m) n, *ℤ_comm m lo, *ℤ_comm m n)

pub times_between : (lo hi n m : ℤ) → lo ≤ℤ n → n ≤ℤ hi
    → (int_min (lo *ℤ m) (hi *ℤ m) ≤ℤ (n *ℤ m)) × ((n *ℤ m) ≤ℤ int_max (lo *ℤ m) (hi *ℤ m))
times_between lo hi n m p q = by_test (int_le (pos 0) m)
    (λ yes_. let a = times_rising lo n m p (omega (arith, ints, yes_)) in
    let b = times_rising n hi m q (omega (arith, ints, yes_)) in (omega (arith, ints, clamps, a), omega (arith, ints, clamps, b)))
    (λ no_. let a = times_falling lo n m p (omega (arith, ints, no_)) in
    let b = times_falling n hi m q (omega (arith, ints, no_)) in (omega (arith, ints, clamps, b), omega (arith, ints, clamps, a)))

pub by_mins : (s t u v x y z : ℤ) → int_min s t ≤ℤ x → int_min u v ≤ℤ y → int_min x y ≤ℤ z
    → int_min (int_min s t) (int_min u v) ≤ℤ z
by_mins s t u v x y z p q r = omega (arith, ints, clamps)

pub by_maxes : (s t u v x y z : ℤ) → x ≤ℤ int_max s t → y ≤ℤ int_max u v → z ≤ℤ int_max x y
    → z ≤ℤ int_max (int_max s t) (int_max u v)
by_maxes s t u v x y z p q r = omega (arith, ints, clamps)

-- factors on the left
pub scaled_left : (k d x : ℤ) → Divides d x → Divides (k *ℤ d) (k *ℤ x)
scaled_left k d x m = rw (*ℤ_comm k d, *ℤ_comm k x) (divides_scaled k d x m)

-- two numbers that differ from a third by multiples
pub difference_of : (g c x y : ℤ) → Divides g (x -ℤ c) → Divides g (y -ℤ c) → Divides g (x -ℤ y)
difference_of g c x y p q = divides_same g ((x -ℤ c) -ℤ (y -ℤ c)) (x -ℤ y) (omega (arith, ints)) (divides_difference g (x -ℤ c) (y -ℤ c) p q)

pub ring : (n m a b : ℤ) → ((n -ℤ a) *ℤ (m -ℤ b)) +ℤ ((a *ℤ (m -ℤ b)) +ℤ (b *ℤ (n -ℤ a))) ≡ (n *ℤ m) -ℤ (a *ℤ b)
ring n m a b =
    let e = difference_times n a (m -ℤ b) in
    let f = difference_times m b n in
    let g = difference_times n a b in
    omega (arith, ints, e, f, g, *ℤ_comm n (m -ℤ b), *ℤ_comm m n, *ℤ_comm b n, *ℤ_comm b (n -ℤ a))

-- the product of two numbers lies between the products of the ends
pub product_between : (a b c d n m : ℤ) → a ≤ℤ n → n ≤ℤ b → c ≤ℤ m → m ≤ℤ d
    → (int_min (int_min (a *ℤ c) (a *ℤ d)) (int_min (b *ℤ c) (b *ℤ d)) ≤ℤ (n *ℤ m)) × ((n *ℤ m) ≤ℤ int_max (int_max (a *ℤ c) (a *ℤ d)) (int_max (b *ℤ c) (b *ℤ d)))
product_between a b c d n m p q r s =
    let e = times_between a b n m p q in
    let f = times_between c d m a r s in
    let g = times_between c d m b r s in
    let u = *ℤ_comm c a in
    let v = *ℤ_comm d a in
    let w = *ℤ_comm m a in
    let x = *ℤ_comm c b in
    let y = *ℤ_comm d b in
    let z = *ℤ_comm m b in (
      by_mins (a *ℤ c) (a *ℤ d) (b *ℤ c) (b *ℤ d) (a *ℤ m) (b *ℤ m) (n *ℤ m) (rw (← u, ← v, ← w) f.0) (rw (← x, ← y, ← z) g.0) e.0,
      by_maxes (a *ℤ c) (a *ℤ d) (b *ℤ c) (b *ℤ d) (a *ℤ m) (b *ℤ m) (n *ℤ m) (rw (← u, ← v, ← w) f.1) (rw (← x, ← y, ← z) g.1) e.1,
    )

-- one of two numbers, of which each has a property
pub is_least : (P : ℤ → Type 0) (a b : ℤ) → P a → P b → P (int_min a b)
is_least P a b h k = by_test (int_lt b a) (λ less. rw less k) (λ more. rw more h)

pub is_greatest : (P : ℤ → Type 0) (a b : ℤ) → P a → P b → P (int_max a b)
is_greatest P a b h k = by_test (int_lt b a) (λ less. rw less h) (λ more. rw more k)

-- a power of 2 below the 127th is far below it
pub power_most : (exponent : ℕ) → exponent < 127 → 2 ^ exponent ≤ 2 ^ 126
power_most exponent small = pow_mono (let h : exponent ≤ 126 = omega arith in h)
