-- Multiples of whole numbers, and the laws of products that they rest on.
--   by_test               a claim by the two answers of a test
--   sum_times, difference_times, times_times   a product of a sum, of a difference, of three numbers
--   divides_..            multiples: 0, the number itself, sums, differences, products, through a third number, scaled
--   divides_same          a multiple, written otherwise
--   only_zero             a multiple nearer to 0 than the number is 0
use Rattle.std.proofs.Common.{◌≡◌, ℕ, ℤ, pos, negsuc, neg_ℤ, zero, suc, ◌*◌, arith, refl, sym, ap, ◌∙◌, true, false, Bool}
use Rattle.std.specs.Prelude.{◌+ℤ◌, ◌-ℤ◌, ◌*ℤ◌, ◌<ℤ◌}
use Rattle.std.proofs.lemmas.Int.{ints}
use borrow.Author.Differences.{up, down, sum_is_lem, product_is}
use Rattle.whole_numbers.specs.Numbers.{Divides}

-- by the two answers of a test
pub by_test : {A : Type 0} (v : Bool) → (v ≡ true → A) → (v ≡ false → A) → A
by_test true yes_ no_ = yes_ refl
by_test false yes_ no_ = no_ refl

-- The product over sums, and of three numbers.

pub sum_times : (a b c : ℤ) → (a +ℤ b) *ℤ c ≡ (a *ℤ c) +ℤ (b *ℤ c)
sum_times a b c = omega (arith, ints, ap (λ (t : ℕ). t * up c) (sum_is_lem a b), ap (λ (t : ℕ). t * down c) (sum_is_lem a b))

pub difference_times : (a b c : ℤ) → (a -ℤ b) *ℤ c ≡ (a *ℤ c) -ℤ (b *ℤ c)
difference_times a b c = omega (arith, ints, sum_times (a -ℤ b) b c, ap (λ (t : ℤ). t *ℤ c) (let e : (a -ℤ b) +ℤ b ≡ a = omega (arith, ints) in e))

pub times_times : (a b c : ℤ) → (a *ℤ b) *ℤ c ≡ a *ℤ (b *ℤ c)
times_times a b c =
    let p = product_is a b in
    let q = product_is b c in
    omega (
      arith,
      ints,
      ap (λ (t : ℕ). t * up c) p.0,
      ap (λ (t : ℕ). t * down c) p.0,
      ap (λ (t : ℕ). t * up c) p.1,
      ap (λ (t : ℕ). t * down c) p.1,
      ap (λ (t : ℕ). up a * t) q.0,
      ap (λ (t : ℕ). down a * t) q.0,
      ap (λ (t : ℕ). up a * t) q.1,
      ap (λ (t : ℕ). down a * t) q.1,
    )

-- Multiples.

pub divides_zero : (d : ℤ) → Divides d (pos 0)
divides_zero d = record { times = pos 0; is = omega (arith, ints) }

pub divides_itself : (d : ℤ) → Divides d d
divides_itself d = record { times = pos 1; is = omega (arith, ints) }

pub divides_sum : (d x y : ℤ) → Divides d x → Divides d y → Divides d (x +ℤ y)
divides_sum d x y p q = record { times = p.times +ℤ q.times; is = omega (arith, ints, p.is, q.is, sum_times p.times q.times d) }

pub divides_difference : (d x y : ℤ) → Divides d x → Divides d y → Divides d (x -ℤ y)
divides_difference d x y p q = record { times = p.times -ℤ q.times; is = omega (arith, ints, p.is, q.is, difference_times p.times q.times d) }

pub divides_product : (d x y : ℤ) → Divides d x → Divides d (y *ℤ x)
divides_product d x y p = record { times = y *ℤ p.times; is = rw p.is (sym (times_times y p.times d)) }

pub divides_through : (d e x : ℤ) → Divides d e → Divides e x → Divides d x
divides_through d e x p q = record { times = q.times *ℤ p.times; is = q.is ∙ ap (λ (t : ℤ). q.times *ℤ t) p.is ∙ sym (times_times q.times p.times d) }

-- both sides by one factor
pub divides_scaled : (k d x : ℤ) → Divides d x → Divides (d *ℤ k) (x *ℤ k)
divides_scaled k d x p = record { times = p.times; is = ap (λ (t : ℤ). t *ℤ k) p.is ∙ times_times p.times d k }

-- the same multiple, written otherwise
pub divides_same : (d x y : ℤ) → x ≡ y → Divides d x → Divides d y
divides_same d x y e p = record { times = p.times; is = sym e ∙ p.is }

-- a multiple of d that is nearer to 0 than d
nearest : (k : ℤ) (d : ℕ) → (k *ℤ pos d) <ℤ pos d → neg_ℤ (pos d) <ℤ (k *ℤ pos d) → k *ℤ pos d ≡ pos 0
nearest (pos zero) d p q = omega (arith, ints)
nearest (pos (suc k)) d p q = absurd (omega (arith, ints))
nearest (negsuc k) d p q = absurd (omega (arith, ints))

pub only_zero : (d : ℕ) (z : ℤ) → Divides (pos d) z → z <ℤ pos d → neg_ℤ (pos d) <ℤ z → z ≡ pos 0
only_zero d z m p q =
    let p' : (m.times *ℤ pos d) <ℤ pos d = rw (← m.is) p in
    let q' : neg_ℤ (pos d) <ℤ (m.times *ℤ pos d) = rw (← m.is) q in
    m.is ∙ nearest m.times d p' q'
