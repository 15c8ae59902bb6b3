-- Words that are the same, since they stand for numbers that differ by a multiple of 2 to their size.
use Rattle.std.specs.Prelude.{unsigned_abs, nat_lt}
use Rattle.std.specs.Int.{int_rem_euclid}
use lib.IntN.{◌+ℤ◌}
use Rattle.std.proofs.Common.{◌≡◌, ℕ, ℤ, pos, negsuc, ◌+◌, ◌-◌, ◌*◌, ◌^◌, ◌<◌, ◌≤◌, ◌-ℤ◌, ◌*ℤ◌, refl, sym, ap, ◌∙◌, arith}
use Rattle.std.proofs.lemmas.Int.{ints}
use Rattle.std.proofs.lemmas.Nat.{pow_pos, pow-add}
use Rattle.std.proofs.Math.IntN.{*ℤ_comm}
use Rattle.lists.specs.TestLaws.{by_test}
use Rattle.whole_numbers.specs.Numbers.{Divides}
use Rattle.whole_numbers.specs.DivisionLaws.{same_rest, rest_divides}
use Rattle.whole_numbers.specs.MultipleLaws.{divides_through, divides_sum, divides_product, divides_same, difference_times}
use Rattle.alf_ops.specs.TwosComplement.{word, signed}

-- numbers whose difference is a multiple have one word
pub same_word : (size : ℕ) (x y : ℤ) → Divides (pos (2 ^ size)) (x -ℤ y) → word size x ≡ word size y
same_word size x y divides = ap unsigned_abs (same_rest x y (2 ^ size) (pow_pos size) divides)

-- a remainder is no negative number
rest_of : (z d : ℤ) → pos (unsigned_abs (int_rem_euclid z d)) ≡ int_rem_euclid z d
rest_of (pos a) d = refl
rest_of (negsuc a) d = refl

-- the word of a word of a greater size
pub word_of_word : (size more : ℕ) (z : ℤ) → Divides (pos (2 ^ size)) (pos (2 ^ more))
    → word size (pos (word more z)) ≡ word size z
word_of_word size more z wider =
    sym (same_word size z (pos (word more z))
    (divides_same (pos (2 ^ size)) (z -ℤ int_rem_euclid z (pos (2 ^ more))) (z -ℤ pos (word more z)) (ap (λ (r : ℤ). z -ℤ r) (sym (rest_of z (pos (2 ^ more)))))
    (divides_through (pos (2 ^ size)) (pos (2 ^ more)) (z -ℤ int_rem_euclid z (pos (2 ^ more))) wider (rest_divides z (2 ^ more) (pow_pos more)))))

pub of_64 : (z : ℤ) → word 32 (pos (word 64 z)) ≡ word 32 z
of_64 z = word_of_word 32 64 z (record { times = pos 4294967296; is = refl })

-- of a greater size
pub word_cut : (size more : ℕ) (z : ℤ) → size ≤ more → word size (pos (word more z)) ≡ word size z
word_cut size more z wider =
    let sum : more ≡ (more - size) + size = omega arith in
    let power : 2 ^ more ≡ 2 ^ (more - size) * 2 ^ size = ap (λ (n : ℕ). 2 ^ n) sum ∙ pow-add 2 (more - size) size in
    word_of_word size more z (record { times = pos (2 ^ (more - size)); is = ap pos power })

-- a difference as a sum with a complement
pub less_word : (a b : ℕ) → b < 2 ^ 32 → word 32 (pos (a + (2 ^ 32 - 1 - b) + 1)) ≡ word 32 (pos a -ℤ pos b)
less_word a b small =
    same_word 32 (pos (a + (2 ^ 32 - 1 - b) + 1)) (pos a -ℤ pos b) (record { times = pos 1; is = omega (arith, ints) })

-- a word and its signed reading
pub read_divides : (a : ℕ) → Divides (pos (2 ^ 32)) (pos a -ℤ signed 32 a)
read_divides a =
    by_test (nat_lt a (2 ^ 31))
    (λ low. record { times = pos 0; is = rw low (omega (arith, ints)) })
    (λ high. record { times = pos 1; is = rw high (omega (arith, ints)) })

-- a product of words has the word of the product of their readings
pub product_word : (a b : ℕ) → word 32 (pos a *ℤ pos b) ≡ word 32 (signed 32 a *ℤ signed 32 b)
product_word a b =
    let x = signed 32 a in
    let y = signed 32 b in
    let first : pos b *ℤ (pos a -ℤ x) ≡ (pos a *ℤ pos b) -ℤ (x *ℤ pos b) = *ℤ_comm (pos b) (pos a -ℤ x) ∙ difference_times (pos a) x (pos b) in
    let second : x *ℤ (pos b -ℤ y) ≡ (pos b *ℤ x) -ℤ (y *ℤ x) = *ℤ_comm x (pos b -ℤ y) ∙ difference_times (pos b) y x in
    let parts : (pos b *ℤ (pos a -ℤ x)) +ℤ (x *ℤ (pos b -ℤ y)) ≡ (pos a *ℤ pos b) -ℤ (x *ℤ y) =
    omega (arith, ints, first, second, *ℤ_comm (pos b) x, *ℤ_comm y x) in
    same_word 32 (pos a *ℤ pos b) (x *ℤ y)
    (divides_same (pos (2 ^ 32)) ((pos b *ℤ (pos a -ℤ x)) +ℤ (x *ℤ (pos b -ℤ y))) ((pos a *ℤ pos b) -ℤ (x *ℤ y)) parts
    (divides_sum (pos (2 ^ 32)) (pos b *ℤ (pos a -ℤ x)) (x *ℤ (pos b -ℤ y))
    (divides_product (pos (2 ^ 32)) (pos a -ℤ x) (pos b) (read_divides a))
    (divides_product (pos (2 ^ 32)) (pos b -ℤ y) x (read_divides b))))
