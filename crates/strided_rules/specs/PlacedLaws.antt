-- Laws of words of numbers, of norm and of joins.
--   same_word, from_word      numbers that differ by a multiple have one word, and a number differs from its word by one
--   word_itself, word_signed, signed_range   a word reads as itself, unsigned and signed
--   norm_placed, norm_member  what is normed is in normal form, and has the words of the numbers
--   join_placed, join_first, join_second   a join has the words of both sides
--   member_word, member_below, member_other   the number of a member and its word
--   by_distance               numbers that differ by a multiple and are nearer than it are equal
--   one_placed, one_covers, every_placed   values of one word and of every word
use Rattle.std.proofs.Common.{◌≡◌, ℕ, ℤ, pos, neg_ℤ, ◌<◌, ◌≤◌, ◌^◌, arith, refl, sym, ap, ◌∙◌, ◌%◌, true, false, subst}
use Rattle.std.specs.Prelude.{◌+ℤ◌, ◌-ℤ◌, ◌≤ℤ◌, ◌<ℤ◌, int_le, int_lt, unsigned_abs}
use Rattle.std.specs.Int.{int_rem_euclid}
use Rattle.std.proofs.lemmas.Int.{ints}
use Rattle.std.proofs.lemmas.Nat.{pow_pos}
use Rattle.whole_numbers.specs.Numbers.{Divides}
use Rattle.whole_numbers.specs.MultipleLaws.{by_test, divides_same, divides_difference, divides_zero, only_zero}
use Rattle.whole_numbers.specs.DivisionLaws.{rest_range, rest_divides, same_rest}
use Rattle.alf_ops.specs.TwosComplement.{word, signed}
use Rattle.progressions.specs.declared.ends.Progression.{Progression}
use Rattle.progressions.specs.Progressions.{Has, IsProgression, IsPlaced, full, half, lone, hull}
use Rattle.progressions.specs.Images.{moved}
use Rattle.progressions.specs.ProgressionLaws.{halves, is_lone, has_lone, hull_first, hull_second, is_hull}
use Rattle.progressions.specs.PartLaws.{moved_is}
use Rattle.flat_domain.specs.OperatorSizeLaws.{word_below}
use Rattle.domain_core.specs.WordSets.{IsWordSize}
use Rattle.strided_rules.specs.Strides.{IsMember, IsStride, Covers, centered, whole, norm, shorter, join, one_word, every_word}

-- numbers that differ by a multiple have one word
pub same_word : (w : ℕ) (x y : ℤ) → Divides (full w) (x -ℤ y) → word w x ≡ word w y
same_word w x y m = ap unsigned_abs (same_rest x y (2 ^ w) (pow_pos w) m)

-- a number differs from its word by a multiple
pub from_word : (w : ℕ) (x : ℤ) → Divides (full w) (x -ℤ pos (word w x))
from_word w x =
    let r = rest_range x (2 ^ w) (pow_pos w) in
    divides_same (full w) (x -ℤ int_rem_euclid x (full w)) (x -ℤ pos (word w x)) (omega (arith, ints, r.0)) (rest_divides x (2 ^ w) (pow_pos w))

mod_small : (x m : ℕ) → x < m → x % m ≡ x
mod_small x m below = grind arith

-- a word reads as itself, unsigned and signed
pub word_itself : (w t : ℕ) → t < 2 ^ w → word w (pos t) ≡ t
word_itself w t below = mod_small t (2 ^ w) below

pub word_signed : (w t : ℕ) → t < 2 ^ w → word w (signed w t) ≡ t
word_signed w t below = grind (arith, ints, mod_small)

pub signed_range : (w t : ℕ) → 1 ≤ w → t < 2 ^ w → (neg_ℤ (half w) ≤ℤ signed w t) × (signed w t <ℤ half w)
signed_range w t positive below = let two = halves w positive in (grind (arith, ints, two), grind (arith, ints, two))

-- Norm.

pub has_moved : (p : Progression) (d n : ℤ) → Has p n → Has (moved d p) (n +ℤ d)
has_moved p d n h = record {
  least = omega (arith, ints, h.least);
  most = omega (arith, ints, h.most);
  aligned = divides_same p.step (n -ℤ p.lo) ((n +ℤ d) -ℤ (p.lo +ℤ d)) (omega (arith, ints)) h.aligned;
}

-- the number from -half up to half, and that it differs by a multiple
pub centered_range : (w : ℕ) (n : ℤ) → 1 ≤ w → (neg_ℤ (half w) ≤ℤ centered w n) × (centered w n <ℤ half w)
centered_range w n positive =
    let h = halves w positive in
    let r = rest_range (n +ℤ half w) (2 ^ w) (pow_pos w) in
    (omega (arith, ints, r.0), omega (arith, ints, r.1, h.0))

pub centered_same : (w : ℕ) (n : ℤ) → Divides (full w) (n -ℤ centered w n)
centered_same w n = divides_same (full w) ((n +ℤ half w) -ℤ int_rem_euclid (n +ℤ half w) (full w)) (n -ℤ centered w n) (omega (arith, ints)) (rest_divides (n +ℤ half w) (2 ^ w) (pow_pos w))

pub whole_placed : (w : ℕ) → 1 ≤ w → IsPlaced w (whole w)
whole_placed w positive = let h = halves w positive in record {
  progression = record { order = omega (arith, ints, h); rising = omega (arith, ints); aligned = record { times = half w +ℤ half w -ℤ pos 1; is = omega (arith, ints) }; lone = λ e. absurd (omega (arith, ints, h)) };
  low = omega (arith, ints);
  high = omega (arith, ints, h);
  once = omega (arith, ints, h);
}

pub whole_member : (w t : ℕ) → 1 ≤ w → t < 2 ^ w → IsMember w (whole w) t
whole_member w t positive below =
    let r = signed_range w t positive below in
    record {
      number = signed w t;
      has = record { least = r.0; most = omega (arith, ints, r.1); aligned = record { times = signed w t +ℤ half w; is = omega (arith, ints) } };
      word = word_signed w t below;
    }

pub norm_round : (w : ℕ) (p : Progression) → full w ≤ℤ (p.hi -ℤ p.lo) → norm w p ≡ whole w
unfolding norm
norm_round w p round = let e : int_le (full w) (p.hi -ℤ p.lo) ≡ true = sym (omega (arith, ints, round)) in rw e refl

pub norm_once : (w : ℕ) (p : Progression) → (p.hi -ℤ p.lo) <ℤ full w → norm w p ≡ moved (centered w p.lo -ℤ p.lo) p
unfolding norm
norm_once w p once = let e : int_le (full w) (p.hi -ℤ p.lo) ≡ false = sym (omega (arith, ints, once)) in rw e refl

pub norm_placed : (w : ℕ) (p : Progression) → 1 ≤ w → IsProgression p → IsPlaced w (norm w p)
unfolding norm
norm_placed w p positive r = by_test (int_le (full w) (p.hi -ℤ p.lo))
    (λ round. rw round (whole_placed w positive))
    (λ once. rw once (let c = centered_range w p.lo positive in record {
      progression = moved_is (centered w p.lo -ℤ p.lo) p r;
      low = omega (arith, ints, c.0);
      high = omega (arith, ints, c.1);
      once = omega (arith, ints, once);
    }))

-- what p has is covered where p is placed anew
pub norm_member : (w : ℕ) (p : Progression) (n : ℤ) → 1 ≤ w → Has p n → IsMember w (norm w p) (word w n)
unfolding norm
norm_member w p n positive h = by_test (int_le (full w) (p.hi -ℤ p.lo))
    (λ round. rw round (whole_member w (word w n) positive (word_below w n)))
    (λ once. rw once (let by = centered w p.lo -ℤ p.lo in record {
      number = n +ℤ by;
      has = has_moved p by n h;
      word = same_word w (n +ℤ by) n (divides_same (full w) (pos 0 -ℤ (p.lo -ℤ centered w p.lo)) ((n +ℤ by) -ℤ n) (omega (arith, ints))
          (divides_difference (full w) (pos 0) (p.lo -ℤ centered w p.lo) (divides_zero (full w)) (centered_same w p.lo)));
    }))

-- Joins.

-- one of two progressions
pub is_shorter : (P : Progression → Type 0) (p q : Progression) → P p → P q → P (shorter p q)
is_shorter P p q h k = by_test (int_lt (q.hi -ℤ q.lo) (p.hi -ℤ p.lo)) (λ less. rw less k) (λ more. rw more h)

pub join_placed : (w : ℕ) (p q : Progression) → 1 ≤ w → IsProgression p → IsProgression q → IsPlaced w (join w p q)
unfolding join
join_placed w p q positive r s = norm_placed w (shorter (shorter (hull p q) (hull (moved (full w) p) q)) (hull p (moved (full w) q))) positive
    (is_shorter IsProgression (shorter (hull p q) (hull (moved (full w) p) q)) (hull p (moved (full w) q))
    (is_shorter IsProgression (hull p q) (hull (moved (full w) p) q) (is_hull p q r s) (is_hull (moved (full w) p) q (moved_is (full w) p r) s))
    (is_hull p (moved (full w) q) r (moved_is (full w) q s)))

-- a run has the number, or the number moved up
abbrev Reaches : ℕ → ℤ → Progression → Type 0
Reaches w n p = (m : ℤ) × Has p m × Divides (full w) (n -ℤ m)

stays : (w : ℕ) (n : ℤ) (p : Progression) → Has p n → Reaches w n p
stays w n p h = (n, h, divides_same (full w) (pos 0) (n -ℤ n) (omega (arith, ints)) (divides_zero (full w)))

rises : (w : ℕ) (n : ℤ) (p : Progression) → Has p (n +ℤ full w) → Reaches w n p
rises w n p h = (n +ℤ full w, h, record { times = neg_ℤ (pos 1); is = omega (arith, ints) })

norm_reached : (w : ℕ) (p : Progression) (n : ℤ) → 1 ≤ w → Reaches w n p → IsMember w (norm w p) (word w n)
norm_reached w p n positive h = rw (same_word w n h.0 h.2) (norm_member w p h.0 positive h.1)

pub join_first : (w : ℕ) (p q : Progression) (t : ℕ) → 1 ≤ w → IsMember w p t → IsMember w (join w p q) t
unfolding join
join_first w p q t positive m =
    let n = m.number in
    let three = shorter (shorter (hull p q) (hull (moved (full w) p) q)) (hull p (moved (full w) q)) in
    let reached : Reaches w n three = is_shorter (Reaches w n) (shorter (hull p q) (hull (moved (full w) p) q)) (hull p (moved (full w) q))
    (is_shorter (Reaches w n) (hull p q) (hull (moved (full w) p) q) (stays w n (hull p q) (hull_first p q n m.has))
    (rises w n (hull (moved (full w) p) q) (hull_first (moved (full w) p) q (n +ℤ full w) (has_moved p (full w) n m.has))))
    (stays w n (hull p (moved (full w) q)) (hull_first p (moved (full w) q) n m.has)) in
    let P : ℕ → Type 0 = λ u. IsMember w (norm w three) u in
    subst P m.word (norm_reached w three n positive reached)

pub join_second : (w : ℕ) (p q : Progression) (t : ℕ) → 1 ≤ w → IsMember w q t → IsMember w (join w p q) t
unfolding join
join_second w p q t positive m =
    let n = m.number in
    let three = shorter (shorter (hull p q) (hull (moved (full w) p) q)) (hull p (moved (full w) q)) in
    let reached : Reaches w n three = is_shorter (Reaches w n) (shorter (hull p q) (hull (moved (full w) p) q)) (hull p (moved (full w) q))
    (is_shorter (Reaches w n) (hull p q) (hull (moved (full w) p) q) (stays w n (hull p q) (hull_second p q n m.has))
    (stays w n (hull (moved (full w) p) q) (hull_second (moved (full w) p) q n m.has)))
    (rises w n (hull p (moved (full w) q)) (hull_second p (moved (full w) q) (n +ℤ full w) (has_moved q (full w) n m.has))) in
    let P : ℕ → Type 0 = λ u. IsMember w (norm w three) u in
    subst P m.word (norm_reached w three n positive reached)

-- Members.

-- the number of a member differs from its word by a multiple
pub member_word : (w : ℕ) (p : Progression) (t : ℕ) → (m : IsMember w p t) → Divides (full w) (m.number -ℤ pos t)
member_word w p t m = let P : ℕ → Type 0 = λ u. Divides (full w) (m.number -ℤ pos u) in subst P m.word (from_word w m.number)

pub member_below : (w : ℕ) (p : Progression) (t : ℕ) → IsMember w p t → t < 2 ^ w
member_below w p t m = let P : ℕ → Type 0 = λ u. u < 2 ^ w in subst P m.word (word_below w m.number)

-- numbers that differ by a multiple and are nearer than it are equal
pub by_distance : (w : ℕ) (n m : ℤ) → Divides (full w) (n -ℤ m) → (n -ℤ m) <ℤ full w → neg_ℤ (full w) <ℤ (n -ℤ m)
    → n ≡ m
by_distance w n m d below above = let zero_ = only_zero (2 ^ w) (n -ℤ m) d below above in omega (arith, ints, zero_)

-- a number that differs from a word by a multiple makes it a member
pub member_other : (w : ℕ) (p : Progression) (t : ℕ) (n : ℤ) → Has p n → Divides (full w) (n -ℤ pos t) → t < 2 ^ w
    → IsMember w p t
member_other w p t n h d below = record { number = n; has = h; word = same_word w n (pos t) d ∙ word_itself w t below }

-- One word.

pub one_placed : (w t : ℕ) → IsWordSize w → IsStride (one_word w t)
one_placed w t size = record { size = size; placed = norm_placed w (lone (pos t)) size.least (is_lone (pos t)) }

pub one_covers : (w t : ℕ) → 1 ≤ w → t < 2 ^ w → Covers (one_word w t) t
one_covers w t positive below = let P : ℕ → Type 0 = λ u. IsMember w (norm w (lone (pos t))) u in
    subst P (word_itself w t below) (norm_member w (lone (pos t)) (pos t) positive ((has_lone (pos t) (pos t)).1 refl))

pub every_placed : (w : ℕ) → IsWordSize w → IsStride (every_word w)
every_placed w size = record { size = size; placed = whole_placed w size.least }
