-- The rules on values cover the operators on words.
--   Good w x t     x is a value of the size w, and has the word t
--   .._good        of each rule
use Rattle.std.proofs.Common.{◌≡◌, ◌≢◌, ℕ, zero, suc, ℤ, pos, neg_ℤ, Bool, true, false, ◌+◌, ◌-◌, ◌*◌, ◌/◌, ◌%◌, ◌<◌, ◌≤◌, ◌^◌, arith, refl, sym, ap, ◌∙◌, subst, inl, inr, ⊎_elim, Option, Some, None}
use Rattle.std.specs.Prelude.{◌+ℤ◌, ◌-ℤ◌, ◌*ℤ◌, ◌≤ℤ◌, ◌<ℤ◌, ◌&&◌, ◌||◌, ◌==◌, ◌⊎◌, int_le, nat_le, bit_and, if◌then◌else◌}
use Rattle.std.specs.Int.{int_rem_euclid, int_min}
use Rattle.std.proofs.lemmas.Int.{ints, clamps}
use Rattle.std.proofs.lemmas.Nat.{pow_pos, pow-add, and_le_l, and_le_r, and_mask, and_comm, mod_below}
use Rattle.std.proofs.lemmas.Bool.{leb-true, eqb-true, false≢true}
use Rattle.std.proofs.Math.IntN.{*ℤ_comm}
use Rattle.std.proofs.Math.Nat.{div-le_self}
use Rattle.std.proofs.Math.Pow.{pow_mono}
use Rattle.whole_numbers.specs.Numbers.{Divides, gcd}
use Rattle.whole_numbers.specs.MultipleLaws.{by_test, difference_times, divides_same, divides_sum, divides_difference, divides_through, divides_zero, divides_itself}
use Rattle.whole_numbers.specs.DivisionLaws.{rest_tells}
use Rattle.whole_numbers.specs.GcdLaws.{gcd_first, gcd_second}
use Rattle.alf_ops.specs.TwosComplement.{word, signed}
use Rattle.alf_ops.specs.Table.{bit}
use Rattle.domain_core.specs.WordSets.{IsWordSize}
use Rattle.progressions.specs.declared.ends.Progression.{Progression}
use Rattle.progressions.specs.declared.ends.Pieces.{Pieces}
use Rattle.progressions.specs.Progressions.{Has, HasSome, IsProgression, full, half}
use Rattle.progressions.specs.Images.{moved, negated, sums, differences, multiples, quotients}
use Rattle.progressions.specs.Parts.{SomeHas, IsPiece}
use Rattle.progressions.specs.PartLaws.{moved_is}
use Rattle.progressions.specs.ImageLaws.{negated_has, negated_is, sums_has, sums_is, differences_has, differences_is, quotients_has, quotients_is, multiples_has, multiples_is}
use Rattle.strided_rules.specs.Strides.{Stride, IsStride, Covers, norm, one_word, every_word}
use Rattle.strided_rules.specs.Joins.{each, each_pair, settled, SoFar, IfPlaced}
use Rattle.strided_rules.specs.Rules.{span}
use Rattle.strided_rules.specs.Members.{unsigned_of, signed_of, is_one, word_of, has, is_same, unsigned_greatest}
use Rattle.strided_rules.specs.Operators.{unsigned_each, signed_each, unsigned_pair, signed_pair, by_word, neg, complement, with_carry, carried, add, sub, l_shift_by, r_shift_by, z_ext, trunc, select, mask_size, mask_of, masked, conjunction_by, conjunction, at_choice, some_second, some_choice, truth, below, at_most, less, less_or_equal, agree, meet, may_equal, may_differ, choice}
use Rattle.strided_rules.specs.PlacedLaws.{same_word, word_itself, whole_member, norm_placed, norm_member, join_placed, join_first, join_second, has_moved, member_word, member_below, one_placed, one_covers, every_placed}
use Rattle.strided_rules.specs.JoinLaws.{added_keeps, added_comes, added_placed, each_has, each_placed, each_pair_has, each_pair_placed, settled_covers, settled_is}
use Rattle.strided_rules.specs.RuleLaws.{span_has, span_is}
use Rattle.strided_rules.specs.MemberLaws.{unsigned_some, signed_some, of_unsigned, of_signed, both, or_left, or_right, and_both, has_tells, one_word_alone, greatest_above}

pub record Good (w : ℕ) (x : Stride) (t : ℕ) : Type 0 where
  pub kept : IsStride x
  pub size : x.size ≡ w
  pub covers : Covers x t

-- ---- values that are put together

settled_size : (w : ℕ) (o : Option Progression) → (settled w o).size ≡ w
settled_size w None = refl
settled_size w (Some p) = refl

settled_good : (w t : ℕ) (o : Option Progression) → IsWordSize w → IfPlaced w o → SoFar w o t → Good w (settled w o) t
settled_good w t o size placed m = record { kept = settled_is w o size placed; size = settled_size w o; covers = settled_covers w t o m }

-- another name of the word
pub good_as : (w : ℕ) (x : Stride) (t u : ℕ) → t ≡ u → Good w x t → Good w x u
good_as w x t u e g = record { kept = g.kept; size = g.size; covers = subst (Covers x) e g.covers }

pub norm_good : (w : ℕ) (p : Progression) (n : ℤ) → IsWordSize w → IsProgression p → Has p n
    → Good w (record { size = w; numbers = norm w p }) (word w n)
norm_good w p n size is h = record { kept = record { size = size; placed = norm_placed w p size.least is }; size = refl; covers = norm_member w p n size.least h }

pub one_good : (w t : ℕ) → IsWordSize w → t < 2 ^ w → Good w (one_word w t) t
one_good w t size small = record { kept = one_placed w t size; size = refl; covers = one_covers w t size.least small }

pub every_good : (w t : ℕ) → IsWordSize w → t < 2 ^ w → Good w (every_word w) t
every_good w t size small = record { kept = every_placed w size; size = refl; covers = whole_member w t size.least small }

abbrev IsUnsigned : Stride → Progression → Type 0
IsUnsigned a p = IsPiece (pos 0) (full a.size -ℤ pos 1) p

abbrev IsSigned : Stride → Progression → Type 0
IsSigned a p = IsPiece (neg_ℤ (half a.size)) (half a.size -ℤ pos 1) p

pub unsigned_good : (w : ℕ) (rule : Progression → Progression) (a : Stride) (x : ℕ) (r : ℤ) → IsWordSize w → IsStride a
    → Covers a x
    → ((p : Progression) → IsUnsigned a p → IsProgression (rule p)) → ((p : Progression) → IsUnsigned a p → Has p (pos x) → Has (rule p) r) → Good w (unsigned_each w rule a) (word w r)
unsigned_good w rule a x r size s h is one = settled_good w (word w r) (each w rule (unsigned_of a)) size
    (each_placed w rule (pos 0) (full a.size -ℤ pos 1) (unsigned_of a) size.least (of_unsigned a s) is)
    (each_has w rule (pos 0) (full a.size -ℤ pos 1) (unsigned_of a) (pos x) r size.least (of_unsigned a s) (unsigned_some a x s h) one)

pub signed_good : (w : ℕ) (rule : Progression → Progression) (a : Stride) (x : ℕ) (r : ℤ) → IsWordSize w → IsStride a
    → Covers a x
    → ((p : Progression) → IsSigned a p → IsProgression (rule p)) → ((p : Progression) → IsSigned a p → Has p (signed a.size x) → Has (rule p) r) → Good w (signed_each w rule a) (word w r)
signed_good w rule a x r size s h is one = settled_good w (word w r) (each w rule (signed_of a)) size
    (each_placed w rule (neg_ℤ (half a.size)) (half a.size -ℤ pos 1) (signed_of a) size.least (of_signed a s) is)
    (each_has w rule (neg_ℤ (half a.size)) (half a.size -ℤ pos 1) (signed_of a) (signed a.size x) r size.least (of_signed a s) (signed_some a x s h) one)

pub unsigned_pair_good : (w : ℕ) (rule : Progression → Progression → Progression) (a b : Stride) (x y : ℕ) (r : ℤ)
    → IsWordSize w → IsStride a → IsStride b → Covers a x → Covers b y
    → ((p q : Progression) → IsUnsigned a p → IsUnsigned b q → IsProgression (rule p q))
    → ((p q : Progression) → IsUnsigned a p → IsUnsigned b q → Has p (pos x) → Has q (pos y) → Has (rule p q) r) → Good w (unsigned_pair w rule a b) (word w r)
unsigned_pair_good w rule a b x y r size s t h k is one = settled_good w (word w r) (each_pair w rule (unsigned_of a) (unsigned_of b)) size
    (each_pair_placed w rule (pos 0) (full a.size -ℤ pos 1) (pos 0) (full b.size -ℤ pos 1) (unsigned_of a) (unsigned_of b) size.least (of_unsigned a s) (of_unsigned b t) is)
    (each_pair_has w rule (pos 0) (full a.size -ℤ pos 1) (pos 0) (full b.size -ℤ pos 1) (unsigned_of a) (unsigned_of b) (pos x) (pos y) r size.least
    (of_unsigned a s) (unsigned_some a x s h) (of_unsigned b t) (unsigned_some b y t k) one)

pub signed_pair_good : (w : ℕ) (rule : Progression → Progression → Progression) (a b : Stride) (x y : ℕ) (r : ℤ)
    → IsWordSize w → IsStride a → IsStride b → Covers a x → Covers b y
    → ((p q : Progression) → IsSigned a p → IsSigned b q → IsProgression (rule p q))
    → ((p q : Progression) → IsSigned a p → IsSigned b q → Has p (signed a.size x) → Has q (signed b.size y) → Has (rule p q) r) → Good w (signed_pair w rule a b) (word w r)
signed_pair_good w rule a b x y r size s t h k is one = settled_good w (word w r) (each_pair w rule (signed_of a) (signed_of b)) size
    (each_pair_placed w rule (neg_ℤ (half a.size)) (half a.size -ℤ pos 1) (neg_ℤ (half b.size)) (half b.size -ℤ pos 1) (signed_of a) (signed_of b) size.least (of_signed a s) (of_signed b t) is)
    (each_pair_has w rule (neg_ℤ (half a.size)) (half a.size -ℤ pos 1) (neg_ℤ (half b.size)) (half b.size -ℤ pos 1) (signed_of a) (signed_of b) (signed a.size x) (signed b.size y) r size.least
    (of_signed a s) (signed_some a x s h) (of_signed b t) (signed_some b y t k) one)

-- where the second operand is one word
pub by_word_good : (b : Stride) (y w t : ℕ) (f : ℕ → Stride) → IsWordSize w → t < 2 ^ w → Covers b y → Good w (f y) t
    → Good w (by_word b w f) t
by_word_good b y w t f size small h g = by_test (is_one b)
    (λ one. rw one (subst (λ (u : ℕ). Good w (f u) t) (one_word_alone b y one h) g))
    (λ more. rw more (every_good w t size small))

-- ---- sums

pub neg_good : (a : Stride) (x : ℕ) → IsStride a → Covers a x → Good a.size (neg a) (word a.size (neg_ℤ (pos x)))
neg_good a x s h =
    let w = a.size in
    let n = h.number in
    let e : word w (neg_ℤ n) ≡ word w (neg_ℤ (pos x)) = same_word w (neg_ℤ n) (neg_ℤ (pos x)) (divides_same (full w) (pos 0 -ℤ (n -ℤ pos x)) (neg_ℤ n -ℤ neg_ℤ (pos x)) (omega (arith, ints))
    (divides_difference (full w) (pos 0) (n -ℤ pos x) (divides_zero (full w)) (member_word w a.numbers x h))) in
    good_as w (neg a) (word w (neg_ℤ n)) (word w (neg_ℤ (pos x))) e
    (norm_good w (negated a.numbers) (neg_ℤ n) s.size (negated_is a.numbers s.placed.progression)
    ((negated_has a.numbers (neg_ℤ n) s.placed.progression).1 (subst (Has a.numbers) (let f : n ≡ neg_ℤ (neg_ℤ n) = omega (arith, ints) in f) h.has)))

pub complement_good : (a : Stride) (x : ℕ) → IsStride a → Covers a x
    → Good a.size (complement a) (word a.size (pos (2 ^ a.size - 1 - x)))
complement_good a x s h =
    let w = a.size in
    let n = h.number in
    let small = member_below w a.numbers x h in
    let r = neg_ℤ n +ℤ neg_ℤ (pos 1) in
    let e : word w r ≡ word w (pos (2 ^ w - 1 - x)) = same_word w r (pos (2 ^ w - 1 - x)) (divides_same (full w) (pos 0 -ℤ ((n -ℤ pos x) +ℤ full w)) (r -ℤ pos (2 ^ w - 1 - x)) (omega (arith, ints, small))
    (divides_difference (full w) (pos 0) ((n -ℤ pos x) +ℤ full w) (divides_zero (full w)) (divides_sum (full w) (n -ℤ pos x) (full w) (member_word w a.numbers x h) (divides_itself (full w))))) in
    good_as w (complement a) (word w r) (word w (pos (2 ^ w - 1 - x))) e
    (norm_good w (moved (neg_ℤ (pos 1)) (negated a.numbers)) r s.size (moved_is (neg_ℤ (pos 1)) (negated a.numbers) (negated_is a.numbers s.placed.progression))
    (has_moved (negated a.numbers) (neg_ℤ (pos 1)) (neg_ℤ n)
    ((negated_has a.numbers (neg_ℤ n) s.placed.progression).1 (subst (Has a.numbers) (let f : n ≡ neg_ℤ (neg_ℤ n) = omega (arith, ints) in f) h.has))))

carry_placed : (w : ℕ) (c : Stride) (sum : ℤ → Progression) (t : ℕ) (o : Option Progression) → 1 ≤ w
    → IsProgression (sum (pos t)) → IfPlaced w o → IfPlaced w (with_carry w c sum t o)
carry_placed w c sum t o positive is placed = by_test (has c t) (λ e. rw e (added_placed w (sum (pos t)) o positive is placed)) (λ e. rw e placed)

carry_keeps : (w : ℕ) (c : Stride) (sum : ℤ → Progression) (t u : ℕ) (o : Option Progression) → 1 ≤ w → SoFar w o u
    → SoFar w (with_carry w c sum t o) u
carry_keeps w c sum t u o positive m = by_test (has c t) (λ e. rw e (added_keeps w u (sum (pos t)) o positive m)) (λ e. rw e m)

carry_comes : (w : ℕ) (c : Stride) (sum : ℤ → Progression) (t : ℕ) (o : Option Progression) (r : ℤ) → 1 ≤ w
    → has c t ≡ true → Has (sum (pos t)) r → SoFar w (with_carry w c sum t o) (word w r)
carry_comes w c sum t o r positive e h = rw e (added_comes w r (sum (pos t)) o positive h)

carry_some : (w : ℕ) (c : Stride) (sum : ℤ → Progression) (z : ℕ) (r : ℤ) → 1 ≤ w → IsStride c → Covers c z → z < 2
    → Has (sum (pos z)) r
    → SoFar w (with_carry w c sum 1 (with_carry w c sum 0 None)) (word w r)
carry_some w c sum zero r positive s h small there =
    carry_keeps w c sum 1 (word w r) (with_carry w c sum 0 None) positive (carry_comes w c sum 0 None r positive ((has_tells c 0 s).1 h) there)
carry_some w c sum (suc zero) r positive s h small there = carry_comes w c sum 1 (with_carry w c sum 0 None) r positive ((has_tells c 1 s).1 h) there
carry_some w c sum (suc (suc z)) r positive s h small there = absurd (omega (arith, small))

carried_good : (w : ℕ) (c : Stride) (sum : ℤ → Progression) (z : ℕ) (r : ℤ) → IsWordSize w → IsStride c → Covers c z
    → z < 2 → ((t : ℕ) → IsProgression (sum (pos t))) → Has (sum (pos z)) r
    → Good w (carried w c sum) (word w r)
carried_good w c sum z r size s h small is there = settled_good w (word w r) (with_carry w c sum 1 (with_carry w c sum 0 None)) size
    (carry_placed w c sum 1 (with_carry w c sum 0 None) size.least (is 1) (carry_placed w c sum 0 None size.least (is 0) tt))
    (carry_some w c sum z r size.least s h small there)

pub add_good : (a b c : Stride) (x y z : ℕ) → IsStride a → IsStride b → IsStride c → a.size ≡ b.size → z < 2
    → Covers a x → Covers b y → Covers c z → Good a.size (add a b c) (word a.size (pos (x + y + z)))
add_good a b c x y z s t u same small h k l =
    let w = a.size in
    let n = h.number in
    let m = k.number in
    let r = (n +ℤ m) +ℤ pos z in
    let i = member_word w a.numbers x h in
    let j : Divides (full w) (m -ℤ pos y) = rw same (member_word b.size b.numbers y k) in
    let e : word w r ≡ word w (pos (x + y + z)) = same_word w r (pos (x + y + z)) (divides_same (full w) ((n -ℤ pos x) +ℤ (m -ℤ pos y)) (r -ℤ pos (x + y + z)) (omega (arith, ints)) (divides_sum (full w) (n -ℤ pos x) (m -ℤ pos y) i j)) in
    good_as w (add a b c) (word w r) (word w (pos (x + y + z))) e
    (carried_good w c (λ v. moved v (sums a.numbers b.numbers)) z r s.size u l small
    (λ v. moved_is (pos v) (sums a.numbers b.numbers) (sums_is a.numbers b.numbers s.placed.progression t.placed.progression))
    (has_moved (sums a.numbers b.numbers) (pos z) (n +ℤ m) (sums_has a.numbers b.numbers n m h.has k.has)))

pub sub_good : (a b c : Stride) (x y z : ℕ) → IsStride a → IsStride b → IsStride c → a.size ≡ b.size → z < 2
    → Covers a x → Covers b y → Covers c z → Good a.size (sub a b c) (word a.size (pos (x + (2 ^ a.size - 1 - y) + z)))
sub_good a b c x y z s t u same small h k l =
    let w = a.size in
    let n = h.number in
    let m = k.number in
    let r = (n -ℤ m) +ℤ (pos z -ℤ pos 1) in
    let i = member_word w a.numbers x h in
    let j : Divides (full w) (m -ℤ pos y) = rw same (member_word b.size b.numbers y k) in
    let fits : y < 2 ^ w = rw same (member_below b.size b.numbers y k) in
    let value = pos (x + (2 ^ w - 1 - y) + z) in
    let e : word w r ≡ word w value = same_word w r value (divides_same (full w) (((n -ℤ pos x) -ℤ (m -ℤ pos y)) -ℤ full w) (r -ℤ value) (omega (arith, ints, fits))
    (divides_difference (full w) ((n -ℤ pos x) -ℤ (m -ℤ pos y)) (full w) (divides_difference (full w) (n -ℤ pos x) (m -ℤ pos y) i j) (divides_itself (full w)))) in
    good_as w (sub a b c) (word w r) (word w value) e
    (carried_good w c (λ v. moved (v -ℤ pos 1) (differences a.numbers b.numbers)) z r s.size u l small
    (λ v. moved_is (pos v -ℤ pos 1) (differences a.numbers b.numbers) (differences_is a.numbers b.numbers s.placed.progression t.placed.progression))
    (has_moved (differences a.numbers b.numbers) (pos z -ℤ pos 1) (n -ℤ m) (differences_has a.numbers b.numbers n m t.placed.progression h.has k.has)))

-- ---- sizes

-- a multiple of a power is one of each lesser power
lesser_power : (n w : ℕ) → n ≤ w → Divides (full n) (full w)
lesser_power n w most = record { times = pos (2 ^ (w - n)); is = ap pos (ap (λ (k : ℕ). 2 ^ k) (let e : w ≡ w - n + n = omega (arith, most) in e) ∙ pow-add 2 (w - n) n) }

pub trunc_good : (n : ℕ) (a : Stride) (x : ℕ) → IsWordSize n → n ≤ a.size → IsStride a → Covers a x
    → Good n (trunc n a) (word n (pos x))
trunc_good n a x size most s h =
    let k = h.number in
    good_as n (trunc n a) (word n k) (word n (pos x)) (same_word n k (pos x) (divides_through (full n) (full a.size) (k -ℤ pos x) (lesser_power n a.size most) (member_word a.size a.numbers x h)))
    (norm_good n a.numbers k size s.placed.progression h.has)

pub z_ext_good : (n : ℕ) (a : Stride) (x : ℕ) → IsWordSize n → IsStride a → Covers a x
    → Good n (z_ext n a) (word n (pos x))
z_ext_good n a x size s h = unsigned_good n (λ p. p) a x (pos x) size s h (λ p piece. piece.progression) (λ p piece i. i)

pub r_shift_good : (a : Stride) (x k : ℕ) → IsStride a → Covers a x
    → Good a.size (r_shift_by a k) (word a.size (pos (x / 2 ^ k)))
r_shift_good a x k s h = unsigned_good a.size (quotients (full k)) a x (pos (x / 2 ^ k)) s.size s h
    (λ p piece. quotients_is (2 ^ k) p (pow_pos k) piece.progression) (λ p piece i. quotients_has (2 ^ k) p (pos x) (pow_pos k) i)

pub select_good : (low high : ℕ) (a : Stride) (x : ℕ) → low ≤ high → high < a.size → IsStride a → Covers a x
    → Good (high - low + 1) (select low high a) (word (high - low + 1) (pos (x / 2 ^ low)))
select_good low high a x order within s h =
    let g = r_shift_good a x low s h in
    let small : x / 2 ^ low < 2 ^ a.size = omega (arith, div-le_self x (2 ^ low), member_below a.size a.numbers x h) in
    let e : word a.size (pos (x / 2 ^ low)) ≡ x / 2 ^ low = word_itself a.size (x / 2 ^ low) small in
    let n = high - low + 1 in
    let size : IsWordSize n = record { least = omega arith; most = omega (arith, within, s.size.most) } in
    good_as n (select low high a) (word n (pos (word a.size (pos (x / 2 ^ low))))) (word n (pos (x / 2 ^ low))) (ap (λ (u : ℕ). word n (pos u)) e)
    (trunc_good n (r_shift_by a low) (word a.size (pos (x / 2 ^ low))) size (rw g.size (omega (arith, within))) g.kept g.covers)

-- ---- shifts to higher places

-- what is shifted past the size is 0
past : (w k x : ℕ) → w ≤ k → word w (pos (x * 2 ^ k)) ≡ 0
past w k x high =
    let e : 2 ^ k ≡ 2 ^ (k - w) * 2 ^ w = ap (λ (n : ℕ). 2 ^ n) (let f : k ≡ k - w + w = omega (arith, high) in f) ∙ pow-add 2 (k - w) w in
    let d : Divides (full w) (pos (x * 2 ^ k) -ℤ pos 0) = record { times = pos (x * 2 ^ (k - w)); is = omega (arith, ints, ap (λ (n : ℕ). x * n) e) } in
    same_word w (pos (x * 2 ^ k)) (pos 0) d ∙ word_itself w 0 (pow_pos w)

pub l_shift_good : (a : Stride) (x k : ℕ) → IsStride a → Covers a x
    → Good a.size (l_shift_by a k) (word a.size (pos (x * 2 ^ k)))
l_shift_good a x k s h = by_test (nat_le a.size k)
    (λ out. rw out (good_as a.size (one_word a.size 0) 0 (word a.size (pos (x * 2 ^ k))) (sym (past a.size k x (leb-true a.size k out))) (one_good a.size 0 s.size (pow_pos a.size))))
    (λ within. rw within (let w = a.size in
    let n = h.number in
    let apart : Divides (full w) ((n -ℤ pos x) *ℤ full k) = divides_through (full w) (n -ℤ pos x) ((n -ℤ pos x) *ℤ full k) (member_word w a.numbers x h) (record { times = full k; is = *ℤ_comm (n -ℤ pos x) (full k) }) in
    let same : word w (n *ℤ full k) ≡ word w (pos (x * 2 ^ k)) = same_word w (n *ℤ full k) (pos (x * 2 ^ k))
    (divides_same (full w) ((n -ℤ pos x) *ℤ full k) ((n *ℤ full k) -ℤ pos (x * 2 ^ k)) (difference_times n (pos x) (full k)) apart) in
    good_as w (record { size = w; numbers = norm w (multiples (full k) a.numbers) }) (word w (n *ℤ full k)) (word w (pos (x * 2 ^ k))) same
    (norm_good w (multiples (full k) a.numbers) (n *ℤ full k) s.size (multiples_is (2 ^ k) a.numbers s.placed.progression) (multiples_has (2 ^ k) a.numbers n h.has))))

-- ---- conjunction

mask_tells : (w x k : ℕ) → mask_size w x ≡ Some k → (x + 1 ≡ 2 ^ k) × (k ≤ w)
mask_tells zero x k e = by_test (x == 0)
    (λ t. let f : Some 0 ≡ (let o : Option ℕ = Some k in o) = rw t at e in let g : 0 ≡ k = cc in rw (← g) (omega (arith, eqb-true x 0 t), omega arith))
    (λ t. let f : None ≡ (let o : Option ℕ = Some k in o) = rw t at e in cc)
mask_tells (suc w) x k e = by_test (x + 1 == 2 ^ suc w)
    (λ t. let f : Some (suc w) ≡ (let o : Option ℕ = Some k in o) = rw t at e in let g : suc w ≡ k = cc in rw (← g) (eqb-true (x + 1) (2 ^ suc w) t, omega arith))
    (λ t. let m = mask_tells w x k (rw t at e) in (m.0, omega (arith, m.1)))

pub masked_good : (k : ℕ) (a : Stride) (x : ℕ) → k ≤ a.size → IsStride a → Covers a x
    → Good a.size (masked k a) (x % 2 ^ k)
masked_good k a x most s h =
    let w = a.size in
    let small = member_below w a.numbers x h in
    by_test (k == 0)
    (λ none. rw none (good_as w (one_word w 0) 0 (x % 2 ^ k) (let e : k ≡ 0 = eqb-true k 0 none in rw e (omega arith)) (one_good w 0 s.size (pow_pos w))))
    (λ some. rw some (by_test (k == w)
    (λ all. rw all (good_as w a x (x % 2 ^ k) (let e : k ≡ w = eqb-true k w all in rw e (sym (word_itself w x small))) (record { kept = s; size = refl; covers = h })))
    (λ part. rw part (let size : IsWordSize k = record { least = omega (arith, some_one k some); most = omega (arith, most, s.size.most) } in
    let g = trunc_good k a x size most s h in
    let narrow : x % 2 ^ k < 2 ^ w = omega (arith, mod_below x (2 ^ k) (pow_pos k), let p : 2 ^ k ≤ 2 ^ w = pow_mono most in p) in
    good_as w (z_ext w (trunc k a)) (word w (pos (x % 2 ^ k))) (x % 2 ^ k) (word_itself w (x % 2 ^ k) narrow) (z_ext_good w (trunc k a) (x % 2 ^ k) s.size g.kept g.covers)))))
  where
    some_one : (j : ℕ) → (j == 0) ≡ false → 1 ≤ j
    some_one zero e = absurd (false≢true (sym e))
    some_one (suc j) e = omega arith

-- the conjunction with a mask
mask_of_word : (a : Stride) (x k : ℕ) → Covers a x → mask_of a ≡ Some k → (x ≡ 2 ^ k - 1) × (k ≤ a.size)
mask_of_word a x k h e = by_test (is_one a)
    (λ one. let f : mask_size a.size (word_of a) ≡ Some k = rw one at e in
    let m = mask_tells a.size (word_of a) k f in (omega (arith, one_word_alone a x one h, m.0), m.1))
    (λ more. let f : None ≡ (let o : Option ℕ = Some k in o) = rw more at e in cc)

conjunction_at : (m n : Option ℕ) (a b : Stride) (x y : ℕ) → mask_of a ≡ m → mask_of b ≡ n → IsStride a → IsStride b
    → a.size ≡ b.size → Covers a x → Covers b y → Good a.size (conjunction_by m n a b) (bit_and x y)
conjunction_at (Some k) n a b x y e f s t same h l =
    let m = mask_of_word a x k h e in
    good_as a.size (masked k b) (y % 2 ^ k) (bit_and x y) (let c : bit_and x y ≡ y % 2 ^ k = rw m.0 (and_comm (2 ^ k - 1) y ∙ and_mask y k) in sym c)
    (rw same (masked_good k b y (omega (arith, m.1, same)) t l))
conjunction_at None (Some k) a b x y e f s t same h l =
    let m = mask_of_word b y k l f in
    good_as a.size (masked k a) (x % 2 ^ k) (bit_and x y) (let c : bit_and x y ≡ x % 2 ^ k = rw m.0 (and_mask x k) in sym c) (masked_good k a x (omega (arith, m.1, same)) s h)
conjunction_at None None a b x y e f s t same h l =
    let w = a.size in
    let top = int_min (unsigned_greatest a) (unsigned_greatest b) in
    let above_x = greatest_above (pos 0) (pos x) (unsigned_of a) (unsigned_some a x s h) in
    let above_y = greatest_above (pos 0) (pos y) (unsigned_of b) (unsigned_some b y t l) in
    let most : pos (bit_and x y) ≤ℤ top = omega (arith, ints, clamps, above_x, above_y, and_le_l x y, and_le_r x y) in
    let small : bit_and x y < 2 ^ w = omega (arith, and_le_l x y, member_below w a.numbers x h) in
    good_as w (record { size = w; numbers = norm w (span (pos 0) top) }) (word w (pos (bit_and x y))) (bit_and x y) (word_itself w (bit_and x y) small)
    (norm_good w (span (pos 0) top) (pos (bit_and x y)) s.size (span_is (pos 0) top (omega (arith, ints, most))) (span_has (pos 0) top (pos (bit_and x y)) (omega (arith, ints)) most))

pub conjunction_good : (a b : Stride) (x y : ℕ) → IsStride a → IsStride b → a.size ≡ b.size → Covers a x → Covers b y
    → Good a.size (conjunction a b) (word a.size (pos (bit_and x y)))
conjunction_good a b x y s t same h l =
    let small : bit_and x y < 2 ^ a.size = omega (arith, and_le_l x y, member_below a.size a.numbers x h) in
    good_as a.size (conjunction a b) (bit_and x y) (word a.size (pos (bit_and x y))) (sym (word_itself a.size (bit_and x y) small))
    (conjunction_at (mask_of a) (mask_of b) a b x y refl refl s t same h l)

-- ---- comparisons

-- a test that holds of each two progressions with the numbers holds of some choice
abbrev Passes : (Progression → Progression → Bool) → ℤ → ℤ → Type 0
Passes test n m = (p q : Progression) → Has p n → Has q m → test p q ≡ true

choice_has : (test : Progression → Progression → Bool) (n m : ℤ) (p q : Option Progression) → Passes test n m
    → HasSome p n → HasSome q m → at_choice test p q ≡ true
choice_has test n m None q one h k = absurd h
choice_has test n m (Some p) None one h k = absurd k
choice_has test n m (Some p) (Some q) one h k = one p q h k

three : (P Q R : Bool) → ((P ≡ true) ⊎ ((Q ≡ true) ⊎ (R ≡ true))) → (P || (Q || R)) ≡ true
three P Q R some = ⊎_elim (λ (e : P ≡ true). or_left P (Q || R) e)
    (λ more. ⊎_elim (λ (e : Q ≡ true). or_right P (Q || R) (or_left Q R e)) (λ (e : R ≡ true). or_right P (Q || R) (or_right Q R e)) more) some

second_has : (test : Progression → Progression → Bool) (n m : ℤ) (p : Option Progression) (b : Pieces) → Passes test n m
    → HasSome p n → SomeHas b m → some_second test p b ≡ true
second_has test n m p b one h k = three (at_choice test p b.first) (at_choice test p b.second) (at_choice test p b.third)
    (⊎_elim (λ (j : HasSome b.first m). inl (choice_has test n m p b.first one h j))
    (λ more. ⊎_elim (λ (j : HasSome b.second m). inr (inl (choice_has test n m p b.second one h j))) (λ (j : HasSome b.third m). inr (inr (choice_has test n m p b.third one h j))) more) k)

pub some_choice_has : (test : Progression → Progression → Bool) (n m : ℤ) (a b : Pieces) → Passes test n m → SomeHas a n
    → SomeHas b m → some_choice test a b ≡ true
some_choice_has test n m a b one h k = three (some_second test a.first b) (some_second test a.second b) (some_second test a.third b)
    (⊎_elim (λ (j : HasSome a.first n). inl (second_has test n m a.first b one j k))
    (λ more. ⊎_elim (λ (j : HasSome a.second n). inr (inl (second_has test n m a.second b one j k))) (λ (j : HasSome a.third n). inr (inr (second_has test n m a.third b one j k))) more) h)

one_bit : IsWordSize 1
one_bit = record { least = omega arith; most = omega arith }

pub truth_good : (holds fails v : Bool) → (v ≡ true → holds ≡ true) → (v ≡ false → fails ≡ true)
    → Good 1 (truth holds fails) (word 1 (bit v))
truth_good true true true p q = every_good 1 1 one_bit (omega arith)
truth_good true true false p q = every_good 1 0 one_bit (omega arith)
truth_good true false true p q = one_good 1 1 one_bit (omega arith)
truth_good true false false p q = absurd (false≢true (q refl))
truth_good false fails true p q = absurd (false≢true (p refl))
truth_good false true false p q = one_good 1 0 one_bit (omega arith)
truth_good false false false p q = absurd (false≢true (q refl))

pub less_good : (P Q : Pieces) (n m : ℤ) (v : Bool) → SomeHas P n → SomeHas Q m → (v ≡ true → n <ℤ m)
    → (v ≡ false → m ≤ℤ n) → Good 1 (less P Q) (word 1 (bit v))
less_good P Q n m v h k holds fails = truth_good (some_choice below P Q) (some_choice at_most Q P) v
    (λ e. some_choice_has below n m P Q (λ p q i j. sym (omega (arith, ints, holds e, i.least, j.most))) h k)
    (λ e. some_choice_has at_most m n Q P (λ q p j i. sym (omega (arith, ints, fails e, i.most, j.least))) k h)

pub less_or_equal_good : (P Q : Pieces) (n m : ℤ) (v : Bool) → SomeHas P n → SomeHas Q m → (v ≡ true → n ≤ℤ m)
    → (v ≡ false → m <ℤ n) → Good 1 (less_or_equal P Q) (word 1 (bit v))
less_or_equal_good P Q n m v h k holds fails = truth_good (some_choice at_most P Q) (some_choice below Q P) v
    (λ e. some_choice_has at_most n m P Q (λ p q i j. sym (omega (arith, ints, holds e, i.least, j.most))) h k)
    (λ e. some_choice_has below m n Q P (λ q p j i. sym (omega (arith, ints, fails e, i.most, j.least))) k h)

-- two progressions with one and the same number meet
same_zero : (z : ℤ) → z ≡ pos 0 → is_same z (pos 0) ≡ true
same_zero z e = and_both (int_le z (pos 0)) (int_le (pos 0) z) (sym (omega (arith, ints, e))) (sym (omega (arith, ints, e)))

agree_where : (g d : ℤ) → pos 0 ≤ℤ g → Divides g d → agree g d ≡ true
agree_where g d rising m = by_test (int_le g (pos 0))
    (λ e. rw e (same_zero d (let z : g ≡ pos 0 = omega (arith, ints, e, rising) in let f : d ≡ m.times *ℤ pos 0 = rw z at m.is in omega (arith, ints, f))))
    (λ e. rw e (same_zero (int_rem_euclid d g) ((rest_tells d g (omega (arith, ints, e))).0 m)))

meet_has : (n : ℤ) → Passes meet n n
meet_has n p q h k =
    let g = gcd p.step q.step in
    let a = divides_through g p.step (n -ℤ p.lo) (gcd_first p.step q.step) h.aligned in
    let b = divides_through g q.step (n -ℤ q.lo) (gcd_second p.step q.step) k.aligned in
    let d : Divides g (p.lo -ℤ q.lo) = divides_same g ((n -ℤ q.lo) -ℤ (n -ℤ p.lo)) (p.lo -ℤ q.lo) (omega (arith, ints)) (divides_difference g (n -ℤ q.lo) (n -ℤ p.lo) b a) in
    and_both (int_le p.lo q.hi) _ (sym (omega (arith, ints, h.least, k.most)))
    (and_both (int_le q.lo p.hi) _ (sym (omega (arith, ints, k.least, h.most))) (agree_where g (p.lo -ℤ q.lo) (omega (arith, ints)) d))

pub equal_where : (a b : Stride) (x : ℕ) → IsStride a → IsStride b → Covers a x → Covers b x → may_equal a b ≡ true
equal_where a b x s t h k = some_choice_has meet (pos x) (pos x) (unsigned_of a) (unsigned_of b) (meet_has (pos x)) (unsigned_some a x s h) (unsigned_some b x t k)

pub differ_where : (a b : Stride) (x y : ℕ) → Covers a x → Covers b y → x ≢ y → may_differ a b ≡ true
differ_where a b x y h k other = by_test (is_one a && (is_one b && (word_of a == word_of b)))
    (λ e. let p = both (is_one a) _ e in
    let q = both (is_one b) _ p.1 in
    absurd (other (one_word_alone a x p.0 h ∙ eqb-true (word_of a) (word_of b) q.1 ∙ sym (one_word_alone b y q.0 k))))
    (λ e. rw e refl)

-- ---- choice

pub choice_good : (c a b : Stride) (z x y : ℕ) → IsStride c → IsStride a → IsStride b → a.size ≡ b.size → z < 2
    → Covers c z → Covers a x → Covers b y
    → Good a.size (choice c a b) (if z == 1 then x else y)
choice_good c a b (suc zero) x y u s t same small l h k = rw ((has_tells c 1 u).1 l) (by_test (has c 0)
    (λ e. rw e (record {
      kept = record { size = s.size; placed = join_placed a.size a.numbers b.numbers s.size.least s.placed.progression t.placed.progression };
      size = refl;
      covers = join_first a.size a.numbers b.numbers x s.size.least h;
    }))
    (λ e. rw e (record { kept = s; size = refl; covers = h })))
choice_good c a b zero x y u s t same small l h k = by_test (has c 1)
    (λ e. rw (e, (has_tells c 0 u).1 l) (record {
      kept = record { size = s.size; placed = join_placed a.size a.numbers b.numbers s.size.least s.placed.progression t.placed.progression };
      size = refl;
      covers = join_second a.size a.numbers b.numbers y s.size.least (rw same k);
    }))
    (λ e. rw e (record { kept = t; size = sym same; covers = k }))
choice_good c a b (suc (suc z)) x y u s t same small l h k = absurd (omega (arith, small))
