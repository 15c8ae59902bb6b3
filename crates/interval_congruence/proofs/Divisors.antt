-- What is left of a divisor without 0 is a divisor.
--   divisor_some      it is not 0 alone
use Rattle.std.proofs.Common.{◌≡◌, ◌≢◌, ℕ, ℤ, pos, negsuc, zero, suc, refl, arith, ap, sym, ◌∙◌, subst, inl, inr, Option, Some, None}
use Rattle.std.specs.Prelude.{◌-ℤ◌, ◌≤ℤ◌, int_le}
use Rattle.std.proofs.lemmas.Int.{ints}
use Rattle.std.proofs.lemmas.Bool.{false≢true}
use Rattle.std.proofs.lemmas.Option.{same_Some, none-some}
use Rattle.alf_ops.specs.TwosComplement.{word}
use Rattle.whole_numbers.specs.MultipleLaws.{by_test}
use Rattle.progressions.specs.declared.ends.Progression.{Progression}
use Rattle.progressions.specs.declared.ends.Pieces.{Pieces}
use Rattle.progressions.specs.Progressions.{Has, HasSome, IsProgression, IfProgression, full}
use Rattle.progressions.specs.Parts.{IsPiece, IfPiece, ArePieces, SomeHas, without_first, without_last}
use Rattle.progressions.specs.ProgressionLaws.{has_lo, has_hi}
use Rattle.progressions.specs.PartLaws.{without_first_has, without_last_has}
use Rattle.strided_rules.specs.Strides.{Stride, IsStride, Covers}
use Rattle.strided_rules.specs.Joins.{each, kept_value, SoFar}
use Rattle.strided_rules.specs.JoinLaws.{each_has}
use Rattle.strided_rules.specs.Members.{unsigned_of, word_of, has, is_same, part_of, parts_of, without_end, without}
use Rattle.strided_rules.specs.MemberLaws.{and_both, of_unsigned, has_tells, one_word_alone, low_member, end_part, same_tells}
use Rattle.strided_rules.specs.PlacedLaws.{word_itself}
use Rattle.strided_rules.specs.Domains.{divisor}
use Rattle.interval_congruence.specs.Divisors.{IsDivisor}

-- what is left of a progression from 0 on has no 0
end_drops : (p : Progression) (n : ℤ) → IsProgression p → pos 0 ≤ℤ p.lo → HasSome (without_end (pos 0) p) n → n ≢ pos 0
end_drops p n is low h = by_test (is_same p.lo (pos 0))
    (λ e. let k : HasSome (without_first p) n = rw e at h in λ z. ((without_first_has p n is).0 k).1 (z ∙ sym (same_tells p.lo (pos 0) e)))
    (λ e. by_test (is_same p.hi (pos 0))
    (λ f. let k : HasSome (without_last p) n = rw (e, f) at h in λ z. ((without_last_has p n is).0 k).1 (z ∙ sym (same_tells p.hi (pos 0) f)))
    (λ f. let k : Has p n = rw (e, f) at h in
    λ z. false≢true (sym e ∙ and_both (int_le p.lo (pos 0)) (int_le (pos 0) p.lo) (sym (omega (arith, ints, z, k.least))) (sym (omega (arith, ints, low))))))

-- so it lies from 1 on
from_one : (n : ℤ) → pos 0 ≤ℤ n → n ≢ pos 0 → pos 1 ≤ℤ n
from_one (pos zero) low other = absurd (other refl)
from_one (pos (suc n)) low other = omega (arith, ints)
from_one (negsuc n) low other = absurd (omega (arith, ints, low))

inner : (most : ℤ) (p : Progression) (o : Option Progression) → IsPiece (pos 0) most p → IfProgression o
    → ((n : ℤ) → HasSome o n → Has p n) → ((n : ℤ) → HasSome o n → n ≢ pos 0) → IfPiece (pos 1) most o
inner most p None i is inside other = tt
inner most p (Some q) i is inside other = record {
  progression = is;
  low = let h = inside q.lo (has_lo q is) in from_one q.lo (omega (arith, ints, h.least, i.low)) (other q.lo (has_lo q is));
  high = let h = inside q.hi (has_hi q is) in omega (arith, ints, h.most, i.high);
}

part_rises : (most : ℤ) (o : Option Progression) → IfPiece (pos 0) most o
    → IfPiece (pos 1) most (part_of (without_end (pos 0)) o)
part_rises most None i = tt
part_rises most (Some p) i =
    let part = end_part (pos 0) in
    inner most p (without_end (pos 0) p) i (part.is p i.progression) (λ n h. part.inside p n i.progression h) (λ n h. end_drops p n i.progression i.low h)

parts_rise : (most : ℤ) (pieces : Pieces) → ArePieces (pos 0) most pieces
    → ArePieces (pos 1) most (parts_of (without_end (pos 0)) pieces)
parts_rise most pieces are = record {
  first = part_rises most pieces.first are.first;
  second = part_rises most pieces.second are.second;
  third = part_rises most pieces.third are.third;
}

-- a number of one of pieces from 1 on
record Inner (most : ℤ) (pieces : Pieces) : Type 0 where
  number : ℤ
  has : SomeHas pieces number
  low : pos 1 ≤ℤ number
  high : number ≤ℤ most

first_of : (most : ℤ) (pieces : Pieces) (p : Progression) → IsPiece (pos 1) most p → SomeHas pieces p.lo
    → Inner most pieces
first_of most pieces p i has = record { number = p.lo; has = has; low = i.low; high = omega (arith, ints, i.progression.order, i.high) }

-- a value that was joined over such pieces has one
number_of : (w : ℕ) (most : ℤ) (a b c : Option Progression) (d : Stride) → IfPiece (pos 1) most a
    → IfPiece (pos 1) most b → IfPiece (pos 1) most c
    → kept_value w (each w (λ p. p) (record { first = a; second = b; third = c })) ≡ Some d → Inner most (record { first = a; second = b; third = c })
unfolding each
number_of w most (Some p) b c d i j k e = first_of most _ p i (inl (has_lo p i.progression))
number_of w most None (Some p) c d i j k e = first_of most _ p j (inr (inl (has_lo p j.progression)))
number_of w most None None (Some p) d i j k e = first_of most _ p k (inr (inr (has_lo p k.progression)))
number_of w most None None None d i j k e = absurd (none-some d e)

value_covers : (w t : ℕ) (o : Option Progression) (d : Stride) → kept_value w o ≡ Some d → SoFar w o t → Covers d t
value_covers w t None d e m = absurd m
value_covers w t (Some p) d e m = let P : Stride → Type 0 = λ z. Covers z t in subst P (same_Some (record { size = w; numbers = p }) d e) m

-- the word of a number from 1 on that fits the size
word_some : (w : ℕ) (n : ℤ) → pos 1 ≤ℤ n → n ≤ℤ (full w -ℤ pos 1) → word w n ≢ 0
word_some w (pos n) low high z = let e = word_itself w n (omega (arith, ints, high)) in absurd (omega (arith, ints, low, e, z))
word_some w (negsuc n) low high z = absurd (omega (arith, ints, low))

rest_some : (b d : Stride) → IsStride b → without b 0 ≡ Some d → IsDivisor d
rest_some b d s e one none =
    let w = b.size in
    let most = full w -ℤ pos 1 in
    let parts = parts_of (without_end (pos 0)) (unsigned_of b) in
    let are = parts_rise most (unsigned_of b) (of_unsigned b s) in
    let found = number_of w most parts.first parts.second parts.third d are.first are.second are.third e in
    let n = found.number in
    let joined = each_has w (λ p. p) (pos 1) most parts n n s.size.least are found.has (λ p i h. h) in
    let covers = value_covers w (word w n) (each w (λ p. p) parts) d e joined in
    word_some w n found.low found.high (one_word_alone d (word w n) one covers ∙ none)

pub divisor_some : (b d : Stride) → IsStride b → divisor b ≡ Some d → IsDivisor d
divisor_some b d s e = by_test (has b 0)
    (λ there. rest_some b d s (rw there at e))
    (λ no. λ one none. let same : b ≡ d = same_Some b d (rw no at e) in
    let covers : Covers b (word_of b) = low_member b s in
    let zero_of : word_of b ≡ 0 = ap word_of same ∙ none in
    false≢true (sym no ∙ (has_tells b 0 s).1 (subst (Covers b) zero_of covers)))
