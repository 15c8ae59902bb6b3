-- Laws of members, and of what is kept of a value.
--   three_numbers, two_numbers   the number of a member, from its word, read unsigned and signed
--   unsigned_some, signed_some   each member's word, so read, is a number of the pieces
--   has_tells                    the test of a member is right
--   sharp_one, one_word_alone    a value with one word has one member, and its word is that of the low end
--   lone_only, one_only          the value of one number has one word
--   parts_are, parts_some, rest_gives, rest_size   parts of pieces, joined
--   greatest_above, least_below  the greatest and the least number of pieces
--   unsigned_rest_one, signed_rest_one   parts of a value of one word
use Rattle.std.proofs.Common.{◌≡◌, ◌≢◌, ◌↔◌, ℕ, ℤ, pos, neg_ℤ, Bool, true, false, ◌<◌, ◌≤◌, ◌^◌, arith, refl, sym, ap, ◌∙◌, subst, inl, inr, ⊎_elim, Option, Some, None}
use Rattle.std.specs.Prelude.{◌+ℤ◌, ◌-ℤ◌, ◌≤ℤ◌, ◌<ℤ◌, ◌&&◌, ◌||◌, ◌⊎◌, int_le, int_lt, nat_lt}
use Rattle.std.specs.Int.{int_rem_euclid}
use Rattle.std.proofs.lemmas.Int.{ints, clamps}
use Rattle.std.proofs.lemmas.Nat.{pow_pos}
use Rattle.std.proofs.lemmas.Bool.{ltb-true, lt-ltb, false≢true}
use Rattle.std.proofs.lemmas.Option.{same_Some, none-some}
use Rattle.whole_numbers.specs.Numbers.{Divides}
use Rattle.whole_numbers.specs.MultipleLaws.{by_test, divides_same, divides_sum, divides_difference, divides_zero, divides_itself, only_zero}
use Rattle.whole_numbers.specs.DivisionLaws.{rest_tells, rest_of as rest_laws}
use Rattle.alf_ops.specs.TwosComplement.{word, signed}
use Rattle.domain_core.specs.WordSets.{IsOnly, IsOfSize, IsWordSize, Gives, GivesSize}
use Rattle.progressions.specs.declared.ends.Progression.{Progression}
use Rattle.progressions.specs.declared.ends.Pieces.{Pieces}
use Rattle.progressions.specs.Progressions.{Has, HasSome, IfProgression, IsProgression, IsPlaced, full, half, lone}
use Rattle.progressions.specs.Parts.{between, SomeHas, IsPiece, IfPiece, ArePieces}
use Rattle.progressions.specs.ProgressionLaws.{halves, has_lo, has_hi, has_lone, step_positive}
use Rattle.progressions.specs.PartLaws.{unsigned_has, signed_has, unsigned_are, signed_are, between_has, between_is, without_first_has, without_first_is, without_last_has, without_last_is}
use Rattle.strided_rules.specs.Strides.{Stride, IsMember, IsStride, Covers, norm, one_word}
use Rattle.strided_rules.specs.Joins.{each, SoFar, IfPlaced, kept_value}
use Rattle.strided_rules.specs.Members.{unsigned_of, signed_of, is_one, word_of, has_number, has, part_of, parts_of, rest_of, is_same, without_end, greater_end, greatest_of, lesser_end, least_of}
use Rattle.strided_rules.specs.Domains.{stride_sets}
use Rattle.strided_rules.specs.PlacedLaws.{from_word, word_itself, word_signed, signed_range, norm_once, norm_member, member_word, member_below, member_other, by_distance}
use Rattle.strided_rules.specs.JoinLaws.{each_has, each_placed}

-- The number of a member, from its word.

once_more : (w : ℕ) (x y : ℤ) → Divides (full w) x → y ≡ x +ℤ full w → Divides (full w) y
once_more w x y d e = divides_same (full w) (x +ℤ full w) y (sym e) (divides_sum (full w) x (full w) d (divides_itself (full w)))

once_less : (w : ℕ) (x y : ℤ) → Divides (full w) x → y ≡ x -ℤ full w → Divides (full w) y
once_less w x y d e = divides_same (full w) (x -ℤ full w) y (sym e) (divides_difference (full w) x (full w) d (divides_itself (full w)))

pub three_numbers : (w : ℕ) (p : Progression) (t : ℕ) → 1 ≤ w → IsPlaced w p → IsMember w p t
    → Has p (pos t -ℤ full w) ⊎ (Has p (pos t) ⊎ Has p (pos t +ℤ full w))
three_numbers w p t positive placed m =
    let n = m.number in
    let h = halves w positive in
    let d = member_word w p t m in
    let below = member_below w p t m in
    by_test (int_lt n (pos 0))
    (λ less. let e : n +ℤ full w ≡ pos t = by_distance w (n +ℤ full w) (pos t) (once_more w (n -ℤ pos t) ((n +ℤ full w) -ℤ pos t) d (omega (arith, ints)))
    (omega (arith, ints, less, below)) (omega (arith, ints, below, h, m.has.least, placed.low)) in
    inl (subst (Has p) (let f : n ≡ pos t -ℤ full w = omega (arith, ints, e) in f) m.has))
    (λ more. by_test (int_lt n (full w))
    (λ inside. let e : n ≡ pos t = by_distance w n (pos t) d (omega (arith, ints, inside, below)) (omega (arith, ints, more, below)) in inr (inl (subst (Has p) e m.has)))
    (λ past. let e : n -ℤ full w ≡ pos t = by_distance w (n -ℤ full w) (pos t) (once_less w (n -ℤ pos t) ((n -ℤ full w) -ℤ pos t) d (omega (arith, ints)))
    (omega (arith, ints, h, below, m.has.most, placed.once, placed.high)) (omega (arith, ints, past, below)) in
    inr (inr (subst (Has p) (let f : n ≡ pos t +ℤ full w = omega (arith, ints, e) in f) m.has))))

-- and read signed
pub signed_apart : (w t : ℕ) → t < 2 ^ w → Divides (full w) (signed w t -ℤ pos t)
signed_apart w t below = let P : ℕ → Type 0 = λ u. Divides (full w) (signed w t -ℤ pos u) in subst P (word_signed w t below) (from_word w (signed w t))

pub two_numbers : (w : ℕ) (p : Progression) (t : ℕ) → 1 ≤ w → IsPlaced w p → IsMember w p t
    → Has p (signed w t) ⊎ Has p (signed w t +ℤ full w)
two_numbers w p t positive placed m =
    let n = m.number in
    let s = signed w t in
    let h = halves w positive in
    let below = member_below w p t m in
    let r = signed_range w t positive below in
    let d : Divides (full w) (n -ℤ s) = divides_same (full w) ((n -ℤ pos t) -ℤ (s -ℤ pos t)) (n -ℤ s) (omega (arith, ints))
    (divides_difference (full w) (n -ℤ pos t) (s -ℤ pos t) (member_word w p t m) (signed_apart w t below)) in
    by_test (int_lt n (half w))
    (λ less. let e : n ≡ s = by_distance w n s d (omega (arith, ints, less, h, r.0)) (omega (arith, ints, h, r.1, m.has.least, placed.low)) in inl (subst (Has p) e m.has))
    (λ more. let e : n -ℤ full w ≡ s = by_distance w (n -ℤ full w) s (once_less w (n -ℤ s) ((n -ℤ full w) -ℤ s) d (omega (arith, ints)))
    (omega (arith, ints, h, r.0, m.has.most, placed.once, placed.high)) (omega (arith, ints, h, more, r.1)) in
    inr (subst (Has p) (let f : n ≡ s +ℤ full w = omega (arith, ints, e) in f) m.has))

pub unsigned_some : (x : Stride) (t : ℕ) → IsStride x → Covers x t → SomeHas (unsigned_of x) (pos t)
unsigned_some x t s m =
    let below = member_below x.size x.numbers t m in
    (unsigned_has x.size x.numbers (pos t) s.size.least s.placed).1 (omega (arith, ints), omega (arith, ints, below), three_numbers x.size x.numbers t s.size.least s.placed m)

pub signed_some : (x : Stride) (t : ℕ) → IsStride x → Covers x t → SomeHas (signed_of x) (signed x.size t)
signed_some x t s m =
    let r = signed_range x.size t s.size.least (member_below x.size x.numbers t m) in
    (signed_has x.size x.numbers (signed x.size t) s.size.least s.placed).1 (r.0, r.1, two_numbers x.size x.numbers t s.size.least s.placed m)

pub of_unsigned : (x : Stride) → IsStride x → ArePieces (pos 0) (full x.size -ℤ pos 1) (unsigned_of x)
of_unsigned x s = unsigned_are x.size x.numbers s.size.least s.placed

pub of_signed : (x : Stride) → IsStride x → ArePieces (neg_ℤ (half x.size)) (half x.size -ℤ pos 1) (signed_of x)
of_signed x s = signed_are x.size x.numbers s.size.least s.placed

-- The test of a member.

pub both : (a b : Bool) → (a && b) ≡ true → (a ≡ true) × (b ≡ true)
both true b e = (refl, e)
both false b e = absurd (false≢true e)

pub and_both : (a b : Bool) → a ≡ true → b ≡ true → (a && b) ≡ true
and_both true b e f = f
and_both false b e f = absurd (false≢true e)

pub either : (a b : Bool) → (a || b) ≡ true → (a ≡ true) ⊎ (b ≡ true)
either true b e = inl refl
either false b e = inr e

pub or_left : (a b : Bool) → a ≡ true → (a || b) ≡ true
or_left true b e = refl
or_left false b e = absurd (false≢true e)

pub or_right : (a b : Bool) → b ≡ true → (a || b) ≡ true
or_right true b e = refl
or_right false b e = e

aligned_tells : (p : Progression) (n : ℤ) → IsProgression p → p.lo ≤ℤ n → n ≤ℤ p.hi
    → ((int_le p.hi p.lo || int_le (int_rem_euclid (n -ℤ p.lo) p.step) (pos 0)) ≡ true) ↔ Divides p.step (n -ℤ p.lo)
aligned_tells p n is low high = by_test (int_le p.hi p.lo)
    (λ one. (λ e. divides_same p.step (pos 0) (n -ℤ p.lo) (omega (arith, ints, one, low, high)) (divides_zero p.step), λ d. or_left (int_le p.hi p.lo) _ one))
    (λ more. let positive = step_positive p is (omega (arith, ints, more)) in
    let tells = rest_tells (n -ℤ p.lo) p.step positive in (
      λ e. tells.1 (⊎_elim (λ f. absurd (false≢true (sym more ∙ f))) (λ f. rest_zero (n -ℤ p.lo) p.step positive f) (either (int_le p.hi p.lo) _ e)),
      λ d. or_right (int_le p.hi p.lo) _ (let z = tells.0 d in sym (omega (arith, ints, z))),
    ))
  where
    rest_zero : (z d : ℤ) → pos 0 <ℤ d → int_le (int_rem_euclid z d) (pos 0) ≡ true → int_rem_euclid z d ≡ pos 0
    rest_zero z d positive e = omega (arith, ints, e, (rest_laws z d positive).0)

number_tells : (p : Progression) (n : ℤ) → IsProgression p → (has_number p n ≡ true) ↔ Has p n
number_tells p n is = (
  λ e. let a = both (int_le p.lo n) _ e in
      let b = both (int_le n p.hi) _ a.1 in
      let low : p.lo ≤ℤ n = omega (arith, ints, a.0) in
      let high : n ≤ℤ p.hi = omega (arith, ints, b.0) in
      record { least = low; most = high; aligned = (aligned_tells p n is low high).0 b.1 },
  λ h. and_both (int_le p.lo n) _ (sym (omega (arith, ints, h.least))) (and_both (int_le n p.hi) _ (sym (omega (arith, ints, h.most))) ((aligned_tells p n is h.least h.most).1 h.aligned)),
)

pub has_tells : (x : Stride) (t : ℕ) → IsStride x → (has x t ≡ true) ↔ Covers x t
has_tells x t s =
    let w = x.size in
    let p = x.numbers in
    let is = s.placed.progression in
    let A = has_number p (pos t) in
    let B = has_number p (pos t -ℤ full w) in
    let C = has_number p (pos t +ℤ full w) in (
      λ e. let a = both (nat_lt t (2 ^ w)) (A || (B || C)) e in
          let below = ltb-true t (2 ^ w) a.0 in
          ⊎_elim
          (λ f. member_other w p t (pos t) ((number_tells p (pos t) is).0 f) (divides_same (full w) (pos 0) (pos t -ℤ pos t) (omega (arith, ints)) (divides_zero (full w))) below)
          (λ more. ⊎_elim
          (λ f. member_other w p t (pos t -ℤ full w) ((number_tells p (pos t -ℤ full w) is).0 f) (record { times = neg_ℤ (pos 1); is = omega (arith, ints) }) below)
          (λ f. member_other w p t (pos t +ℤ full w) ((number_tells p (pos t +ℤ full w) is).0 f) (record { times = pos 1; is = omega (arith, ints) }) below)
          (either B C more))
          (either A (B || C) a.1),
      λ m. and_both (nat_lt t (2 ^ w)) (A || (B || C)) (lt-ltb t (2 ^ w) (member_below w p t m))
          (⊎_elim
          (λ h. or_right A (B || C) (or_left B C ((number_tells p (pos t -ℤ full w) is).1 h)))
          (λ more. ⊎_elim (λ h. or_left A (B || C) ((number_tells p (pos t) is).1 h)) (λ h. or_right A (B || C) (or_right B C ((number_tells p (pos t +ℤ full w) is).1 h))) more)
          (three_numbers w p t s.size.least s.placed m)),
    )

-- Values of one word.

-- a value of one member has its word alone
pub one_word_alone : (x : Stride) (t : ℕ) → is_one x ≡ true → Covers x t → t ≡ word_of x
one_word_alone x t one m =
    let e : m.number ≡ x.numbers.lo = omega (arith, ints, one, m.has.least, m.has.most) in
    sym m.word ∙ ap (λ (n : ℤ). word x.size n) e

pub low_member : (x : Stride) → IsStride x → Covers x (word_of x)
low_member x s = record { number = x.numbers.lo; has = has_lo x.numbers s.placed.progression; word = refl }

pub some_word : (x : Stride) → IsStride x → (t : ℕ) × Covers x t
some_word x s = (word_of x, low_member x s)

pub sharp_one : (x : Stride) (t : ℕ) → IsStride x → IsOnly stride_sets x t → is_one x ≡ true
sharp_one x t s h = by_test (int_le x.numbers.hi x.numbers.lo)
    (λ one. one)
    (λ more.
    let w = x.size in
    let lo = x.numbers.lo in
    let hi = x.numbers.hi in
    let high : Covers x (word w hi) = record { number = hi; has = has_hi x.numbers s.placed.progression; word = refl } in
    let same : word w lo ≡ word w hi = h.one (word w lo) (low_member x s) ∙ sym (h.one (word w hi) high) in
    let d : Divides (full w) (hi -ℤ lo) = divides_same (full w) ((hi -ℤ pos (word w hi)) -ℤ (lo -ℤ pos (word w lo))) (hi -ℤ lo) (omega (arith, ints, same))
    (divides_difference (full w) (hi -ℤ pos (word w hi)) (lo -ℤ pos (word w lo)) (from_word w hi) (from_word w lo)) in
    let zero_ : hi -ℤ lo ≡ pos 0 = only_zero (2 ^ w) (hi -ℤ lo) d s.placed.once (omega (arith, ints, s.placed.progression.order, pow_pos w)) in
    absurd (omega (arith, ints, zero_, more)))

-- the value of one number
pub lone_only : (w : ℕ) (n : ℤ) → 1 ≤ w → IsOnly stride_sets (record { size = w; numbers = norm w (lone n) }) (word w n)
lone_only w n positive =
    let x : Stride = record { size = w; numbers = norm w (lone n) } in
    let c : Covers x (word w n) = norm_member w (lone n) n positive ((has_lone n n).1 refl) in
    let one : is_one x ≡ true = rw (norm_once w (lone n) (let p = pow_pos w in omega (arith, ints, p))) (sym (omega (arith, ints))) in
    record { is = c; one = λ u m. one_word_alone x u one m ∙ sym (one_word_alone x (word w n) one c) }

pub one_only : (w t : ℕ) → 1 ≤ w → t < 2 ^ w → IsOnly stride_sets (one_word w t) t
one_only w t positive below = let P : ℕ → Type 0 = λ u. IsOnly stride_sets (one_word w t) u in subst P (word_itself w t below) (lone_only w (pos t) positive)

-- Parts of pieces, joined.

-- a part of a progression has some of its numbers
pub record IsPart (part : Progression → Option Progression) : Type 0 where
  pub is : (p : Progression) → IsProgression p → IfProgression (part p)
  pub inside : (p : Progression) (n : ℤ) → IsProgression p → HasSome (part p) n → Has p n

piece_inside : (least most : ℤ) (p : Progression) (o : Option Progression) → IsPiece least most p → IfProgression o
    → ((n : ℤ) → HasSome o n → Has p n) → IfPiece least most o
piece_inside least most p None piece is inside = tt
piece_inside least most p (Some q) piece is inside = record {
  progression = is;
  low = let h = inside q.lo (has_lo q is) in omega (arith, ints, h.least, piece.low);
  high = let h = inside q.hi (has_hi q is) in omega (arith, ints, h.most, piece.high);
}

part_is : (part : Progression → Option Progression) (least most : ℤ) (o : Option Progression) → IsPart part
    → IfPiece least most o → IfPiece least most (part_of part o)
part_is part least most None parts piece = tt
part_is part least most (Some p) parts piece = piece_inside least most p (part p) piece (parts.is p piece.progression) (λ n. parts.inside p n piece.progression)

pub parts_are : (part : Progression → Option Progression) (least most : ℤ) (pieces : Pieces) → IsPart part
    → ArePieces least most pieces → ArePieces least most (parts_of part pieces)
parts_are part least most pieces parts are = record {
  first = part_is part least most pieces.first parts are.first;
  second = part_is part least most pieces.second parts are.second;
  third = part_is part least most pieces.third parts are.third;
}

-- the part of a progression that has n has it too
abbrev pub KeepsNumber : (Progression → Option Progression) → ℤ → Type 0
KeepsNumber part n = (p : Progression) → IsProgression p → Has p n → HasSome (part p) n

part_has : (part : Progression → Option Progression) (least most n : ℤ) (o : Option Progression) → KeepsNumber part n
    → IfPiece least most o → HasSome o n → HasSome (part_of part o) n
part_has part least most n None keeps piece h = absurd h
part_has part least most n (Some p) keeps piece h = keeps p piece.progression h

pub parts_some : (part : Progression → Option Progression) (least most n : ℤ) (pieces : Pieces) → KeepsNumber part n
    → ArePieces least most pieces → SomeHas pieces n → SomeHas (parts_of part pieces) n
parts_some part least most n pieces keeps are some = ⊎_elim
    (λ (h : HasSome pieces.first n). inl (part_has part least most n pieces.first keeps are.first h))
    (λ more. ⊎_elim
    (λ (h : HasSome pieces.second n). inr (inl (part_has part least most n pieces.second keeps are.second h)))
    (λ (h : HasSome pieces.third n). inr (inr (part_has part least most n pieces.third keeps are.third h)))
    more)
    some

value_gives : (w t : ℕ) (o : Option Progression) → SoFar w o t → Gives stride_sets (kept_value w o) t
value_gives w t None m = absurd m
value_gives w t (Some p) m = (record { size = w; numbers = p }, refl, m)

value_size : (w : ℕ) (o : Option Progression) → IsWordSize w → IfPlaced w o → GivesSize stride_sets (kept_value w o) w
value_size w None size placed d is = absurd (none-some d is)
value_size w (Some p) size placed d is =
    subst (IsOfSize stride_sets w) (same_Some (record { size = w; numbers = p }) d is) (record { kept = record { size = size; placed = placed }; size = refl })

pub rest_gives : (w : ℕ) (part : Progression → Option Progression) (least most n : ℤ) (pieces : Pieces) → 1 ≤ w
    → IsPart part → KeepsNumber part n → ArePieces least most pieces → SomeHas pieces n
    → Gives stride_sets (rest_of w part pieces) (word w n)
rest_gives w part least most n pieces positive parts keeps are some = value_gives w (word w n) (each w (λ p. p) (parts_of part pieces))
    (each_has w (λ p. p) least most (parts_of part pieces) n n positive (parts_are part least most pieces parts are) (parts_some part least most n pieces keeps are some) (λ p piece h. h))

pub rest_size : (w : ℕ) (part : Progression → Option Progression) (least most : ℤ) (pieces : Pieces) → IsWordSize w
    → IsPart part → ArePieces least most pieces → GivesSize stride_sets (rest_of w part pieces) w
rest_size w part least most pieces size parts are = value_size w (each w (λ p. p) (parts_of part pieces)) size
    (each_placed w (λ p. p) least most (parts_of part pieces) size.least (parts_are part least most pieces parts are) (λ p piece. piece.progression))

-- the numbers between two
pub between_part : (least greatest : ℤ) → IsPart (between least greatest)
between_part least greatest = record { is = between_is least greatest; inside = λ p n is h. ((between_has least greatest p n is).0 h).0 }

pub between_keeps : (least greatest n : ℤ) → least ≤ℤ n → n ≤ℤ greatest → KeepsNumber (between least greatest) n
between_keeps least greatest n low high p is h = (between_has least greatest p n is).1 (h, low, high)

-- all but a number that stands at an end
pub same_tells : (n m : ℤ) → is_same n m ≡ true → n ≡ m
same_tells n m e = let h = both (int_le n m) (int_le m n) e in omega (arith, ints, h.0, h.1)

pub end_part : (n : ℤ) → IsPart (without_end n)
end_part n = record { is = is; inside = inside }
  where
    is : (p : Progression) → IsProgression p → IfProgression (without_end n p)
    is p r = by_test (is_same p.lo n) (λ e. rw e (without_first_is p r)) (λ e. rw e (by_test (is_same p.hi n) (λ f. rw f (without_last_is p r)) (λ f. rw f r)))

    inside : (p : Progression) (m : ℤ) → IsProgression p → HasSome (without_end n p) m → Has p m
    inside p m r h = by_test (is_same p.lo n)
        (λ e. ((without_first_has p m r).0 (let k = rw e at h in k)).0)
        (λ e. by_test (is_same p.hi n) (λ f. ((without_last_has p m r).0 (let k = rw (e, f) at h in k)).0) (λ f. let k = rw (e, f) at h in k))

pub end_keeps : (n m : ℤ) → m ≢ n → KeepsNumber (without_end n) m
end_keeps n m other p r h = by_test (is_same p.lo n)
    (λ e. rw e ((without_first_has p m r).1 (h, λ same. other (same ∙ same_tells p.lo n e))))
    (λ e. rw e (by_test (is_same p.hi n) (λ f. rw f ((without_last_has p m r).1 (h, λ same. other (same ∙ same_tells p.hi n f)))) (λ f. rw f h)))

-- The greatest and the least number.

end_rises : (least : ℤ) (o : Option Progression) → least ≤ℤ greater_end least o
end_rises least None = omega (arith, ints)
end_rises least (Some p) = omega (arith, ints, clamps)

end_above : (least n : ℤ) (o : Option Progression) → HasSome o n → n ≤ℤ greater_end least o
end_above least n None h = absurd h
end_above least n (Some p) h = omega (arith, ints, clamps, h.most)

pub greatest_above : (least n : ℤ) (pieces : Pieces) → SomeHas pieces n → n ≤ℤ greatest_of least pieces
greatest_above least n pieces some =
    let one = greater_end least pieces.first in
    let two = greater_end one pieces.second in
    let e = end_rises one pieces.second in
    let f = end_rises two pieces.third in
    ⊎_elim
    (λ (h : HasSome pieces.first n). omega (arith, ints, end_above least n pieces.first h, e, f))
    (λ more. ⊎_elim
    (λ (h : HasSome pieces.second n). omega (arith, ints, end_above one n pieces.second h, f))
    (λ (h : HasSome pieces.third n). end_above two n pieces.third h)
    more)
    some

end_falls : (greatest : ℤ) (o : Option Progression) → lesser_end greatest o ≤ℤ greatest
end_falls greatest None = omega (arith, ints)
end_falls greatest (Some p) = omega (arith, ints, clamps)

end_below : (greatest n : ℤ) (o : Option Progression) → HasSome o n → lesser_end greatest o ≤ℤ n
end_below greatest n None h = absurd h
end_below greatest n (Some p) h = omega (arith, ints, clamps, h.least)

pub least_below : (greatest n : ℤ) (pieces : Pieces) → SomeHas pieces n → least_of greatest pieces ≤ℤ n
least_below greatest n pieces some =
    let one = lesser_end greatest pieces.first in
    let two = lesser_end one pieces.second in
    let e = end_falls one pieces.second in
    let f = end_falls two pieces.third in
    ⊎_elim
    (λ (h : HasSome pieces.first n). omega (arith, ints, end_below greatest n pieces.first h, e, f))
    (λ more. ⊎_elim
    (λ (h : HasSome pieces.second n). omega (arith, ints, end_below one n pieces.second h, f))
    (λ (h : HasSome pieces.third n). end_below two n pieces.third h)
    more)
    some
