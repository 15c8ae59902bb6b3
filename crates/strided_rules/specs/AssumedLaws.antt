-- What is kept of a value where a relation to another is known.
--   is_assumed      each member that is in the relation is kept, and of one word nothing else
--   is_kept         the one word is kept where it is a member
--   joined_one      the join of two values of one and the same word
use Rattle.std.proofs.Common.{◌≡◌, ◌≢◌, ℕ, ℤ, pos, neg_ℤ, Bool, not, true, false, ◌<◌, ◌≤◌, ◌^◌, arith, refl, sym, ap, ◌∙◌, subst, inl, inr, ⊎_elim, Option, Some, None}
use Rattle.std.specs.Prelude.{◌+ℤ◌, ◌-ℤ◌, ◌≤ℤ◌, ◌<ℤ◌, ◌==◌, ◌⊎◌, int_le, int_lt, nat_le, nat_lt}
use Rattle.std.specs.Int.{int_min, int_max}
use Rattle.std.proofs.lemmas.Int.{ints, clamps}
use Rattle.std.proofs.lemmas.Bool.{ltb-true, ltb-false, leb-true, leb-false, eqb-true, eq-eqb, false≢true}
use Rattle.std.proofs.lemmas.Option.{same_Some, none-some}
use Rattle.whole_numbers.specs.MultipleLaws.{by_test, divides_same, divides_sum, divides_difference, divides_itself}
use Rattle.alf_ops.specs.TwosComplement.{word, signed}
use Rattle.alf_ops.specs.Table.{bit}
use Rattle.domain_core.specs.declared.relation.Rel.{Rel}
use Rattle.domain_core.specs.declared.relation.Rel.TheVariants.{Eq, Neq, ULt, ULe, UGt, UGe, SLt, SLe, SGt, SGe}
use Rattle.domain_core.specs.Relations.{Related}
use Rattle.domain_core.specs.WordSets.{IsOnly, IsOfSize, Gives, GivesOnly, GivesSize, IsAssumed, IsKeptWord}
use Rattle.progressions.specs.declared.ends.Progression.{Progression}
use Rattle.progressions.specs.declared.ends.Pieces.{Pieces}
use Rattle.progressions.specs.Progressions.{full, half, lone, hull}
use Rattle.progressions.specs.Parts.{from_least, up_to, between, without_first, unsigned_pieces, signed_pieces}
use Rattle.progressions.specs.ProgressionLaws.{halves, is_lone, is_hull}
use Rattle.progressions.specs.PartLaws.{moved_is}
use Rattle.progressions.specs.Images.{moved}
use Rattle.strided_rules.specs.Strides.{Stride, IsStride, Covers, norm, join, one_word, joined}
use Rattle.strided_rules.specs.Joins.{each, kept_value}
use Rattle.strided_rules.specs.Members.{unsigned_of, signed_of, is_one, word_of, has, only, without, rest_of, is_same, without_end, greatest_of, least_of, unsigned_greatest, unsigned_least, signed_greatest, signed_least, unsigned_between, signed_between, assumed}
use Rattle.strided_rules.specs.Domains.{stride_sets}
use Rattle.strided_rules.specs.PlacedLaws.{word_itself, word_signed, signed_range, member_below, by_distance, from_word, one_placed}
use Rattle.flat_domain.specs.OperatorSizeLaws.{word_below}
use Rattle.strided_rules.specs.MemberLaws.{unsigned_some, signed_some, of_unsigned, of_signed, and_both, has_tells, one_word_alone, low_member, sharp_one, lone_only, one_only, rest_gives, rest_size, between_part, between_keeps, end_part, end_keeps, same_tells, greatest_above, least_below, signed_apart}

-- ---- a value of one word: its pieces

abbrev first_alone : Progression → Pieces
first_alone p = record { first = Some p; second = None; third = None }

abbrev second_alone : Progression → Pieces
second_alone p = record { first = None; second = Some p; third = None }

same_progression : (p : Progression) (hi step : ℤ) → p.hi ≡ hi → p.step ≡ step
    → p ≡ record { lo = p.lo; hi = hi; step = step }
same_progression p hi step e f = rw (← e, ← f) refl

pub lone_numbers : (x : Stride) → IsStride x → is_one x ≡ true → x.numbers ≡ lone x.numbers.lo
lone_numbers x s one =
    let e : x.numbers.hi ≡ x.numbers.lo = omega (arith, ints, one, s.placed.progression.order) in
    same_progression x.numbers x.numbers.lo (pos 0) e (s.placed.progression.lone (sym e))

lone_unsigned : (w : ℕ) (n : ℤ) → 1 ≤ w → neg_ℤ (half w) ≤ℤ n → n <ℤ half w
    → (unsigned_pieces w (lone n) ≡ first_alone (lone (pos (word w n)))) ⊎ (unsigned_pieces w (lone n) ≡ second_alone (lone (pos (word w n))))
unfolding from_least up_to
lone_unsigned w n positive low high =
    let h = halves w positive in
    let f = from_word w n in
    by_test (int_lt n (pos 0))
    (λ less.
    let e : n +ℤ full w ≡ pos (word w n) = by_distance w (n +ℤ full w) (pos (word w n))
    (divides_same (full w) ((n -ℤ pos (word w n)) +ℤ full w) ((n +ℤ full w) -ℤ pos (word w n)) (omega (arith, ints)) (divides_sum (full w) (n -ℤ pos (word w n)) (full w) f (divides_itself (full w))))
    (omega (arith, ints, less)) (omega (arith, ints, h, low, word_small w n)) in
    let a : int_le n (neg_ℤ (pos 1)) ≡ true = sym (omega (arith, ints, less)) in
    let b : int_le (pos 0) n ≡ false = sym (omega (arith, ints, less)) in
    let c : int_le (full w) n ≡ false = sym (omega (arith, ints, less)) in
    let d : int_lt n (full w) ≡ true = sym (omega (arith, ints, less)) in
    inl (rw (a, b, less, c, d, e) refl))
    (λ more.
    let e : n ≡ pos (word w n) = by_distance w n (pos (word w n)) f (omega (arith, ints, h, high)) (omega (arith, ints, more, word_small w n)) in
    let a : int_le n (neg_ℤ (pos 1)) ≡ false = sym (omega (arith, ints, more)) in
    let b : int_lt (neg_ℤ (pos 1)) n ≡ true = sym (omega (arith, ints, more)) in
    let c : int_le (pos 0) n ≡ true = sym (omega (arith, ints, more)) in
    let d : int_le n (full w -ℤ pos 1) ≡ true = sym (omega (arith, ints, h, high)) in
    let g : int_le (full w) n ≡ false = sym (omega (arith, ints, h, high)) in
    let i : int_lt n (full w) ≡ true = sym (omega (arith, ints, h, high)) in
    inr (rw (a, b, c, d, g, i) (ap (λ (z : ℤ). second_alone (lone z)) e)))
  where
    word_small : (v : ℕ) (z : ℤ) → word v z < 2 ^ v
    word_small v z = word_below v z

lone_signed : (w : ℕ) (n : ℤ) → 1 ≤ w → neg_ℤ (half w) ≤ℤ n → n <ℤ half w
    → signed_pieces w (lone n) ≡ first_alone (lone n)
unfolding from_least up_to
lone_signed w n positive low high =
    let a : int_le n (half w -ℤ pos 1) ≡ true = sym (omega (arith, ints, high)) in
    let b : int_le (half w) n ≡ false = sym (omega (arith, ints, high)) in
    let c : int_lt n (half w) ≡ true = sym (omega (arith, ints, high)) in
    rw (a, b, c) refl

pub unsigned_alone : (x : Stride) → IsStride x → is_one x ≡ true
    → (unsigned_of x ≡ first_alone (lone (pos (word_of x)))) ⊎ (unsigned_of x ≡ second_alone (lone (pos (word_of x))))
unsigned_alone x s one =
    let n = x.numbers.lo in
    let pieces = lone_unsigned x.size n s.size.least s.placed.low s.placed.high in
    subst (λ (p : Progression). (unsigned_pieces x.size p ≡ first_alone (lone (pos (word x.size n)))) ⊎ (unsigned_pieces x.size p ≡ second_alone (lone (pos (word x.size n))))) (sym (lone_numbers x s one)) pieces

-- the low end is the reading of the word
low_reads : (x : Stride) → IsStride x → x.numbers.lo ≡ signed x.size (word_of x)
low_reads x s =
    let w = x.size in
    let n = x.numbers.lo in
    let t = word_of x in
    let below = member_below w x.numbers t (low_member x s) in
    let h = halves w s.size.least in
    let r = signed_range w t s.size.least below in
    by_distance w n (signed w t) (divides_same (full w) ((n -ℤ pos t) -ℤ (signed w t -ℤ pos t)) (n -ℤ signed w t) (omega (arith, ints))
    (divides_difference (full w) (n -ℤ pos t) (signed w t -ℤ pos t) (from_word w n) (signed_apart w t below)))
    (omega (arith, ints, h, r.0, s.placed.high)) (omega (arith, ints, h, r.1, s.placed.low))

pub signed_alone : (x : Stride) → IsStride x → is_one x ≡ true
    → signed_of x ≡ first_alone (lone (signed x.size (word_of x)))
signed_alone x s one =
    let n = x.numbers.lo in
    let pieces = lone_signed x.size n s.size.least s.placed.low s.placed.high in
    let there : signed_pieces x.size x.numbers ≡ first_alone (lone n) = subst (λ (p : Progression). signed_pieces x.size p ≡ first_alone (lone n)) (sym (lone_numbers x s one)) pieces in
    there ∙ ap (λ (z : ℤ). first_alone (lone z)) (low_reads x s)

-- ---- parts of it

abbrev rest_value : ℕ → Option Progression → Option Stride
rest_value w None = None
rest_value w (Some q) = Some (record { size = w; numbers = norm w q })

first_rest : (w : ℕ) (part : Progression → Option Progression) (p : Progression)
    → rest_of w part (first_alone p) ≡ rest_value w (part p)
unfolding each
first_rest w part p = by_part (part p)
  where
    by_part : (o : Option Progression)
        → kept_value w (each w (λ q. q) (record { first = o; second = None; third = None })) ≡ rest_value w o
    by_part None = refl
    by_part (Some q) = refl

second_rest : (w : ℕ) (part : Progression → Option Progression) (p : Progression)
    → rest_of w part (second_alone p) ≡ rest_value w (part p)
unfolding each
second_rest w part p = by_part (part p)
  where
    by_part : (o : Option Progression)
        → kept_value w (each w (λ q. q) (record { first = None; second = o; third = None })) ≡ rest_value w o
    by_part None = refl
    by_part (Some q) = refl

pub unsigned_rest_one : (x : Stride) (part : Progression → Option Progression) → IsStride x → is_one x ≡ true
    → rest_of x.size part (unsigned_of x) ≡ rest_value x.size (part (lone (pos (word_of x))))
unsigned_rest_one x part s one = ⊎_elim
    (λ e. ap (rest_of x.size part) e ∙ first_rest x.size part (lone (pos (word_of x))))
    (λ e. ap (rest_of x.size part) e ∙ second_rest x.size part (lone (pos (word_of x))))
    (unsigned_alone x s one)

pub signed_rest_one : (x : Stride) (part : Progression → Option Progression) → IsStride x → is_one x ≡ true
    → rest_of x.size part (signed_of x) ≡ rest_value x.size (part (lone (signed x.size (word_of x))))
signed_rest_one x part s one = ap (rest_of x.size part) (signed_alone x s one) ∙ first_rest x.size part (lone (signed x.size (word_of x)))

between_lone : (least greatest n : ℤ) → least ≤ℤ n → n ≤ℤ greatest → between least greatest (lone n) ≡ Some (lone n)
unfolding from_least up_to
between_lone least greatest n low high =
    let a : int_le least n ≡ true = sym (omega (arith, ints, low)) in
    let b : int_le n greatest ≡ true = sym (omega (arith, ints, high)) in
    rw (a, b) refl

below_lone : (least greatest n : ℤ) → n <ℤ least → between least greatest (lone n) ≡ None
unfolding from_least up_to
below_lone least greatest n low =
    let a : int_le least n ≡ false = sym (omega (arith, ints, low)) in
    let b : int_lt n least ≡ true = sym (omega (arith, ints, low)) in
    rw (a, b) refl

past_lone : (least greatest n : ℤ) → least ≤ℤ n → greatest <ℤ n → between least greatest (lone n) ≡ None
unfolding from_least up_to
past_lone least greatest n low high =
    let a : int_le least n ≡ true = sym (omega (arith, ints, low)) in
    let b : int_le n greatest ≡ false = sym (omega (arith, ints, high)) in
    let c : int_lt greatest n ≡ true = sym (omega (arith, ints, high)) in
    rw (a, b, c) refl

-- ---- its greatest and its least number

pub greatest_one : (y : Stride) → IsStride y → is_one y ≡ true → unsigned_greatest y ≡ pos (word_of y)
greatest_one y s one = ⊎_elim
    (λ e. ap (greatest_of (pos 0)) e ∙ (let f : int_max (pos 0) (pos (word_of y)) ≡ pos (word_of y) = omega (arith, ints, clamps) in f))
    (λ e. ap (greatest_of (pos 0)) e ∙ (let f : int_max (pos 0) (pos (word_of y)) ≡ pos (word_of y) = omega (arith, ints, clamps) in f))
    (unsigned_alone y s one)

pub least_one : (y : Stride) → IsStride y → is_one y ≡ true → unsigned_least y ≡ pos (word_of y)
least_one y s one =
    let small = member_below y.size y.numbers (word_of y) (low_member y s) in
    let f : int_min (full y.size -ℤ pos 1) (pos (word_of y)) ≡ pos (word_of y) = omega (arith, ints, clamps, small) in
    ⊎_elim (λ e. ap (least_of (full y.size -ℤ pos 1)) e ∙ f) (λ e. ap (least_of (full y.size -ℤ pos 1)) e ∙ f) (unsigned_alone y s one)

pub signed_greatest_one : (y : Stride) → IsStride y → is_one y ≡ true → signed_greatest y ≡ signed y.size (word_of y)
signed_greatest_one y s one =
    let r = signed_range y.size (word_of y) s.size.least (member_below y.size y.numbers (word_of y) (low_member y s)) in
    ap (greatest_of (neg_ℤ (half y.size))) (signed_alone y s one) ∙ (let f : int_max (neg_ℤ (half y.size)) (signed y.size (word_of y)) ≡ signed y.size (word_of y) = omega (arith, ints, clamps, r.0) in f)

pub signed_least_one : (y : Stride) → IsStride y → is_one y ≡ true → signed_least y ≡ signed y.size (word_of y)
signed_least_one y s one =
    let r = signed_range y.size (word_of y) s.size.least (member_below y.size y.numbers (word_of y) (low_member y s)) in
    ap (least_of (half y.size -ℤ pos 1)) (signed_alone y s one) ∙ (let f : int_min (half y.size -ℤ pos 1) (signed y.size (word_of y)) ≡ signed y.size (word_of y) = omega (arith, ints, clamps, r.1) in f)

-- ---- the members between two numbers

unsigned_kept : (x : Stride) (s : ℕ) (low high : ℤ) → IsStride x → Covers x s → low ≤ℤ pos s → pos s ≤ℤ high
    → Gives stride_sets (unsigned_between x low high) s
unsigned_kept x s low high kept h p q = subst (Gives stride_sets (unsigned_between x low high)) (word_itself x.size s (member_below x.size x.numbers s h))
    (rest_gives x.size (between low high) (pos 0) (full x.size -ℤ pos 1) (pos s) (unsigned_of x) kept.size.least (between_part low high) (between_keeps low high (pos s) p q) (of_unsigned x kept) (unsigned_some x s kept h))

signed_kept : (x : Stride) (s : ℕ) (low high : ℤ) → IsStride x → Covers x s → low ≤ℤ signed x.size s
    → signed x.size s ≤ℤ high → Gives stride_sets (signed_between x low high) s
signed_kept x s low high kept h p q = subst (Gives stride_sets (signed_between x low high)) (word_signed x.size s (member_below x.size x.numbers s h))
    (rest_gives x.size (between low high) (neg_ℤ (half x.size)) (half x.size -ℤ pos 1) (signed x.size s) (signed_of x) kept.size.least (between_part low high) (between_keeps low high (signed x.size s) p q) (of_signed x kept) (signed_some x s kept h))

-- what a part of one number gives
one_given : (w : ℕ) (n : ℤ) (s : ℕ) (o : Option Progression) (answer : Option Stride) → 1 ≤ w → word w n ≡ s
    → o ≡ Some (lone n) → answer ≡ rest_value w o → GivesOnly stride_sets answer s
one_given w n s o answer positive e f g =
    (record { size = w; numbers = norm w (lone n) }, g ∙ ap (rest_value w) f, subst (IsOnly stride_sets (record { size = w; numbers = norm w (lone n) })) e (lone_only w n positive))

-- a value of one word, its test and its word
one_of : (x : Stride) (s : ℕ) → IsStride x → IsOnly stride_sets x s → (is_one x ≡ true) × (word_of x ≡ s)
one_of x s kept h = let one = sharp_one x s kept h in (one, sym (one_word_alone x s one h.is))

unsigned_sharp : (x : Stride) (s : ℕ) (low high : ℤ) → IsStride x → IsOnly stride_sets x s → low ≤ℤ pos s
    → pos s ≤ℤ high → GivesOnly stride_sets (unsigned_between x low high) s
unsigned_sharp x s low high kept h p q =
    let one = one_of x s kept h in
    one_given x.size (pos s) s (between low high (lone (pos s))) (unsigned_between x low high) kept.size.least (word_itself x.size s (member_below x.size x.numbers s h.is)) (between_lone low high (pos s) p q)
    (unsigned_rest_one x (between low high) kept one.0 ∙ ap (λ (t : ℕ). rest_value x.size (between low high (lone (pos t)))) one.1)

signed_sharp : (x : Stride) (s : ℕ) (low high : ℤ) → IsStride x → IsOnly stride_sets x s → low ≤ℤ signed x.size s
    → signed x.size s ≤ℤ high → GivesOnly stride_sets (signed_between x low high) s
signed_sharp x s low high kept h p q =
    let one = one_of x s kept h in
    one_given x.size (signed x.size s) s (between low high (lone (signed x.size s))) (signed_between x low high) kept.size.least (word_signed x.size s (member_below x.size x.numbers s h.is)) (between_lone low high (signed x.size s) p q)
    (signed_rest_one x (between low high) kept one.0 ∙ ap (λ (t : ℕ). rest_value x.size (between low high (lone (signed x.size t)))) one.1)

-- out of the range
abbrev IsOutside : ℤ → ℤ → ℤ → Type 0
IsOutside low high n = (n <ℤ low) ⊎ ((low ≤ℤ n) × (high <ℤ n))

outside_none : (low high n : ℤ) → IsOutside low high n → between low high (lone n) ≡ None
outside_none low high n out = ⊎_elim (λ e. below_lone low high n e) (λ e. past_lone low high n e.0 e.1) out

unsigned_none : (x : Stride) (s : ℕ) (low high : ℤ) → IsStride x → IsOnly stride_sets x s → IsOutside low high (pos s)
    → unsigned_between x low high ≡ None
unsigned_none x s low high kept h out =
    let one = one_of x s kept h in
    unsigned_rest_one x (between low high) kept one.0 ∙ ap (λ (t : ℕ). rest_value x.size (between low high (lone (pos t)))) one.1 ∙ ap (rest_value x.size) (outside_none low high (pos s) out)

signed_none : (x : Stride) (s : ℕ) (low high : ℤ) → IsStride x → IsOnly stride_sets x s
    → IsOutside low high (signed x.size s) → signed_between x low high ≡ None
signed_none x s low high kept h out =
    let one = one_of x s kept h in
    signed_rest_one x (between low high) kept one.0 ∙ ap (λ (t : ℕ). rest_value x.size (between low high (lone (signed x.size t)))) one.1 ∙ ap (rest_value x.size) (outside_none low high (signed x.size s) out)

-- ---- orders: what they owe is that the range has what is related, and of one word of y nothing else

abbrev Within : ℤ → ℤ → ℤ → Type 0
Within low high n = (low ≤ℤ n) × (n ≤ℤ high)

unsigned_order : (rel : Rel) (x y : Stride) (low high : ℤ) → IsStride x → IsStride y
    → ((s t : ℕ) → Covers y t → s < 2 ^ x.size → Related rel x.size s t → Within low high (pos s))
    → ((s t : ℕ) → is_one y ≡ true → word_of y ≡ t → (Related rel x.size s t → ⊥) → IsOutside low high (pos s))
    → IsAssumed stride_sets rel x y (unsigned_between x low high)
unsigned_order rel x y low high of_x of_y holds fails = record {
  size = rest_size x.size (between low high) (pos 0) (full x.size -ℤ pos 1) (unsigned_of x) of_x.size (between_part low high) (of_unsigned x of_x);
  covering = λ s t h k r. let b = holds s t k (member_below x.size x.numbers s h) r in unsigned_kept x s low high of_x h b.0 b.1;
  sharp = λ s t h k r. let b = holds s t k.is (member_below x.size x.numbers s h.is) r in unsigned_sharp x s low high of_x h b.0 b.1;
  sharp_none = λ s t h k r. let one = one_of y t of_y k in unsigned_none x s low high of_x h (fails s t one.0 one.1 r);
}

signed_order : (rel : Rel) (x y : Stride) (low high : ℤ) → IsStride x → IsStride y
    → ((s t : ℕ) → Covers y t → s < 2 ^ x.size → Related rel x.size s t → Within low high (signed x.size s))
    → ((s t : ℕ) → s < 2 ^ x.size → is_one y ≡ true → word_of y ≡ t → (Related rel x.size s t → ⊥) → IsOutside low high (signed x.size s))
    → IsAssumed stride_sets rel x y (signed_between x low high)
signed_order rel x y low high of_x of_y holds fails = record {
  size = rest_size x.size (between low high) (neg_ℤ (half x.size)) (half x.size -ℤ pos 1) (signed_of x) of_x.size (between_part low high) (of_signed x of_x);
  covering = λ s t h k r. let b = holds s t k (member_below x.size x.numbers s h) r in signed_kept x s low high of_x h b.0 b.1;
  sharp = λ s t h k r. let b = holds s t k.is (member_below x.size x.numbers s h.is) r in signed_sharp x s low high of_x h b.0 b.1;
  sharp_none = λ s t h k r. let one = one_of y t of_y k in signed_none x s low high of_x h (fails s t (member_below x.size x.numbers s h.is) one.0 one.1 r);
}

bit_true : (v : Bool) → word 1 (bit v) ≡ 1 → v ≡ true
bit_true true e = refl
bit_true false e = absurd (let z : 0 ≡ 1 = e in omega (arith, z))

bit_one : (v : Bool) → v ≡ true → word 1 (bit v) ≡ 1
bit_one v e = rw e refl

bit_fails : (v : Bool) → (word 1 (bit v) ≡ 1 → ⊥) → v ≡ false
bit_fails true e = absurd (e refl)
bit_fails false e = refl

-- the greatest and the least word of y
top : (y : Stride) (t : ℕ) → IsStride y → Covers y t → pos t ≤ℤ unsigned_greatest y
top y t s k = greatest_above (pos 0) (pos t) (unsigned_of y) (unsigned_some y t s k)

bottom : (y : Stride) (t : ℕ) → IsStride y → Covers y t → unsigned_least y ≤ℤ pos t
bottom y t s k = least_below (full y.size -ℤ pos 1) (pos t) (unsigned_of y) (unsigned_some y t s k)

signed_top : (x y : Stride) (t : ℕ) → x.size ≡ y.size → IsStride y → Covers y t → signed x.size t ≤ℤ signed_greatest y
signed_top x y t same s k = let e = greatest_above (neg_ℤ (half y.size)) (signed y.size t) (signed_of y) (signed_some y t s k) in omega (arith, ints, e, ap (λ (n : ℕ). signed n t) same)

signed_bottom : (x y : Stride) (t : ℕ) → x.size ≡ y.size → IsStride y → Covers y t → signed_least y ≤ℤ signed x.size t
signed_bottom x y t same s k = let e = least_below (half y.size -ℤ pos 1) (signed y.size t) (signed_of y) (signed_some y t s k) in omega (arith, ints, e, ap (λ (n : ℕ). signed n t) same)

top_one : (y : Stride) (t : ℕ) → IsStride y → is_one y ≡ true → word_of y ≡ t → unsigned_greatest y ≡ pos t
top_one y t s one e = greatest_one y s one ∙ ap pos e

bottom_one : (y : Stride) (t : ℕ) → IsStride y → is_one y ≡ true → word_of y ≡ t → unsigned_least y ≡ pos t
bottom_one y t s one e = least_one y s one ∙ ap pos e

signed_top_one : (x y : Stride) (t : ℕ) → x.size ≡ y.size → IsStride y → is_one y ≡ true → word_of y ≡ t
    → signed_greatest y ≡ signed x.size t
signed_top_one x y t same s one e = signed_greatest_one y s one ∙ ap (signed y.size) e ∙ ap (λ (n : ℕ). signed n t) (sym same)

signed_bottom_one : (x y : Stride) (t : ℕ) → x.size ≡ y.size → IsStride y → is_one y ≡ true → word_of y ≡ t
    → signed_least y ≡ signed x.size t
signed_bottom_one x y t same s one e = signed_least_one y s one ∙ ap (signed y.size) e ∙ ap (λ (n : ℕ). signed n t) (sym same)

assumed_u_lt : (x y : Stride) → IsStride x → IsStride y → IsAssumed stride_sets ULt x y (assumed ULt x y)
assumed_u_lt x y of_x of_y = unsigned_order ULt x y (pos 0) (unsigned_greatest y -ℤ pos 1) of_x of_y
    (λ s t k small r. (omega (arith, ints), omega (arith, ints, top y t of_y k, ltb-true s t (bit_true (nat_lt s t) r))))
    (λ s t one e r. inr (omega (arith, ints), omega (arith, ints, top_one y t of_y one e, ltb-false s t (bit_fails (nat_lt s t) r))))

assumed_u_le : (x y : Stride) → IsStride x → IsStride y → IsAssumed stride_sets ULe x y (assumed ULe x y)
assumed_u_le x y of_x of_y = unsigned_order ULe x y (pos 0) (unsigned_greatest y) of_x of_y
    (λ s t k small r. (omega (arith, ints), omega (arith, ints, top y t of_y k, leb-true s t (bit_true (nat_le s t) r))))
    (λ s t one e r. inr (omega (arith, ints), omega (arith, ints, top_one y t of_y one e, leb-false s t (bit_fails (nat_le s t) r))))

assumed_u_gt : (x y : Stride) → IsStride x → IsStride y → IsAssumed stride_sets UGt x y (assumed UGt x y)
assumed_u_gt x y of_x of_y = unsigned_order UGt x y (unsigned_least y +ℤ pos 1) (full x.size -ℤ pos 1) of_x of_y
    (λ s t k small r. (omega (arith, ints, bottom y t of_y k, ltb-true t s (bit_true (nat_lt t s) r)), omega (arith, ints, small)))
    (λ s t one e r. inl (omega (arith, ints, bottom_one y t of_y one e, ltb-false t s (bit_fails (nat_lt t s) r))))

assumed_u_ge : (x y : Stride) → IsStride x → IsStride y → IsAssumed stride_sets UGe x y (assumed UGe x y)
assumed_u_ge x y of_x of_y = unsigned_order UGe x y (unsigned_least y) (full x.size -ℤ pos 1) of_x of_y
    (λ s t k small r. (omega (arith, ints, bottom y t of_y k, leb-true t s (bit_true (nat_le t s) r)), omega (arith, ints, small)))
    (λ s t one e r. inl (omega (arith, ints, bottom_one y t of_y one e, leb-false t s (bit_fails (nat_le t s) r))))

assumed_s_lt : (x y : Stride) → IsStride x → IsStride y → x.size ≡ y.size
    → IsAssumed stride_sets SLt x y (assumed SLt x y)
assumed_s_lt x y of_x of_y same = signed_order SLt x y (neg_ℤ (half x.size)) (signed_greatest y -ℤ pos 1) of_x of_y
    (λ s t k small r. ((signed_range x.size s of_x.size.least small).0, omega (arith, ints, signed_top x y t same of_y k, bit_true (int_lt (signed x.size s) (signed x.size t)) r)))
    (λ s t small one e r. inr ((signed_range x.size s of_x.size.least small).0, omega (arith, ints, signed_top_one x y t same of_y one e, bit_fails (int_lt (signed x.size s) (signed x.size t)) r)))

assumed_s_le : (x y : Stride) → IsStride x → IsStride y → x.size ≡ y.size
    → IsAssumed stride_sets SLe x y (assumed SLe x y)
assumed_s_le x y of_x of_y same = signed_order SLe x y (neg_ℤ (half x.size)) (signed_greatest y) of_x of_y
    (λ s t k small r. ((signed_range x.size s of_x.size.least small).0, omega (arith, ints, signed_top x y t same of_y k, bit_true (int_le (signed x.size s) (signed x.size t)) r)))
    (λ s t small one e r. inr ((signed_range x.size s of_x.size.least small).0, omega (arith, ints, signed_top_one x y t same of_y one e, bit_fails (int_le (signed x.size s) (signed x.size t)) r)))

assumed_s_gt : (x y : Stride) → IsStride x → IsStride y → x.size ≡ y.size
    → IsAssumed stride_sets SGt x y (assumed SGt x y)
assumed_s_gt x y of_x of_y same = signed_order SGt x y (signed_least y +ℤ pos 1) (half x.size -ℤ pos 1) of_x of_y
    (λ s t k small r. (omega (arith, ints, signed_bottom x y t same of_y k, bit_true (int_lt (signed x.size t) (signed x.size s)) r), omega (arith, ints, signed_range x.size s of_x.size.least small)))
    (λ s t small one e r. inl (omega (arith, ints, signed_bottom_one x y t same of_y one e, bit_fails (int_lt (signed x.size t) (signed x.size s)) r)))

assumed_s_ge : (x y : Stride) → IsStride x → IsStride y → x.size ≡ y.size
    → IsAssumed stride_sets SGe x y (assumed SGe x y)
assumed_s_ge x y of_x of_y same = signed_order SGe x y (signed_least y) (half x.size -ℤ pos 1) of_x of_y
    (λ s t k small r. (omega (arith, ints, signed_bottom x y t same of_y k, bit_true (int_le (signed x.size t) (signed x.size s)) r), omega (arith, ints, signed_range x.size s of_x.size.least small)))
    (λ s t small one e r. inl (omega (arith, ints, signed_bottom_one x y t same of_y one e, bit_fails (int_le (signed x.size t) (signed x.size s)) r)))

-- ---- equal, and not

only_size : (x : Stride) (t : ℕ) → IsStride x → GivesSize stride_sets (only x t) x.size
only_size x t s d is = by_test (has x t)
    (λ e. subst (IsOfSize stride_sets x.size) (same_Some (one_word x.size t) d (rw e at is)) (record { kept = one_placed x.size t s.size; size = refl }))
    (λ e. absurd (none-some d (rw e at is)))

only_gives : (x : Stride) (t : ℕ) → IsStride x → Covers x t → GivesOnly stride_sets (only x t) t
only_gives x t s h = rw ((has_tells x t s).1 h) (one_word x.size t, refl, one_only x.size t s.size.least (member_below x.size x.numbers t h))

only_none : (x : Stride) (t : ℕ) → IsStride x → (Covers x t → ⊥) → only x t ≡ None
only_none x t s out = by_test (has x t) (λ e. absurd (out ((has_tells x t s).0 e))) (λ e. rw e refl)

pub is_kept : (x : Stride) (t : ℕ) → IsStride x → IsKeptWord stride_sets x t (only x t)
is_kept x t s = record {
  size = only_size x t s;
  covering = λ h. let g = only_gives x t s h in (g.0, g.1, g.2.is);
  sharp = λ h. only_gives x t s h.is;
  sharp_none = λ y h other. only_none x t s (λ k. other (h.one t k));
}

-- the rules for one word of y, at that word
equal_to : (x y : Stride) (t : ℕ) → IsStride x → ((u : ℕ) → Covers y u → u ≡ t)
    → IsAssumed stride_sets Eq x y (only x t)
equal_to x y t of_x alone = record {
  size = only_size x t of_x;
  covering = λ s u h k r. let e : s ≡ t = eqb-true s u (bit_true (s == u) r) ∙ alone u k in
      let g = only_gives x t of_x (subst (Covers x) e h) in subst (Gives stride_sets (only x t)) (sym e) (g.0, g.1, g.2.is);
  sharp = λ s u h k r. let e : s ≡ t = eqb-true s u (bit_true (s == u) r) ∙ alone u k.is in
      subst (GivesOnly stride_sets (only x t)) (sym e) (only_gives x t of_x (subst (Covers x) e h.is));
  sharp_none = λ s u h k r. only_none x t of_x (λ c. r (bit_one (s == u) (eq-eqb s u (sym (h.one t c) ∙ sym (alone u k.is)))));
}

lone_without : (n m : ℤ) → n ≢ m → without_end m (lone n) ≡ Some (lone n)
lone_without n m other =
    let a : is_same n m ≡ false = by_test (is_same n m) (λ e. absurd (other (same_tells n m e))) (λ e. e) in
    rw a refl

lone_dropped : (n : ℤ) → without_end n (lone n) ≡ None
unfolding without_first
lone_dropped n =
    let a : is_same n n ≡ true = and_both (int_le n n) (int_le n n) (sym (omega (arith, ints))) (sym (omega (arith, ints))) in
    let b : int_lt n n ≡ false = sym (omega (arith, ints)) in
    rw (a, b) refl

without_size : (x : Stride) (t : ℕ) → IsStride x → GivesSize stride_sets (without x t) x.size
without_size x t s = rest_size x.size (without_end (pos t)) (pos 0) (full x.size -ℤ pos 1) (unsigned_of x) s.size (end_part (pos t)) (of_unsigned x s)

pub without_gives : (x : Stride) (s t : ℕ) → IsStride x → Covers x s → s ≢ t → Gives stride_sets (without x t) s
without_gives x s t kept h other = subst (Gives stride_sets (without x t)) (word_itself x.size s (member_below x.size x.numbers s h))
    (rest_gives x.size (without_end (pos t)) (pos 0) (full x.size -ℤ pos 1) (pos s) (unsigned_of x) kept.size.least (end_part (pos t)) (end_keeps (pos t) (pos s) (λ e. other (omega (arith, ints, e)))) (of_unsigned x kept) (unsigned_some x s kept h))

not_true : (v : Bool) → not v ≡ true → v ≡ false
not_true true e = absurd (false≢true e)
not_true false e = refl

not_false : (v : Bool) → not v ≡ false → v ≡ true
not_false true e = refl
not_false false e = absurd (false≢true (sym e))

unequal : (s t : ℕ) → (s == t) ≡ false → s ≢ t
unequal s t e f = false≢true (sym e ∙ eq-eqb s t f)

unequal_to : (x y : Stride) (t : ℕ) → IsStride x → ((u : ℕ) → Covers y u → u ≡ t)
    → IsAssumed stride_sets Neq x y (without x t)
unequal_to x y t of_x alone = record {
  size = without_size x t of_x;
  covering = λ s u h k r. without_gives x s t of_x h (λ e. unequal s u (not_true (s == u) (bit_true (not (s == u)) r)) (e ∙ sym (alone u k)));
  sharp = λ s u h k r. let one = one_of x s of_x h in
      let other : pos s ≢ pos t = λ e. unequal s u (not_true (s == u) (bit_true (not (s == u)) r)) (omega (arith, ints, e, alone u k.is)) in
      one_given x.size (pos s) s (without_end (pos t) (lone (pos s))) (without x t) of_x.size.least (word_itself x.size s (member_below x.size x.numbers s h.is)) (lone_without (pos s) (pos t) other)
      (unsigned_rest_one x (without_end (pos t)) of_x one.0 ∙ ap (λ (v : ℕ). rest_value x.size (without_end (pos t) (lone (pos v)))) one.1);
  sharp_none = λ s u h k r. let one = one_of x s of_x h in
      let e : s ≡ t = eqb-true s u (not_false (s == u) (bit_fails (not (s == u)) r)) ∙ alone u k.is in
      unsigned_rest_one x (without_end (pos t)) of_x one.0 ∙ ap (λ (v : ℕ). rest_value x.size (without_end (pos t) (lone (pos v)))) (one.1 ∙ e) ∙ ap (rest_value x.size) (lone_dropped (pos t));
}

assumed_eq : (x y : Stride) → IsStride x → IsStride y → IsAssumed stride_sets Eq x y (assumed Eq x y)
assumed_eq x y of_x of_y = by_test (is_one y)
    (λ one. rw one (equal_to x y (word_of y) of_x (λ u k. one_word_alone y u one k)))
    (λ more. rw more (unsigned_order Eq x y (unsigned_least y) (unsigned_greatest y) of_x of_y
    (λ s t k small r. let e = eqb-true s t (bit_true (s == t) r) in (omega (arith, ints, e, bottom y t of_y k), omega (arith, ints, e, top y t of_y k)))
    (λ s t one e r. absurd (false≢true (sym more ∙ one)))))

assumed_neq : (x y : Stride) → IsStride x → IsStride y → IsAssumed stride_sets Neq x y (assumed Neq x y)
assumed_neq x y of_x of_y = by_test (is_one y)
    (λ one. rw one (unequal_to x y (word_of y) of_x (λ u k. one_word_alone y u one k)))
    (λ more. rw more (record {
      size = λ d is. subst (IsOfSize stride_sets x.size) (same_Some x d is) (record { kept = of_x; size = refl });
      covering = λ s t h k r. (x, refl, h);
      sharp = λ s t h k r. (x, refl, h);
      sharp_none = λ s t h k r. absurd (false≢true (sym more ∙ sharp_one y t of_y k));
    }))

pub is_assumed : (rel : Rel) (x y : Stride) → IsStride x → IsStride y → x.size ≡ y.size
    → IsAssumed stride_sets rel x y (assumed rel x y)
is_assumed Eq x y of_x of_y same = assumed_eq x y of_x of_y
is_assumed Neq x y of_x of_y same = assumed_neq x y of_x of_y
is_assumed ULt x y of_x of_y same = assumed_u_lt x y of_x of_y
is_assumed ULe x y of_x of_y same = assumed_u_le x y of_x of_y
is_assumed UGt x y of_x of_y same = assumed_u_gt x y of_x of_y
is_assumed UGe x y of_x of_y same = assumed_u_ge x y of_x of_y
is_assumed SLt x y of_x of_y same = assumed_s_lt x y of_x of_y same
is_assumed SLe x y of_x of_y same = assumed_s_le x y of_x of_y same
is_assumed SGt x y of_x of_y same = assumed_s_gt x y of_x of_y same
is_assumed SGe x y of_x of_y same = assumed_s_ge x y of_x of_y same

-- ---- joins of one and the same word

lone_hull : (n : ℤ) → hull (lone n) (lone n) ≡ lone n
unfolding hull
lone_hull n =
    let a : int_lt n n ≡ false = sym (omega (arith, ints)) in
    rw (a, a) refl

lone_join : (w : ℕ) (n : ℤ) → join w (lone n) (lone n) ≡ norm w (lone n)
unfolding join
lone_join w n =
    let r = is_hull (moved (full w) (lone n)) (lone n) (moved_is (full w) (lone n) (is_lone n)) (is_lone n) in
    let s = is_hull (lone n) (moved (full w) (lone n)) (is_lone n) (moved_is (full w) (lone n) (is_lone n)) in
    let second = hull (moved (full w) (lone n)) (lone n) in
    let third = hull (lone n) (moved (full w) (lone n)) in
    let a : int_lt (second.hi -ℤ second.lo) (n -ℤ n) ≡ false = sym (omega (arith, ints, r.order)) in
    let b : int_lt (third.hi -ℤ third.lo) (n -ℤ n) ≡ false = sym (omega (arith, ints, s.order)) in
    rw (lone_hull n, a, b) refl

pub joined_one : (x y : Stride) (t : ℕ) → IsStride x → IsStride y → x.size ≡ y.size → IsOnly stride_sets x t
    → IsOnly stride_sets y t → IsOnly stride_sets (joined x y) t
joined_one x y t of_x of_y same h k =
    let w = x.size in
    let one = one_of x t of_x h in
    let also = one_of y t of_y k in
    let n = signed w t in
    let e : x.numbers ≡ lone n = lone_numbers x of_x one.0 ∙ ap lone (low_reads x of_x ∙ ap (signed w) one.1) in
    let f : y.numbers ≡ lone n = lone_numbers y of_y also.0 ∙ ap lone (low_reads y of_y ∙ ap (signed y.size) also.1 ∙ ap (λ (v : ℕ). signed v t) (sym same)) in
    let g : join w x.numbers y.numbers ≡ norm w (lone n) = ap (λ (p : Progression). join w p y.numbers) e ∙ ap (λ (p : Progression). join w (lone n) p) f ∙ lone_join w n in
    let there : IsOnly stride_sets (record { size = w; numbers = norm w (lone n) }) t = subst (IsOnly stride_sets (record { size = w; numbers = norm w (lone n) })) (word_signed w t (member_below w x.numbers t h.is)) (lone_only w n of_x.size.least) in
    subst (λ (p : Progression). IsOnly stride_sets (record { size = w; numbers = p }) t) (sym g) there
