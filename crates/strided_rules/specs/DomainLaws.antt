-- The laws of strided values.
--   stride_is_order    they are a lattice
--   stride_is_sets     and a domain
use Rattle.std.proofs.Common.{◌≡◌, ◌≢◌, ℕ, zero, suc, ℤ, pos, Bool, not, true, false, List, [], ◌∷◌, map, length, Option, Some, None, IsSome, ◌+◌, ◌*◌, ◌/◌, ◌%◌, ◌<◌, ◌^◌, arith, refl, sym, ap, ◌∙◌, subst, inl, inr, ⊎_elim}
use Rattle.std.specs.Prelude.{◌-ℤ◌, ◌*ℤ◌, ◌≤ℤ◌, ◌<ℤ◌, ◌&&◌, ◌==◌, int_le, int_lt, int_div, nat_le, nat_lt, min, max, unsigned_abs, slice_get, slice_index, if◌then◌else◌}
use Rattle.std.specs.Int.{int_div_euclid, int_min, int_max}
use Rattle.std.proofs.lemmas.Int.{ints, clamps}
use Rattle.std.proofs.lemmas.Nat.{pow_pos, div-add-mod'}
use Rattle.std.proofs.lemmas.Bool.{ltb-true, ltb-false, leb-true, leb-false, eqb-true, eq-eqb, false≢true}
use Rattle.std.proofs.lemmas.Option.{same_Some, none-some}
use Rattle.lists.specs.MemberLaws.{first_member, further_member}
use Rattle.whole_numbers.specs.MultipleLaws.{by_test, divides_same}
use Rattle.alf_ops.specs.declared.operator.Op.{Op}
use Rattle.alf_ops.specs.declared.operator.Op.TheVariants.{Neg, Not, Add, Sub, CAdd, CSub, UMul, SMul, UDiv, SDiv, UMod, SMod, LShift, RShift, RShiftA, And, Or, Xor, Eq, Neq, ULt, ULe, UGt, UGe, SLt, SLe, SGt, SGe, SExt, ZExt, Trunc, Select, Conc, If, RotL, RotR, UMin, UMax, SMin, SMax}
use Rattle.alf_ops.specs.declared.layout.Layout.{Layout}
use Rattle.alf_ops.specs.declared.layout.Layout.TheVariants.{Unary, Sum, Carry, Joined, First, Second, Binary, Comparison, Extension, Truncation, Field, Choice}
use Rattle.alf_ops.specs.Layouts.{size_count, is_size, is_typed, is_written_so, result_by_layout, operands_by_layout}
use Rattle.alf_ops.specs.TwosComplement.{word, signed}
use Rattle.alf_ops.specs.Table.{layout_of, formula, result_size, size_of_result, operand_sizes}
use Rattle.alf_ops.specs.Words.{value, divides, DividesByZero}
use Rattle.domain_core.specs.Orders.{IsOrder}
use Rattle.domain_core.specs.WordSets.{IsWordSize, IsOfSize, HaveSizes, HaveWords, HaveOneWord, AreKept, Gives, GivesOnly, GivesSize, IsApplied}
use Rattle.progressions.specs.declared.ends.Progression.{Progression}
use Rattle.progressions.specs.declared.ends.Pieces.{Pieces}
use Rattle.progressions.specs.Progressions.{Has, HasSome, IsProgression, full}
use Rattle.progressions.specs.Images.{products, quotients}
use Rattle.progressions.specs.Parts.{without_first, without_last, SomeHas, IfPiece, ArePieces}
use Rattle.progressions.specs.PartLaws.{unsigned_has, without_first_has, without_last_has}
use Rattle.progressions.specs.ProgressionLaws.{has_lo}
use Rattle.progressions.specs.ImageLaws.{products_has, products_is, quotients_has, quotients_is}
use Rattle.flat_domain.specs.OperatorSizeLaws.{word_below, result_is_size}
use Rattle.strided_rules.specs.Strides.{Stride, IsStride, Covers, one_word}
use Rattle.strided_rules.specs.Joins.{each, kept_value}
use Rattle.strided_rules.specs.Rules.{above, ratios, toward_zero, rests, signed_rests, lesser, greater}
use Rattle.strided_rules.specs.Members.{unsigned_of, signed_of, is_one, word_of, has, is_same, part_of, parts_of, without_end, without}
use Rattle.strided_rules.specs.Operators.{unsigned_pair, signed_pair, unsigned_each, signed_each, s_div, u_mod, s_mod, l_shift_by, r_shift_by, r_shift_a_by, choice, may_equal, may_differ, rule}
use Rattle.strided_rules.specs.Domains.{operand, all_one, ruled, known, divisor, by_divisor, divided, applied, stride_order, stride_sets}
use Rattle.strided_rules.specs.PlacedLaws.{from_word, by_distance, word_itself, word_signed, join_first, join_second, member_below, one_placed}
use Rattle.strided_rules.specs.RuleLaws.{rests_has, rests_is, above_has, above_is, ratios_has, ratios_is, toward_zero_has, toward_zero_is, signed_rests_has, signed_rests_is, lesser_has, lesser_is, greater_has, greater_is}
use Rattle.strided_rules.specs.MemberLaws.{unsigned_some, signed_some, of_unsigned, both, and_both, same_tells, has_tells, one_word_alone, some_word, sharp_one, one_only, parts_are, rest_gives, rest_size, end_part, end_keeps}
use Rattle.strided_rules.specs.OperatorLaws.{Good, good_as, every_good, unsigned_good, signed_good, unsigned_pair_good, signed_pair_good, by_word_good, neg_good, complement_good, add_good, sub_good, trunc_good, z_ext_good, r_shift_good, select_good, l_shift_good, conjunction_good, truth_good, less_good, less_or_equal_good, equal_where, differ_where, choice_good}

-- ---- order

pub stride_is_order : IsOrder Stride stride_order
stride_is_order = record {
  itself = λ a. (refl, λ t h. h);
  farther = λ a b c h k. (h.0 ∙ k.0, λ t there. k.1 t (h.1 t there));
  left = λ a b like. (refl, λ t h. join_first a.size a.numbers b.numbers t like.first.size.least h);
  right = λ a b like. (sym like.size, λ t h. join_second a.size a.numbers b.numbers t like.first.size.least (rw like.size h));
}

-- ---- what each layout gives of its operands

abbrev Given : Layout → ℕ → ℕ → Stride → Stride → Stride → ℕ → ℕ → ℕ → Type 0
Given Unary m n a b c x y z = Good m a x
Given Sum m n a b c x y z = Good m a x × Good m b y × Good 1 c z
Given Carry m n a b c x y z = Good m a x × Good m b y × Good 1 c z
Given Joined m n a b c x y z = Good m a x × Good n b y
Given First m n a b c x y z = Good m a x × Good n b y
Given Second m n a b c x y z = Good m a x × Good n b y
Given Binary m n a b c x y z = Good m a x × Good m b y
Given Comparison m n a b c x y z = Good m a x × Good m b y
Given Extension m n a b c x y z = Good m a x
Given Truncation m n a b c x y z = Good m a x
Given Field m n a b c x y z = Good m a x
Given Choice m n a b c x y z = Good 1 a x × Good m b y × Good m c z

rest_kept : (a : Stride) (args : List Stride) → AreKept stride_sets (a ∷ args) → AreKept stride_sets args
rest_kept a args of_args e c = of_args e (further_member a args e c)

operand_good : (sizes : List ℕ) (args : List Stride) (xs : List ℕ) (i s : ℕ) → slice_get sizes i ≡ Some s
    → HaveSizes stride_sets sizes args → AreKept stride_sets args → HaveWords stride_sets args xs
    → Good s (operand args i) (slice_index xs i)
operand_good [] args xs i s e sized of_args words = cc
operand_good (t ∷ sizes) [] xs i s e sized of_args words = absurd sized
operand_good (t ∷ sizes) (a ∷ args) [] i s e sized of_args words = absurd words
operand_good (t ∷ sizes) (a ∷ args) (x ∷ xs) zero s e sized of_args words = record { kept = of_args a (first_member a args); size = sized.0 ∙ same_Some t s e; covers = words.0 }
operand_good (t ∷ sizes) (a ∷ args) (x ∷ xs) (suc i) s e sized of_args words = operand_good sizes args xs i s e sized.1 (rest_kept a args of_args) words.1

given_of : (layout : Layout) (m n h : ℕ) (args : List Stride) (xs : List ℕ)
    → HaveSizes stride_sets (operands_by_layout layout m n h) args → AreKept stride_sets args
    → HaveWords stride_sets args xs
    → Given layout m n (operand args 0) (operand args 1) (operand args 2) (slice_index xs 0) (slice_index xs 1) (slice_index xs 2)
given_of Unary m n h args xs s k w = operand_good (m ∷ []) args xs 0 m refl s k w
given_of Sum m n h args xs s k w = (operand_good (m ∷ m ∷ 1 ∷ []) args xs 0 m refl s k w, operand_good (m ∷ m ∷ 1 ∷ []) args xs 1 m refl s k w, operand_good (m ∷ m ∷ 1 ∷ []) args xs 2 1 refl s k w)
given_of Carry m n h args xs s k w = (operand_good (m ∷ m ∷ 1 ∷ []) args xs 0 m refl s k w, operand_good (m ∷ m ∷ 1 ∷ []) args xs 1 m refl s k w, operand_good (m ∷ m ∷ 1 ∷ []) args xs 2 1 refl s k w)
given_of Joined m n h args xs s k w = (operand_good (m ∷ n ∷ []) args xs 0 m refl s k w, operand_good (m ∷ n ∷ []) args xs 1 n refl s k w)
given_of First m n h args xs s k w = (operand_good (m ∷ n ∷ []) args xs 0 m refl s k w, operand_good (m ∷ n ∷ []) args xs 1 n refl s k w)
given_of Second m n h args xs s k w = (operand_good (m ∷ n ∷ []) args xs 0 m refl s k w, operand_good (m ∷ n ∷ []) args xs 1 n refl s k w)
given_of Binary m n h args xs s k w = (operand_good (m ∷ m ∷ []) args xs 0 m refl s k w, operand_good (m ∷ m ∷ []) args xs 1 m refl s k w)
given_of Comparison m n h args xs s k w = (operand_good (m ∷ m ∷ []) args xs 0 m refl s k w, operand_good (m ∷ m ∷ []) args xs 1 m refl s k w)
given_of Extension m n h args xs s k w = operand_good (m ∷ []) args xs 0 m refl s k w
given_of Truncation m n h args xs s k w = operand_good (m ∷ []) args xs 0 m refl s k w
given_of Field m n h args xs s k w = operand_good (m ∷ []) args xs 0 m refl s k w
given_of Choice m n h args xs s k w = (operand_good (1 ∷ m ∷ m ∷ []) args xs 0 1 refl s k w, operand_good (1 ∷ m ∷ m ∷ []) args xs 1 m refl s k w, operand_good (1 ∷ m ∷ m ∷ []) args xs 2 m refl s k w)

-- ---- the rules

bit_below : (c : Stride) (z : ℕ) → Good 1 c z → z < 2
bit_below c z g = let e : 2 ^ c.size ≡ 2 = ap (λ (k : ℕ). 2 ^ k) g.size in omega (arith, e, member_below c.size c.numbers z g.covers)

unsigned_there : (m : ℕ) (a : Stride) (x : ℕ) → Good m a x → SomeHas (unsigned_of a) (pos x)
unsigned_there m a x g = unsigned_some a x g.kept g.covers

signed_there : (m : ℕ) (a : Stride) (x : ℕ) → Good m a x → SomeHas (signed_of a) (signed m x)
signed_there m a x g = rw (← g.size) (signed_some a x g.kept g.covers)

same_sizes : (m : ℕ) (a b : Stride) (x y : ℕ) → Good m a x → Good m b y → a.size ≡ b.size
same_sizes m a b x y g h = g.size ∙ sym h.size

fits_size : (m : ℕ) (a : Stride) (x : ℕ) → Good m a x → x < 2 ^ m
fits_size m a x g = rw (← g.size) (member_below a.size a.numbers x g.covers)

not_below : (x y : ℕ) → nat_lt x y ≡ false → pos y ≤ℤ pos x
not_below x y e = omega (arith, ints, ltb-false x y e)

not_at_most : (x y : ℕ) → nat_le x y ≡ false → pos y <ℤ pos x
not_at_most x y e = omega (arith, ints, leb-false x y e)

lesser_of : (x y : ℕ) → int_min (pos x) (pos y) ≡ pos (min x y)
lesser_of x y = omega (arith, ints, clamps)

greater_of : (x y : ℕ) → int_max (pos x) (pos y) ≡ pos (max x y)
greater_of x y = omega (arith, ints, clamps)

-- a reading of a word other than 0 is not 0
reading_some : (n y : ℕ) → y < 2 ^ n → y ≢ 0 → unsigned_abs (signed n y) ≢ 0
reading_some n y small some e =
    let z : signed n y ≡ pos 0 = omega (arith, ints, e) in
    some (sym (word_signed n y small) ∙ ap (λ (k : ℤ). word n k) z ∙ word_itself n 0 (pow_pos n))

-- where the operator does not divide
rule_good : (op : Op) (m n h : ℕ) (a b c : Stride) (x y z : ℕ) → divides op ≡ false
    → Given (layout_of op) m n a b c x y z → is_typed (layout_of op) m n h ≡ true
    → IsWordSize (result_by_layout (layout_of op) m n h)
    → Good (result_by_layout (layout_of op) m n h) (rule op m n h a b c) (word (result_by_layout (layout_of op) m n h) (formula op m n h x y z))
rule_good Neg m n h a b c x y z d g = rw (← g.size) (λ typed size. neg_good a x g.kept g.covers)
rule_good Not m n h a b c x y z d g = rw (← g.size) (λ typed size. complement_good a x g.kept g.covers)
rule_good Add m n h a b c x y z d g = rw (← g.0.size) (λ typed size.
    add_good a b c x y z g.0.kept g.1.kept g.2.kept (same_sizes m a b x y g.0 g.1) (bit_below c z g.2) g.0.covers
    g.1.covers g.2.covers)
rule_good Sub m n h a b c x y z d g = rw (← g.0.size) (λ typed size.
    sub_good a b c x y z g.0.kept g.1.kept g.2.kept (same_sizes m a b x y g.0 g.1) (bit_below c z g.2) g.0.covers
    g.1.covers g.2.covers)
rule_good CAdd m n h a b c x y z d g = λ typed size. every_good 1 (word 1 (formula CAdd m n h x y z)) size (word_below 1 (formula CAdd m n h x y z))
rule_good CSub m n h a b c x y z d g = λ typed size. every_good 1 (word 1 (formula CSub m n h x y z)) size (word_below 1 (formula CSub m n h x y z))
rule_good UMul m n h a b c x y z d g = λ typed size. unsigned_pair_good (m + n) products a b x y (pos (x * y)) size g.0.kept g.1.kept g.0.covers g.1.covers
    (λ p q i j. products_is p q i.progression j.progression) (λ p q i j k l. products_has p q (pos x) (pos y) i.progression j.progression k l)
rule_good SMul m n h a b c x y z d g =
    rw (← g.0.size, ← g.1.size) (λ typed size.
    signed_pair_good (a.size + b.size) products a b x y (signed a.size x *ℤ signed b.size y) size g.0.kept g.1.kept
    g.0.covers g.1.covers
    (λ p q i j. products_is p q i.progression j.progression) (λ p q i j k l. products_has p q (signed a.size x) (signed b.size y) i.progression j.progression k l))
rule_good UDiv m n h a b c x y z d g = cc
rule_good SDiv m n h a b c x y z d g = cc
rule_good UMod m n h a b c x y z d g = cc
rule_good SMod m n h a b c x y z d g = cc
rule_good LShift m n h a b c x y z d g = rw (← g.0.size) (λ typed size.
    by_word_good b y a.size (word a.size (pos (x * 2 ^ y))) (l_shift_by a) size (word_below a.size (pos (x * 2 ^ y)))
    g.1.covers (l_shift_good a x y g.0.kept g.0.covers))
rule_good RShift m n h a b c x y z d g = rw (← g.0.size) (λ typed size.
    by_word_good b y a.size (word a.size (pos (x / 2 ^ y))) (r_shift_by a) size (word_below a.size (pos (x / 2 ^ y)))
    g.1.covers (r_shift_good a x y g.0.kept g.0.covers))
rule_good RShiftA m n h a b c x y z d g =
    rw (← g.0.size) (λ typed size. let r = int_div_euclid (signed a.size x) (full y) in
    by_word_good b y a.size (word a.size r) (r_shift_a_by a) size (word_below a.size r) g.1.covers
    (signed_good a.size (quotients (full y)) a x r size g.0.kept g.0.covers
    (λ p piece. quotients_is (2 ^ y) p (pow_pos y) piece.progression)
    (λ p piece i. quotients_has (2 ^ y) p (signed a.size x) (pow_pos y) i)))
rule_good And m n h a b c x y z d g = rw (← g.0.size) (λ typed size. conjunction_good a b x y g.0.kept g.1.kept (same_sizes m a b x y g.0 g.1) g.0.covers g.1.covers)
rule_good Or m n h a b c x y z d g = λ typed size. every_good m (word m (formula Or m n h x y z)) size (word_below m (formula Or m n h x y z))
rule_good Xor m n h a b c x y z d g = λ typed size. every_good m (word m (formula Xor m n h x y z)) size (word_below m (formula Xor m n h x y z))
rule_good Eq m n h a b c x y z d g = λ typed size. truth_good (may_equal a b) (may_differ a b) (x == y)
    (λ e. equal_where a b x g.0.kept g.1.kept g.0.covers (subst (Covers b) (sym (eqb-true x y e)) g.1.covers))
    (λ e. differ_where a b x y g.0.covers g.1.covers (λ same. false≢true (sym e ∙ eq-eqb x y same)))
rule_good Neq m n h a b c x y z d g = λ typed size. truth_good (may_differ a b) (may_equal a b) (not (x == y))
    (λ e. differ_where a b x y g.0.covers g.1.covers (λ same. false≢true (ap not (sym (eq-eqb x y same)) ∙ e)))
    (λ e. equal_where a b x g.0.kept g.1.kept g.0.covers (subst (Covers b) (sym (eqb-true x y (not_false (x == y) e))) g.1.covers))
  where
    not_false : (v : Bool) → not v ≡ false → v ≡ true
    not_false true e = refl
    not_false false e = absurd (false≢true (sym e))
rule_good ULt m n h a b c x y z d g = λ typed size.
    less_good (unsigned_of a) (unsigned_of b) (pos x) (pos y) (nat_lt x y) (unsigned_there m a x g.0)
    (unsigned_there m b y g.1) (λ e. omega (arith, ints, ltb-true x y e)) (not_below x y)
rule_good ULe m n h a b c x y z d g = λ typed size.
    less_or_equal_good (unsigned_of a) (unsigned_of b) (pos x) (pos y) (nat_le x y) (unsigned_there m a x g.0)
    (unsigned_there m b y g.1) (λ e. omega (arith, ints, leb-true x y e)) (not_at_most x y)
rule_good UGt m n h a b c x y z d g = λ typed size.
    less_good (unsigned_of b) (unsigned_of a) (pos y) (pos x) (nat_lt y x) (unsigned_there m b y g.1)
    (unsigned_there m a x g.0) (λ e. omega (arith, ints, ltb-true y x e)) (not_below y x)
rule_good UGe m n h a b c x y z d g = λ typed size.
    less_or_equal_good (unsigned_of b) (unsigned_of a) (pos y) (pos x) (nat_le y x) (unsigned_there m b y g.1)
    (unsigned_there m a x g.0) (λ e. omega (arith, ints, leb-true y x e)) (not_at_most y x)
rule_good SLt m n h a b c x y z d g = λ typed size.
    less_good (signed_of a) (signed_of b) (signed m x) (signed m y) (int_lt (signed m x) (signed m y))
    (signed_there m a x g.0) (signed_there m b y g.1) (λ e. omega (arith, ints, e)) (λ e. omega (arith, ints, e))
rule_good SLe m n h a b c x y z d g = λ typed size.
    less_or_equal_good (signed_of a) (signed_of b) (signed m x) (signed m y) (int_le (signed m x) (signed m y))
    (signed_there m a x g.0) (signed_there m b y g.1) (λ e. omega (arith, ints, e)) (λ e. omega (arith, ints, e))
rule_good SGt m n h a b c x y z d g = λ typed size.
    less_good (signed_of b) (signed_of a) (signed m y) (signed m x) (int_lt (signed m y) (signed m x))
    (signed_there m b y g.1) (signed_there m a x g.0) (λ e. omega (arith, ints, e)) (λ e. omega (arith, ints, e))
rule_good SGe m n h a b c x y z d g = λ typed size.
    less_or_equal_good (signed_of b) (signed_of a) (signed m y) (signed m x) (int_le (signed m y) (signed m x))
    (signed_there m b y g.1) (signed_there m a x g.0) (λ e. omega (arith, ints, e)) (λ e. omega (arith, ints, e))
rule_good SExt m n h a b c x y z d g = rw (← g.size) (λ typed size. signed_good n (λ p. p) a x (signed a.size x) size g.kept g.covers (λ p piece. piece.progression) (λ p piece i. i))
rule_good ZExt m n h a b c x y z d g = λ typed size. z_ext_good n a x size g.kept g.covers
rule_good Trunc m n h a b c x y z d g = λ typed size. trunc_good n a x size (rw g.size (leb-true n m (both (is_size m && is_size n) (nat_le n m) typed).1)) g.kept g.covers
rule_good Select m n h a b c x y z d g = λ typed size.
    let t = both (is_size m && nat_le n h) (nat_lt h m) typed in
    select_good n h a x (leb-true n h (both (is_size m) (nat_le n h) t.0).1) (rw g.size (ltb-true h m t.1)) g.kept g.covers
rule_good Conc m n h a b c x y z d g = λ typed size. unsigned_pair_good (m + n) (above (full n)) a b x y (pos (x * 2 ^ n + y)) size g.0.kept g.1.kept g.0.covers g.1.covers
    (λ p q i j. above_is (2 ^ n) p q i.progression j.progression) (λ p q i j k l. above_has (2 ^ n) p q (pos x) (pos y) k l)
rule_good If m n h a b c x y z d g = λ typed size. good_as m (choice a b c) (if x == 1 then y else z) (word m (if x == 1 then pos y else pos z))
    (by_test (x == 1) (λ e. rw e (sym (word_itself m y (fits_size m b y g.1)))) (λ e. rw e (sym (word_itself m z (fits_size m c z g.2)))))
    (rw (← g.1.size) (choice_good a b c x y z g.0.kept g.1.kept g.2.kept (same_sizes m b c y z g.1 g.2) (bit_below a x g.0) g.0.covers g.1.covers g.2.covers))
rule_good RotL m n h a b c x y z d g = λ typed size. every_good m (word m (formula RotL m n h x y z)) size (word_below m (formula RotL m n h x y z))
rule_good RotR m n h a b c x y z d g = λ typed size. every_good m (word m (formula RotR m n h x y z)) size (word_below m (formula RotR m n h x y z))
rule_good UMin m n h a b c x y z d g = λ typed size. good_as m (unsigned_pair m lesser a b) (word m (int_min (pos x) (pos y))) (word m (pos (min x y))) (ap (word m) (lesser_of x y))
    (unsigned_pair_good m lesser a b x y (int_min (pos x) (pos y)) size g.0.kept g.1.kept g.0.covers g.1.covers
    (λ p q i j. lesser_is p q i.progression j.progression) (λ p q i j k l. lesser_has p q (pos x) (pos y) k l))
rule_good UMax m n h a b c x y z d g = λ typed size. good_as m (unsigned_pair m greater a b) (word m (int_max (pos x) (pos y))) (word m (pos (max x y))) (ap (word m) (greater_of x y))
    (unsigned_pair_good m greater a b x y (int_max (pos x) (pos y)) size g.0.kept g.1.kept g.0.covers g.1.covers
    (λ p q i j. greater_is p q i.progression j.progression) (λ p q i j k l. greater_has p q (pos x) (pos y) k l))
rule_good SMin m n h a b c x y z d g = λ typed size. good_as m (signed_pair m lesser a b) (word m (int_min (signed a.size x) (signed b.size y))) (word m (int_min (signed m x) (signed m y)))
    (rw (g.0.size, g.1.size) refl)
    (signed_pair_good m lesser a b x y (int_min (signed a.size x) (signed b.size y)) size g.0.kept g.1.kept g.0.covers
    g.1.covers (λ p q i j. lesser_is p q i.progression j.progression)
    (λ p q i j k l. lesser_has p q (signed a.size x) (signed b.size y) k l))
rule_good SMax m n h a b c x y z d g = λ typed size. good_as m (signed_pair m greater a b) (word m (int_max (signed a.size x) (signed b.size y))) (word m (int_max (signed m x) (signed m y)))
    (rw (g.0.size, g.1.size) refl)
    (signed_pair_good m greater a b x y (int_max (signed a.size x) (signed b.size y)) size g.0.kept g.1.kept g.0.covers
    g.1.covers (λ p q i j. greater_is p q i.progression j.progression)
    (λ p q i j k l. greater_has p q (signed a.size x) (signed b.size y) k l))

-- ---- division

u_div_good : (a b : Stride) (x y : ℕ) → IsStride a → IsStride b → Covers a x → Covers b y → y ≢ 0
    → Good a.size (unsigned_pair a.size ratios a b) (word a.size (pos (x / y)))
u_div_good a b x y s t h k some = unsigned_pair_good a.size ratios a b x y (pos (x / y)) s.size s t h k
    (λ p q i j. ratios_is p q i.low i.progression j.progression) (λ p q i j u v. ratios_has p q (pos x) (pos y) i.low (omega (arith, ints, some)) u v)

s_div_good : (a b : Stride) (x y : ℕ) → IsStride a → IsStride b → Covers a x → Covers b y → y ≢ 0
    → Good a.size (s_div a b) (word a.size (int_div (signed a.size x) (signed b.size y)))
s_div_good a b x y s t h k some =
    let w = a.size in
    let r = int_div (signed w x) (signed b.size y) in
    let other = reading_some b.size y (member_below b.size b.numbers y k) some in
    by_word_good b y w (word w r) (λ d. signed_each w (toward_zero (signed b.size d)) a) s.size (word_below w r) k
    (signed_good w (toward_zero (signed b.size y)) a x r s.size s h (λ p i. toward_zero_is (signed b.size y) p) (λ p i u. toward_zero_has (signed b.size y) p (signed w x) other u))

u_mod_good : (a b : Stride) (x y : ℕ) → IsStride a → IsStride b → Covers a x → Covers b y → y ≢ 0
    → Good b.size (u_mod a b) (word b.size (pos x -ℤ (pos y *ℤ pos (x / y))))
u_mod_good a b x y s t h k some =
    let w = b.size in
    let e : pos (x % y) ≡ pos x -ℤ (pos y *ℤ pos (x / y)) = omega (arith, ints, div-add-mod' x y) in
    let positive : 0 < y = omega (arith, some) in
    good_as w (u_mod a b) (word w (pos (x % y))) (word w (pos x -ℤ (pos y *ℤ pos (x / y)))) (ap (word w) e)
    (by_word_good b y w (word w (pos (x % y))) (λ d. unsigned_each w (rests (pos d)) a) t.size (word_below w (pos (x % y))) k
    (unsigned_good w (rests (pos y)) a x (pos (x % y)) t.size s h (λ p i. rests_is y p positive i.progression) (λ p i u. rests_has y p (pos x) positive u)))

s_mod_good : (a b : Stride) (x y : ℕ) → IsStride a → IsStride b → Covers a x → Covers b y → y ≢ 0
    → Good b.size (s_mod a b)
    (word b.size (signed a.size x -ℤ (signed b.size y *ℤ int_div (signed a.size x) (signed b.size y))))
s_mod_good a b x y s t h k some =
    let w = b.size in
    let r = signed a.size x -ℤ (signed w y *ℤ int_div (signed a.size x) (signed w y)) in
    let other = reading_some w y (member_below w b.numbers y k) some in
    by_word_good b y w (word w r) (λ d. signed_each w (signed_rests (pos (unsigned_abs (signed w d)))) a) t.size (word_below w r) k
    (signed_good w (signed_rests (pos (unsigned_abs (signed w y)))) a x r t.size s h (λ p i. signed_rests_is (signed w y) p other) (λ p i u. signed_rests_has (signed w y) p (signed a.size x) other u))

-- the four operators that divide
by_division : (P : Op → Type 0) → P UDiv → P SDiv → P UMod → P SMod → (op : Op) → divides op ≡ true → P op
by_division P p q r s Neg e = absurd (false≢true e)
by_division P p q r s Not e = absurd (false≢true e)
by_division P p q r s Add e = absurd (false≢true e)
by_division P p q r s Sub e = absurd (false≢true e)
by_division P p q r s CAdd e = absurd (false≢true e)
by_division P p q r s CSub e = absurd (false≢true e)
by_division P p q r s UMul e = absurd (false≢true e)
by_division P p q r s SMul e = absurd (false≢true e)
by_division P p q r s UDiv e = p
by_division P p q r s SDiv e = q
by_division P p q r s UMod e = r
by_division P p q r s SMod e = s
by_division P p q r s LShift e = absurd (false≢true e)
by_division P p q r s RShift e = absurd (false≢true e)
by_division P p q r s RShiftA e = absurd (false≢true e)
by_division P p q r s And e = absurd (false≢true e)
by_division P p q r s Or e = absurd (false≢true e)
by_division P p q r s Xor e = absurd (false≢true e)
by_division P p q r s Eq e = absurd (false≢true e)
by_division P p q r s Neq e = absurd (false≢true e)
by_division P p q r s ULt e = absurd (false≢true e)
by_division P p q r s ULe e = absurd (false≢true e)
by_division P p q r s UGt e = absurd (false≢true e)
by_division P p q r s UGe e = absurd (false≢true e)
by_division P p q r s SLt e = absurd (false≢true e)
by_division P p q r s SLe e = absurd (false≢true e)
by_division P p q r s SGt e = absurd (false≢true e)
by_division P p q r s SGe e = absurd (false≢true e)
by_division P p q r s SExt e = absurd (false≢true e)
by_division P p q r s ZExt e = absurd (false≢true e)
by_division P p q r s Trunc e = absurd (false≢true e)
by_division P p q r s Select e = absurd (false≢true e)
by_division P p q r s Conc e = absurd (false≢true e)
by_division P p q r s If e = absurd (false≢true e)
by_division P p q r s RotL e = absurd (false≢true e)
by_division P p q r s RotR e = absurd (false≢true e)
by_division P p q r s UMin e = absurd (false≢true e)
by_division P p q r s UMax e = absurd (false≢true e)
by_division P p q r s SMin e = absurd (false≢true e)
by_division P p q r s SMax e = absurd (false≢true e)

-- where it divides, by a word other than 0
divided_good : (op : Op) (m n h : ℕ) (a b : Stride) (x y z : ℕ) → divides op ≡ true → Good m a x → Good n b y → y ≢ 0
    → Good (result_by_layout (layout_of op) m n h) (rule op m n h a b b) (word (result_by_layout (layout_of op) m n h) (formula op m n h x y z))
divided_good op m n h a b x y z d g k some =
    by_division (λ o. Good (result_by_layout (layout_of o) m n h) (rule o m n h a b b) (word (result_by_layout (layout_of o) m n h) (formula o m n h x y z)))
    (rw (← g.size) (u_div_good a b x y g.kept k.kept g.covers k.covers some))
    (rw (← g.size, ← k.size) (s_div_good a b x y g.kept k.kept g.covers k.covers some))
    (rw (← k.size) (u_mod_good a b x y g.kept k.kept g.covers k.covers some))
    (rw (← g.size, ← k.size) (s_mod_good a b x y g.kept k.kept g.covers k.covers some)) op d

two_operands : (op : Op) (sizes : List ℕ) → divides op ≡ true
    → operand_sizes op sizes ≡ slice_index sizes 0 ∷ slice_index sizes 1 ∷ []
two_operands op sizes d = by_division (λ o. operand_sizes o sizes ≡ slice_index sizes 0 ∷ slice_index sizes 1 ∷ []) refl refl refl refl op d

-- a divisor without 0 keeps each other word, and has a word that is not 0
divisor_keeps : (b : Stride) (y : ℕ) → IsStride b → Covers b y → y ≢ 0
    → (d : Stride) × (divisor b ≡ Some d) × Good b.size d y
divisor_keeps b y t h some = by_test (has b 0)
    (λ e. rw e (let w = b.size in
    let small = member_below w b.numbers y h in
    let g =
    rest_gives w (without_end (pos 0)) (pos 0) (full w -ℤ pos 1) (pos y) (unsigned_of b) t.size.least
    (end_part (pos 0)) (end_keeps (pos 0) (pos y) (λ same. some (omega (arith, ints, same)))) (of_unsigned b t)
    (unsigned_some b y t h) in
    let size = rest_size w (without_end (pos 0)) (pos 0) (full w -ℤ pos 1) (unsigned_of b) t.size (end_part (pos 0)) (of_unsigned b t) g.0 g.1 in
    (g.0, g.1, record { kept = size.kept; size = size.size; covers = subst (Covers g.0) (word_itself w y small) g.2 })))
    (λ e. rw e (b, refl, record { kept = t; size = refl; covers = h }))

number_of : (w : ℕ) (a b c : Option Progression) (d : Stride) (least most : ℤ) → IfPiece least most a
    → IfPiece least most b → IfPiece least most c
    → kept_value w (each w (λ p. p) (record { first = a; second = b; third = c })) ≡ Some d → (n : ℤ) × SomeHas (record { first = a; second = b; third = c }) n
unfolding each
number_of w (Some p) b c d least most i j k e = (p.lo, inl (has_lo p i.progression))
number_of w None (Some p) c d least most i j k e = (p.lo, inr (inl (has_lo p j.progression)))
number_of w None None (Some p) d least most i j k e = (p.lo, inr (inr (has_lo p k.progression)))
number_of w None None None d least most i j k e = absurd (none-some d e)

-- what is left of a progression from 0 on has no 0
end_drops : (p : Progression) (n : ℤ) → IsProgression p → pos 0 ≤ℤ p.lo → HasSome (without_end (pos 0) p) n → n ≢ pos 0
end_drops p n is low h = by_test (is_same p.lo (pos 0))
    (λ e. let k : HasSome (without_first p) n = rw e at h in λ z. ((without_first_has p n is).0 k).1 (z ∙ sym (same_tells p.lo (pos 0) e)))
    (λ e. by_test (is_same p.hi (pos 0))
    (λ f. let k : HasSome (without_last p) n = rw (e, f) at h in λ z. ((without_last_has p n is).0 k).1 (z ∙ sym (same_tells p.hi (pos 0) f)))
    (λ f. let k : Has p n = rw (e, f) at h in λ z. false≢true (sym e ∙ and_both (int_le p.lo (pos 0)) (int_le (pos 0) p.lo) (sym (omega (arith, ints, z, k.least))) (sym (omega (arith, ints, low))))))

part_drops : (o : Option Progression) (most n : ℤ) → IfPiece (pos 0) most o
    → HasSome (part_of (without_end (pos 0)) o) n → (n ≢ pos 0) × HasSome o n
part_drops None most n piece h = absurd h
part_drops (Some p) most n piece h = (end_drops p n piece.progression piece.low h, (end_part (pos 0)).inside p n piece.progression h)

parts_drop : (pieces : Pieces) (most n : ℤ) → ArePieces (pos 0) most pieces
    → SomeHas (parts_of (without_end (pos 0)) pieces) n → (n ≢ pos 0) × SomeHas pieces n
parts_drop pieces most n are some = ⊎_elim
    (λ (h : HasSome (part_of (without_end (pos 0)) pieces.first) n). let d = part_drops pieces.first most n are.first h in (d.0, inl d.1))
    (λ more. ⊎_elim
    (λ (h : HasSome (part_of (without_end (pos 0)) pieces.second) n). let d = part_drops pieces.second most n are.second h in (d.0, inr (inl d.1)))
    (λ (h : HasSome (part_of (without_end (pos 0)) pieces.third) n). let d = part_drops pieces.third most n are.third h in (d.0, inr (inr d.1)))
    more)
    some

same_value : (o : Option Stride) (a b : Stride) → o ≡ Some a → o ≡ Some b → a ≡ b
same_value o a b e f = same_Some a b (sym e ∙ f)

same_covers : (a b : Stride) (t : ℕ) → a ≡ b → Covers a t → Covers b t
same_covers a b t e h = let P : Stride → Type 0 = λ z. Covers z t in subst P e h

-- what is left of a divisor has a word that is not 0
rest_word : (b d : Stride) → IsStride b → without b 0 ≡ Some d → (y : ℕ) × Good b.size d y × (y ≢ 0)
rest_word b d t e =
    let w = b.size in
    let pieces = unsigned_of b in
    let are = of_unsigned b t in
    let parts = parts_of (without_end (pos 0)) pieces in
    let of_parts = parts_are (without_end (pos 0)) (pos 0) (full w -ℤ pos 1) pieces (end_part (pos 0)) are in
    let found = number_of w parts.first parts.second parts.third d (pos 0) (full w -ℤ pos 1) of_parts.first of_parts.second of_parts.third e in
    let n = found.0 in
    let dropped = parts_drop pieces (full w -ℤ pos 1) n are found.1 in
    let g = rest_gives w (without_end (pos 0)) (pos 0) (full w -ℤ pos 1) n pieces t.size.least (end_part (pos 0)) (end_keeps (pos 0) n dropped.0) are dropped.1 in
    let size = rest_size w (without_end (pos 0)) (pos 0) (full w -ℤ pos 1) pieces t.size (end_part (pos 0)) are d e in
    let same : g.0 ≡ d = same_value (without b 0) g.0 d g.1 e in
    let range = (unsigned_has w b.numbers n t.size.least t.placed).0 dropped.1 in (
      word w n,
      record { kept = size.kept; size = size.size; covers = same_covers g.0 d (word w n) same g.2 },
      λ z. dropped.0 (reads_zero w n range.0 range.1 z),
    )
  where
    reads_zero : (w : ℕ) (n : ℤ) → pos 0 ≤ℤ n → n <ℤ full w → word w n ≡ 0 → n ≡ pos 0
    reads_zero w n low high z =
        by_distance w n (pos 0)
        (let f = from_word w n in divides_same (full w) (n -ℤ pos (word w n)) (n -ℤ pos 0) (omega (arith, ints, z)) f)
        (omega (arith, ints, high)) (omega (arith, ints, low, pow_pos w))

divisor_word : (b d : Stride) → IsStride b → divisor b ≡ Some d → (y : ℕ) × Good b.size d y × (y ≢ 0)
divisor_word b d t e = by_test (has b 0)
    (λ f. rest_word b d t (rw f at e))
    (λ f. let same : b ≡ d = same_Some b d (rw f at e) in
    let some = some_word b t in (
      some.0,
      subst (λ (z : Stride). Good b.size z some.0) same (record { kept = t; size = refl; covers = some.1 }),
      λ z. false≢true (sym f ∙ (has_tells b 0 t).1 (subst (Covers b) z some.1)),
    ))

-- ---- operands

ones_alone : (args : List Stride) (xs : List ℕ) → all_one args ≡ true → HaveWords stride_sets args xs
    → map word_of args ≡ xs
ones_alone [] [] e words = refl
ones_alone [] (x ∷ xs) e words = absurd words
ones_alone (a ∷ args) [] e words = absurd words
ones_alone (a ∷ args) (x ∷ xs) e words =
    let h = both (is_one a) (all_one args) e in
    let f = one_word_alone a x h.0 words.0 in
    let g = ones_alone args xs h.1 words.1 in
    rw (g, ← f) refl

ones_of : (args : List Stride) (xs : List ℕ) → AreKept stride_sets args → HaveOneWord stride_sets args xs
    → all_one args ≡ true
ones_of [] [] of_args words = refl
ones_of [] (x ∷ xs) of_args words = absurd words
ones_of (a ∷ args) [] of_args words = absurd words
ones_of (a ∷ args) (x ∷ xs) of_args words = and_both (is_one a) (all_one args) (sharp_one a x (of_args a (first_member a args)) words.0) (ones_of args xs (rest_kept a args of_args) words.1)

one_words : (args : List Stride) (xs : List ℕ) → HaveOneWord stride_sets args xs → HaveWords stride_sets args xs
one_words [] [] words = tt
one_words [] (x ∷ xs) words = absurd words
one_words (a ∷ args) [] words = absurd words
one_words (a ∷ args) (x ∷ xs) words = (words.0.is, one_words args xs words.1)

some_words : (args : List Stride) → AreKept stride_sets args → (xs : List ℕ) × HaveWords stride_sets args xs
some_words [] of_args = ([], tt)
some_words (a ∷ args) of_args =
    let w = some_word a (of_args a (first_member a args)) in
    let rest = some_words args (rest_kept a args of_args) in
    (w.0 ∷ rest.0, (w.1, rest.1))

-- ---- operators at words

divides_zero_test : (op : Op) (xs : List ℕ) → (DividesByZero op xs → ⊥)
    → (divides op && (slice_index xs 1 == 0)) ≡ false
divides_zero_test op xs divides_not = by_test (divides op && (slice_index xs 1 == 0))
    (λ e. let h = both (divides op) (slice_index xs 1 == 0) e in absurd (divides_not (h.0, eqb-true (slice_index xs 1) 0 h.1)))
    (λ e. e)

known_gives : (op : Op) (sizes xs : List ℕ) → IsSome (result_size op sizes) → (DividesByZero op xs → ⊥)
    → GivesOnly stride_sets (known op sizes xs).value (value op sizes xs) × ((known op sizes xs).divide ≡ false)
known_gives op sizes xs typed divides_not =
    let size = result_is_size op sizes typed in
    let small : value op sizes xs < 2 ^ size_of_result op sizes = word_below (size_of_result op sizes) _ in
    rw (divides_zero_test op xs divides_not) ((one_word (size_of_result op sizes) (value op sizes xs), refl, one_only (size_of_result op sizes) (value op sizes xs) size.least small), refl)

known_divides : (op : Op) (sizes xs : List ℕ) → DividesByZero op xs
    → ((known op sizes xs).value ≡ None) × ((known op sizes xs).divide ≡ true)
known_divides op sizes xs zero_divisor = rw (zero_divisor.0, zero_divisor.1) (refl, refl)

known_size : (op : Op) (sizes xs : List ℕ) → IsSome (result_size op sizes)
    → GivesSize stride_sets (known op sizes xs).value (size_of_result op sizes)
known_size op sizes xs typed d is = by_test (divides op && (slice_index xs 1 == 0))
    (λ e. absurd (none-some d (rw e at is)))
    (λ e. let same : one_word (size_of_result op sizes) (value op sizes xs) ≡ d = same_Some _ d (rw e at is) in
    subst (IsOfSize stride_sets (size_of_result op sizes)) same (record { kept = one_placed (size_of_result op sizes) (value op sizes xs) (result_is_size op sizes typed); size = refl }))

-- ---- operators by their rules

typed_test : (op : Op) (sizes : List ℕ) → IsSome (result_size op sizes)
    → is_typed (layout_of op) (slice_index sizes 0) (slice_index sizes 1) (slice_index sizes 2) ≡ true
typed_test op sizes some = by_test (is_written_so (layout_of op) sizes)
    (λ e. (both (length sizes == size_count (layout_of op)) (is_typed (layout_of op) (slice_index sizes 0) (slice_index sizes 1) (slice_index sizes 2)) e).1)
    (λ e. absurd (false≢true (rw e at some)))

ruled_good : (op : Op) (sizes : List ℕ) (args : List Stride) (xs : List ℕ) → IsSome (result_size op sizes)
    → divides op ≡ false → HaveSizes stride_sets (operand_sizes op sizes) args → AreKept stride_sets args
    → HaveWords stride_sets args xs
    → Good (size_of_result op sizes) (ruled op sizes (operand args 0) (operand args 1) (operand args 2)) (value op sizes xs)
ruled_good op sizes args xs typed d sized of_args words =
    rule_good op (slice_index sizes 0) (slice_index sizes 1) (slice_index sizes 2) (operand args 0) (operand args 1) (operand args 2) (slice_index xs 0) (slice_index xs 1) (slice_index xs 2) d
    (given_of (layout_of op) (slice_index sizes 0) (slice_index sizes 1) (slice_index sizes 2) args xs sized of_args words) (typed_test op sizes typed) (result_is_size op sizes typed)

-- the two operands of a division
dividend : (op : Op) (sizes : List ℕ) (args : List Stride) (xs : List ℕ) → divides op ≡ true
    → HaveSizes stride_sets (operand_sizes op sizes) args → AreKept stride_sets args → HaveWords stride_sets args xs
    → Good (slice_index sizes 0) (operand args 0) (slice_index xs 0) × Good (slice_index sizes 1) (operand args 1) (slice_index xs 1)
dividend op sizes args xs d sized of_args words =
    let two : HaveSizes stride_sets (slice_index sizes 0 ∷ slice_index sizes 1 ∷ []) args = subst (λ (l : List ℕ). HaveSizes stride_sets l args) (two_operands op sizes d) sized in (
      operand_good (slice_index sizes 0 ∷ slice_index sizes 1 ∷ []) args xs 0 (slice_index sizes 0) refl two of_args words,
      operand_good (slice_index sizes 0 ∷ slice_index sizes 1 ∷ []) args xs 1 (slice_index sizes 1) refl two of_args words,
    )

by_divisor_good : (op : Op) (sizes : List ℕ) (a d : Stride) (x y z : ℕ) → divides op ≡ true
    → Good (slice_index sizes 0) a x → Good (slice_index sizes 1) d y → y ≢ 0
    → Good (size_of_result op sizes) (ruled op sizes a d d) (word (size_of_result op sizes) (formula op (slice_index sizes 0) (slice_index sizes 1) (slice_index sizes 2) x y z))
by_divisor_good op sizes a d x y z e g k some = divided_good op (slice_index sizes 0) (slice_index sizes 1) (slice_index sizes 2) a d x y z e g k some

divided_gives : (op : Op) (sizes : List ℕ) (args : List Stride) (xs : List ℕ) → divides op ≡ true
    → HaveSizes stride_sets (operand_sizes op sizes) args → AreKept stride_sets args → HaveWords stride_sets args xs
    → (DividesByZero op xs → ⊥)
    → Gives stride_sets (divided op sizes (operand args 0) (operand args 1)).value (value op sizes xs)
divided_gives op sizes args xs d sized of_args words divides_not =
    let g = dividend op sizes args xs d sized of_args words in
    let b = operand args 1 in
    let y = slice_index xs 1 in
    let some : y ≢ 0 = λ z. divides_not (d, z) in
    let k = divisor_keeps b y g.1.kept g.1.covers some in
    let good : Good (slice_index sizes 1) k.0 y = record { kept = k.2.kept; size = k.2.size ∙ g.1.size; covers = k.2.covers } in
    let r = by_divisor_good op sizes (operand args 0) k.0 (slice_index xs 0) y (slice_index xs 2) d g.0 good some in
    rw k.1 (ruled op sizes (operand args 0) k.0 k.0, refl, r.covers)

divided_size : (op : Op) (sizes : List ℕ) (args : List Stride) → divides op ≡ true
    → HaveSizes stride_sets (operand_sizes op sizes) args → AreKept stride_sets args
    → GivesSize stride_sets (divided op sizes (operand args 0) (operand args 1)).value (size_of_result op sizes)
divided_size op sizes args d sized of_args r is =
    let words = some_words args of_args in
    let g = dividend op sizes args words.0 d sized of_args words.1 in
    by_value (divisor (operand args 1)) refl is (λ c e.
    let w = divisor_word (operand args 1) c g.1.kept e in
    let good : Good (slice_index sizes 1) c w.0 = record { kept = w.1.kept; size = w.1.size ∙ g.1.size; covers = w.1.covers } in
    let k = by_divisor_good op sizes (operand args 0) c (slice_index words.0 0) w.0 0 d g.0 good w.2 in record { kept = k.kept; size = k.size })
  where
    by_value : (o : Option Stride) → divisor (operand args 1) ≡ o → by_divisor op sizes (operand args 0) o ≡ Some r
        → ((c : Stride) → divisor (operand args 1) ≡ Some c → IsOfSize stride_sets (size_of_result op sizes) (ruled op sizes (operand args 0) c c)) → IsOfSize stride_sets (size_of_result op sizes) r
    by_value None e f one = absurd (none-some r f)
    by_value (Some c) e f one = subst (IsOfSize stride_sets (size_of_result op sizes)) (same_Some (ruled op sizes (operand args 0) c c) r f) (one c e)

-- ---- all of it

applied_size : (op : Op) (sizes : List ℕ) (args : List Stride) → IsSome (result_size op sizes)
    → HaveSizes stride_sets (operand_sizes op sizes) args → AreKept stride_sets args
    → GivesSize stride_sets (applied op sizes args).value (size_of_result op sizes)
applied_size op sizes args typed sized of_args r is = by_test (all_one args)
    (λ e. known_size op sizes (map word_of args) typed r (rw e at is))
    (λ e. by_test (divides op)
    (λ f. divided_size op sizes args f sized of_args r (rw (e, f) at is))
    (λ f. let words = some_words args of_args in
    let g = ruled_good op sizes args words.0 typed f sized of_args words.1 in
    subst (IsOfSize stride_sets (size_of_result op sizes)) (same_Some _ r (rw (e, f) at is)) (record { kept = g.kept; size = g.size })))

applied_gives : (op : Op) (sizes : List ℕ) (args : List Stride) (xs : List ℕ) → IsSome (result_size op sizes)
    → HaveSizes stride_sets (operand_sizes op sizes) args → AreKept stride_sets args → HaveWords stride_sets args xs
    → (DividesByZero op xs → ⊥)
    → Gives stride_sets (applied op sizes args).value (value op sizes xs)
applied_gives op sizes args xs typed sized of_args words divides_not = by_test (all_one args)
    (λ e. rw (e, ones_alone args xs e words) (let g = (known_gives op sizes xs typed divides_not).0 in (g.0, g.1, g.2.is)))
    (λ e. by_test (divides op)
    (λ f. rw (e, f) (divided_gives op sizes args xs f sized of_args words divides_not))
    (λ f. rw (e, f) (ruled op sizes (operand args 0) (operand args 1) (operand args 2), refl, (ruled_good op sizes args xs typed f sized of_args words).covers)))

applied_tells : (op : Op) (sizes : List ℕ) (args : List Stride) (xs : List ℕ)
    → HaveSizes stride_sets (operand_sizes op sizes) args → AreKept stride_sets args → HaveWords stride_sets args xs
    → DividesByZero op xs → (applied op sizes args).divide ≡ true
applied_tells op sizes args xs sized of_args words zero_divisor = by_test (all_one args)
    (λ e. rw (e, ones_alone args xs e words) ((known_divides op sizes xs zero_divisor).1))
    (λ e. let g = dividend op sizes args xs zero_divisor.0 sized of_args words in
    rw (e, zero_divisor.0) ((has_tells (operand args 1) 0 g.1.kept).1 (subst (Covers (operand args 1)) zero_divisor.1 g.1.covers)))

pub is_applied : (op : Op) (sizes : List ℕ) (args : List Stride) → IsSome (result_size op sizes)
    → HaveSizes stride_sets (operand_sizes op sizes) args → AreKept stride_sets args
    → IsApplied stride_sets op sizes args (applied op sizes args)
is_applied op sizes args typed sized of_args = record {
  size = applied_size op sizes args typed sized of_args;
  covering = λ xs words divides_not. applied_gives op sizes args xs typed sized of_args words divides_not;
  divides = λ xs words zero_divisor. applied_tells op sizes args xs sized of_args words zero_divisor;
  sharp = λ xs words divides_not. let e = ones_of args xs of_args words in rw (e, ones_alone args xs e (one_words args xs words)) (known_gives op sizes xs typed divides_not);
  sharp_divides = λ xs words zero_divisor. let e = ones_of args xs of_args words in rw (e, ones_alone args xs e (one_words args xs words)) (known_divides op sizes xs zero_divisor);
}
