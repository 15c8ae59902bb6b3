-- What lowered operators give after a history.
use Rattle.std.specs.Prelude.{int_lt, int_le, bit_and, bit_or, bit_xor, ⊤, if◌then◌else◌}
use Rattle.std.proofs.Common.{◌≡◌, ℕ, not, Bool, true, false, List, [], ◌∷◌, Ok, Err, refl, sym, ap, ◌∙◌}
use Rattle.alf_ops.specs.declared.operator.Op.{Op}
use Rattle.alf_ops.specs.declared.operator.Op.TheVariants as ops
use Rattle.alf_ops.specs.declared.history.Value.{Value}
use Rattle.alf_ops.specs.declared.history.Value.TheVariants as values
use Rattle.alf_ops.specs.declared.history.FrameShape.{FrameShape}
use Rattle.alf_ops.specs.declared.history.RunEvent.{RunEvent}
use Rattle.alf_program.specs.Tree.{NamedExpression, with_frames}
use Rattle.alf_runs.specs.Expressions.{value_of}
use Rattle.c_unit.specs.declared.types.Integer.{Integer}
use Rattle.c_unit.specs.declared.types.Integer.TheVariants.{Char, UnsignedChar, Short, UnsignedShort, Int, UnsignedInt}
use Rattle.c_unit.specs.declared.types.Scalar.{Scalar}
use Rattle.c_unit.specs.declared.types.Scalar.TheVariants as scalars
use Rattle.c_unit.specs.declared.expression.Binary.{Binary}
use Rattle.c_unit.specs.declared.expression.Binary.TheVariants as binary
use Rattle.c_rules.specs.Types.{promoted, greater}
use Rattle.c_rules.specs.Expressions.{is_of_conditions}
use Rattle.c_meaning.specs.Values as meaning
use Rattle.c_meaning.specs.Values.{Valued, on_value, on_both, widened, cut, cut_to, cast_to, negation, complement, truth_of, product, quotient, remainder, shifted_left, shifted_right, bitwise, difference, equality, order, is_signed, bits_of_type, shared, left_type}
use Rattle.c_meaning.specs.Expressions.{element_address, pointee}
use Rattle.c_lowered.specs.Values as lowered
use Rattle.lowering_values.specs.Embedding.{embedded_result}
use Rattle.lowering_values.specs.OperatorLaws.{Gives, as_bit, FitsResult, IsApart, GiveUnaries}
use Rattle.lowering_values.proofs.Outcomes.{one, two, three, at_one, at_two, signed_quotient, unsigned_quotient, signed_remainder, unsigned_remainder, left_shift, signed_shift, unsigned_shift, and_bits, or_bits, xor_bits, negated, complemented, signed_product, unsigned_product, same_product, sums, differences}
use Rattle.lowering_values.proofs.Tests.{ComparesResults, at_results, tested, equal, unequal, signed_less, signed_greater, signed_at_most, signed_at_least, unsigned_less, unsigned_greater, unsigned_at_most, unsigned_at_least, bit_extended, is_not_zero, not_value, extends, cuts, extended_result, cut_result}
use Rattle.lowering_values.proofs.Sizes.{scaled_fits}

-- ---- the types of operators

-- an `int` or an `unsigned int`
abbrev IsWord : Integer → Type 0
IsWord Int = ⊤
IsWord UnsignedInt = ⊤
IsWord i = ⊥

promoted_word : (i : Integer) → IsWord (promoted i)
promoted_word Char = tt
promoted_word UnsignedChar = tt
promoted_word Short = tt
promoted_word UnsignedShort = tt
promoted_word Int = tt
promoted_word UnsignedInt = tt

greater_word : (a b : Integer) → IsWord b → IsWord (greater a b)
greater_word UnsignedInt b is = tt
greater_word Char b is = is
greater_word UnsignedChar b is = is
greater_word Short b is = is
greater_word UnsignedShort b is = is
greater_word Int b is = is

shared_word : (a b : Scalar) → IsWord (shared a b)
shared_word (scalars.Integer a) (scalars.Integer b) = greater_word (promoted a) (promoted b) (promoted_word b)
shared_word (scalars.Integer a) (scalars.Pointer b) = tt
shared_word (scalars.Pointer a) b = tt

left_word : (a : Scalar) → IsWord (left_type a)
left_word (scalars.Integer a) = promoted_word a
left_word (scalars.Pointer a) = tt

-- ---- operands

two_same : (op : Op) (sizes : List ℕ) (x x' y y' : Valued) → x ≡ x' → y ≡ y' → two op sizes x y ≡ two op sizes x' y'
two_same op sizes x x' y y' e f = ap (λ (z : Valued). two op sizes z y) e ∙ ap (λ (z : Valued). two op sizes x' z) f

three_same : (op : Op) (sizes : List ℕ) (x x' y y' c : Valued) → x ≡ x' → y ≡ y'
    → three op sizes x y c ≡ three op sizes x' y' c
three_same op sizes x x' y y' c e f = ap (λ (z : Valued). three op sizes z y c) e ∙ ap (λ (z : Valued). three op sizes x' z c) f

module _ (place : ℕ → ℕ) (frames : List FrameShape) (frame : List ℕ → ℕ) (m : List RunEvent) where
  abbrev E : Valued → Valued
  E r = embedded_result place r

  abbrev G : NamedExpression → Valued → Type 0
  G e v = Gives place frames frame m e v

  abbrev X : NamedExpression → Valued
  X e = value_of frames m (with_frames frame e)

  abbrev S : List ℕ
  S = 32 ∷ []

  abbrev D : List ℕ
  D = 32 ∷ 32 ∷ []

  -- an operator of two operands
  binary_gives : (op : Op) (sizes : List ℕ) (f : Value → Value → Valued) (left right : NamedExpression) (l r : Valued)
      → ((x y : Valued) → two op sizes (E x) (E y) ≡ E (on_both f x y)) → G left l → G right r
      → two op sizes (X left) (X right) ≡ E (on_both f l r)
  binary_gives op sizes f left right l r each gl gr = two_same op sizes (X left) (E l) (X right) (E r) gl gr ∙ each l r

  -- ---- products

  product_gives : (i : Integer) → IsWord i → (left right : NamedExpression) (l r : Valued) → G left l → G right r
      → G (lowered.product i left right) (on_both (product i) l r)
  product_gives Int is left right l r gl gr =
      ap (λ (z : Valued). one ops.Trunc (64 ∷ 32 ∷ []) z) (two_same ops.SMul D (X left) (E l) (X right) (E r) gl gr) ∙ signed_product place l r
  product_gives UnsignedInt is left right l r gl gr =
      ap (λ (z : Valued). one ops.Trunc (64 ∷ 32 ∷ []) z) (two_same ops.UMul D (X left) (E l) (X right) (E r) gl gr) ∙ unsigned_product place l r
  product_gives Char is left right l r gl gr = absurd is
  product_gives UnsignedChar is left right l r gl gr = absurd is
  product_gives Short is left right l r gl gr = absurd is
  product_gives UnsignedShort is left right l r gl gr = absurd is

  one_product : (i : Integer) → IsWord i → (v w : Value) → product i v w ≡ product Int v w
  one_product Int is v w = refl
  one_product UnsignedInt is v w = same_product place v w
  one_product Char is v w = absurd is
  one_product UnsignedChar is v w = absurd is
  one_product Short is v w = absurd is
  one_product UnsignedShort is v w = absurd is

  times : (i : Integer) → IsWord i → (w : Value) (r : Valued)
      → on_both (product i) r (Ok w) ≡ on_value (λ v. product Int v w) r
  times i is w (Ok v) = one_product i is v w
  times i is w (Err fault) = refl

  times_gives : (i : Integer) → IsWord i → (n : ℕ) (e : NamedExpression) (r : Valued) → G e r
      → G (lowered.product i e (lowered.whole n)) (on_value (λ v. product Int v (values.Int 32 n)) r)
  times_gives i is n e r g = product_gives i is e (lowered.whole n) r (Ok (values.Int 32 n)) g refl ∙ ap E (times i is (values.Int 32 n) r)

  scaled_gives : (i : Integer) (t : Scalar) (e : NamedExpression) (r : Valued) → G e r
      → G (lowered.scaled i t e) (meaning.scaled i r)
  scaled_gives Char t e r g = g
  scaled_gives UnsignedChar t e r g = g
  scaled_gives Short t e r g = times_gives (left_type t) (left_word t) 2 e r g
  scaled_gives UnsignedShort t e r g = times_gives (left_type t) (left_word t) 2 e r g
  scaled_gives Int t e r g = times_gives (left_type t) (left_word t) 4 e r g
  scaled_gives UnsignedInt t e r g = times_gives (left_type t) (left_word t) 4 e r g

  -- ---- quotients

  quotient_gives : (i : Integer) → IsWord i → (left right : NamedExpression) (l r : Valued) → G left l → G right r
      → two (lowered.signed_or ops.SDiv ops.UDiv i) D (X left) (X right) ≡ E (on_both (quotient i) l r)
  quotient_gives Int is left right l r gl gr = binary_gives ops.SDiv D (quotient Int) left right l r (at_two place ops.SDiv D (quotient Int) (signed_quotient place)) gl gr
  quotient_gives UnsignedInt is left right l r gl gr = binary_gives ops.UDiv D (quotient UnsignedInt) left right l r (at_two place ops.UDiv D (quotient UnsignedInt) (unsigned_quotient place)) gl gr
  quotient_gives Char is left right l r gl gr = absurd is
  quotient_gives UnsignedChar is left right l r gl gr = absurd is
  quotient_gives Short is left right l r gl gr = absurd is
  quotient_gives UnsignedShort is left right l r gl gr = absurd is

  remainder_gives : (i : Integer) → IsWord i → (left right : NamedExpression) (l r : Valued) → G left l → G right r
      → two (lowered.signed_or ops.SMod ops.UMod i) D (X left) (X right) ≡ E (on_both (remainder i) l r)
  remainder_gives Int is left right l r gl gr = binary_gives ops.SMod D (remainder Int) left right l r (at_two place ops.SMod D (remainder Int) (signed_remainder place)) gl gr
  remainder_gives UnsignedInt is left right l r gl gr = binary_gives ops.UMod D (remainder UnsignedInt) left right l r (at_two place ops.UMod D (remainder UnsignedInt) (unsigned_remainder place)) gl gr
  remainder_gives Char is left right l r gl gr = absurd is
  remainder_gives UnsignedChar is left right l r gl gr = absurd is
  remainder_gives Short is left right l r gl gr = absurd is
  remainder_gives UnsignedShort is left right l r gl gr = absurd is

  shift_gives : (i : Integer) → IsWord i → (left right : NamedExpression) (l r : Valued) → G left l → G right r
      → two (lowered.signed_or ops.RShiftA ops.RShift i) D (X left) (X right) ≡ E (on_both (shifted_right i) l r)
  shift_gives Int is left right l r gl gr = binary_gives ops.RShiftA D (shifted_right Int) left right l r (at_two place ops.RShiftA D (shifted_right Int) (signed_shift place)) gl gr
  shift_gives UnsignedInt is left right l r gl gr = binary_gives ops.RShift D (shifted_right UnsignedInt) left right l r (at_two place ops.RShift D (shifted_right UnsignedInt) (unsigned_shift place)) gl gr
  shift_gives Char is left right l r gl gr = absurd is
  shift_gives UnsignedChar is left right l r gl gr = absurd is
  shift_gives Short is left right l r gl gr = absurd is
  shift_gives UnsignedShort is left right l r gl gr = absurd is

  divided_by : (w : Value) (r : Valued) → on_both (quotient Int) r (Ok w) ≡ on_value (λ v. quotient Int v w) r
  divided_by w (Ok v) = refl
  divided_by w (Err fault) = refl

  part_gives : (n : ℕ) (e : NamedExpression) (r : Valued) → G e r
      → two ops.SDiv D (X e) (Ok (values.Int 32 n)) ≡ E (on_value (λ v. quotient Int v (values.Int 32 n)) r)
  part_gives n e r g = quotient_gives Int tt e (lowered.whole n) r (Ok (values.Int 32 n)) g refl ∙ ap E (divided_by (values.Int 32 n) r)

  counted_gives : (i : Integer) (e : NamedExpression) (r : Valued) → G e r
      → G (lowered.counted i e) (meaning.counted i r)
  counted_gives Char e r g = g
  counted_gives UnsignedChar e r g = g
  counted_gives Short e r g = part_gives 2 e r g
  counted_gives UnsignedShort e r g = part_gives 2 e r g
  counted_gives Int e r g = part_gives 4 e r g
  counted_gives UnsignedInt e r g = part_gives 4 e r g

  -- ---- sums and differences

  sum_gives : (left right : NamedExpression) (l r : Valued) → G left l → G right r
      → G (lowered.sum left right) (on_both meaning.sum l r)
  sum_gives left right l r gl gr = three_same ops.Add S (X left) (E l) (X right) (E r) (Ok (values.Int 1 0)) gl gr ∙ sums place l r

  pub elements_give : (t of : Scalar) (base index : NamedExpression) (b i : Valued) → G base b → G index i
      → G (lowered.element_address t of base index) (element_address t b i)
  elements_give t of base index b i gb gi =
      sum_gives base (lowered.scaled (pointee t) of index) b (meaning.scaled (pointee t) i) gb (scaled_gives (pointee t) of index i gi)

  sum_value_gives : (a b : Scalar) (left right : NamedExpression) (l r : Valued) → G left l → G right r
      → G (lowered.sum_value a b left right) (meaning.sum_value a b l r)
  sum_value_gives (scalars.Integer a) (scalars.Integer b) left right l r gl gr = sum_gives left right l r gl gr
  sum_value_gives (scalars.Integer a) (scalars.Pointer b) left right l r gl gr =
      sum_gives (lowered.scaled b (scalars.Integer a) left) right (meaning.scaled b l) r (scaled_gives b (scalars.Integer a) left l gl) gr
  sum_value_gives (scalars.Pointer a) b left right l r gl gr = sum_gives left (lowered.scaled a b right) l (meaning.scaled a r) gl (scaled_gives a b right r gr)

  module _ (apart : IsApart place) where
    difference_gives : (left right : NamedExpression) (l r : Valued) → G left l → G right r → FitsResult 32 r
        → G (lowered.difference left right) (on_both difference l r)
    difference_gives left right l r gl gr fits = three_same ops.Sub S (X left) (E l) (X right) (E r) (Ok (values.Int 1 1)) gl gr ∙ differences place apart l r fits

    difference_value_gives : (a b : Scalar) (left right : NamedExpression) (l r : Valued) → G left l → G right r
        → FitsResult 32 r → G (lowered.difference_value a b left right) (meaning.difference_value a b l r)
    difference_value_gives (scalars.Integer a) b left right l r gl gr fits = difference_gives left right l r gl gr fits
    difference_value_gives (scalars.Pointer a) (scalars.Integer b) left right l r gl gr fits =
        difference_gives left (lowered.scaled a (scalars.Integer b) right) l (meaning.scaled a r) gl (scaled_gives a (scalars.Integer b) right r gr) (scaled_fits a r fits)
    difference_value_gives (scalars.Pointer a) (scalars.Pointer b) left right l r gl gr fits =
        counted_gives a (lowered.difference left right) (on_both difference l r) (difference_gives left right l r gl gr fits)

    -- ---- comparisons

    abbrev C : Op → (Value → Value → Valued) → Valued → Valued → Type 0
    C op f l r = ComparesResults place op f l r

    less : (sign : Bool) (l r : Valued) → C (if sign then ops.SLt else ops.ULt) (order int_lt sign) l r
    less true l r = at_results place ops.SLt (order int_lt true) (signed_less place apart) l r
    less false l r = at_results place ops.ULt (order int_lt false) (unsigned_less place apart) l r

    more : (sign : Bool) (l r : Valued) → C (if sign then ops.SGt else ops.UGt) (order (λ x y. int_lt y x) sign) l r
    more true l r = at_results place ops.SGt (order (λ x y. int_lt y x) true) (signed_greater place apart) l r
    more false l r = at_results place ops.UGt (order (λ x y. int_lt y x) false) (unsigned_greater place apart) l r

    at_most : (sign : Bool) (l r : Valued) → C (if sign then ops.SLe else ops.ULe) (order int_le sign) l r
    at_most true l r = at_results place ops.SLe (order int_le true) (signed_at_most place apart) l r
    at_most false l r = at_results place ops.ULe (order int_le false) (unsigned_at_most place apart) l r

    at_least : (sign : Bool) (l r : Valued) → C (if sign then ops.SGe else ops.UGe) (order (λ x y. int_le y x) sign) l r
    at_least true l r = at_results place ops.SGe (order (λ x y. int_le y x) true) (signed_at_least place apart) l r
    at_least false l r = at_results place ops.UGe (order (λ x y. int_le y x) false) (unsigned_at_least place apart) l r

    same : (l r : Valued) → C ops.Eq (equality (λ same. same)) l r
    same l r = at_results place ops.Eq (equality (λ same. same)) (equal place apart) l r

    differ : (l r : Valued) → C ops.Neq (equality not) l r
    differ l r = at_results place ops.Neq (equality not) (unequal place apart) l r

    compared_bit : (op : Op) (f : Value → Value → Valued) (left right : NamedExpression) (l r : Valued) (is : C op f l r) → G left l → G right r → two op S (X left) (X right) ≡ as_bit is.test
    compared_bit op f left right l r is gl gr = two_same op S (X left) (E l) (X right) (E r) gl gr ∙ is.runs

    compared_value : (op : Op) (f : Value → Value → Valued) (left right : NamedExpression) (l r : Valued) → C op f l r
        → G left l → G right r
        → G (lowered.bit_value (lowered.compared op left right)) (on_both f l r)
    compared_value op f left right l r is gl gr =
        ap (λ (z : Valued). one ops.ZExt (1 ∷ 32 ∷ []) z) (compared_bit op f left right l r is gl gr) ∙ bit_extended place is.test ∙ ap E (sym is.means)

    compared_test : (op : Op) (f : Value → Value → Valued) (left right : NamedExpression) (l r : Valued) → C op f l r
        → G left l → G right r
        → X (lowered.compared op left right) ≡ as_bit (truth_of (on_both f l r))
    compared_test op f left right l r is gl gr =
        compared_bit op f left right l r is gl gr ∙ ap as_bit (sym (tested is.test) ∙ ap truth_of (sym is.means))

    -- ---- every operator

    pub operators_give : (op : Binary) (a b : Scalar) (left right : NamedExpression) (l r : Valued)
        → is_of_conditions op ≡ false → G left l → G right r → FitsResult 32 r
        → G (lowered.binary_value op a b left right) (meaning.binary_value op a b l r)
    operators_give binary.Multiply a b left right l r plain gl gr fits = product_gives (shared a b) (shared_word a b) left right l r gl gr
    operators_give binary.Divide a b left right l r plain gl gr fits = quotient_gives (shared a b) (shared_word a b) left right l r gl gr
    operators_give binary.Remainder a b left right l r plain gl gr fits = remainder_gives (shared a b) (shared_word a b) left right l r gl gr
    operators_give binary.Add a b left right l r plain gl gr fits = sum_value_gives a b left right l r gl gr
    operators_give binary.Subtract a b left right l r plain gl gr fits = difference_value_gives a b left right l r gl gr fits
    operators_give binary.ShiftLeft a b left right l r plain gl gr fits = binary_gives ops.LShift D shifted_left left right l r (at_two place ops.LShift D shifted_left (left_shift place)) gl gr
    operators_give binary.ShiftRight a b left right l r plain gl gr fits = shift_gives (left_type a) (left_word a) left right l r gl gr
    operators_give binary.Less a b left right l r plain gl gr fits = compared_value (lowered.signed_or ops.SLt ops.ULt (shared a b)) (order int_lt (is_signed (shared a b))) left right l r (less (is_signed (shared a b)) l r) gl gr
    operators_give binary.Greater a b left right l r plain gl gr fits = compared_value (lowered.signed_or ops.SGt ops.UGt (shared a b)) (order (λ x y. int_lt y x) (is_signed (shared a b))) left right l r (more (is_signed (shared a b)) l r) gl gr
    operators_give binary.AtMost a b left right l r plain gl gr fits = compared_value (lowered.signed_or ops.SLe ops.ULe (shared a b)) (order int_le (is_signed (shared a b))) left right l r (at_most (is_signed (shared a b)) l r) gl gr
    operators_give binary.AtLeast a b left right l r plain gl gr fits = compared_value (lowered.signed_or ops.SGe ops.UGe (shared a b)) (order (λ x y. int_le y x) (is_signed (shared a b))) left right l r (at_least (is_signed (shared a b)) l r) gl gr
    operators_give binary.Equal a b left right l r plain gl gr fits = compared_value ops.Eq (equality (λ same. same)) left right l r (same l r) gl gr
    operators_give binary.Unequal a b left right l r plain gl gr fits = compared_value ops.Neq (equality not) left right l r (differ l r) gl gr
    operators_give binary.And a b left right l r plain gl gr fits = binary_gives ops.And S (bitwise bit_and) left right l r (at_two place ops.And S (bitwise bit_and) (and_bits place)) gl gr
    operators_give binary.Xor a b left right l r plain gl gr fits = binary_gives ops.Xor S (bitwise bit_xor) left right l r (at_two place ops.Xor S (bitwise bit_xor) (xor_bits place)) gl gr
    operators_give binary.Or a b left right l r plain gl gr fits = binary_gives ops.Or S (bitwise bit_or) left right l r (at_two place ops.Or S (bitwise bit_or) (or_bits place)) gl gr
    operators_give binary.Both a b left right l r plain gl gr fits = absurd (let bad : true ≡ false = plain in cc)
    operators_give binary.Either a b left right l r plain gl gr fits = absurd (let bad : true ≡ false = plain in cc)

  -- ---- tests

  pub tests_give : (e : NamedExpression) (v : Valued) → G e v → X (lowered.is_true e) ≡ as_bit (truth_of v)
  tests_give e v g = ap (λ (z : Valued). two ops.Neq S z (Ok (values.Int 32 0))) g ∙ is_not_zero place v

  module _ (apart : IsApart place) where
    of_value : (op : Binary) (a b : Scalar) (left right : NamedExpression) (l r : Valued) → is_of_conditions op ≡ false
        → G left l → G right r → FitsResult 32 r
        → X (lowered.is_true (lowered.binary_value op a b left right)) ≡ as_bit (truth_of (meaning.binary_value op a b l r))
    of_value op a b left right l r plain gl gr fits =
        tests_give (lowered.binary_value op a b left right) (meaning.binary_value op a b l r) (operators_give apart op a b left right l r plain gl gr fits)

    pub comparisons_give : (op : Binary) (a b : Scalar) (left right : NamedExpression) (l r : Valued)
        → is_of_conditions op ≡ false → G left l → G right r → FitsResult 32 r
        → X (lowered.test_of op a b left right) ≡ as_bit (truth_of (meaning.binary_value op a b l r))
    comparisons_give binary.Less a b left right l r plain gl gr fits = compared_test apart (lowered.signed_or ops.SLt ops.ULt (shared a b)) (order int_lt (is_signed (shared a b))) left right l r (less apart (is_signed (shared a b)) l r) gl gr
    comparisons_give binary.Greater a b left right l r plain gl gr fits = compared_test apart (lowered.signed_or ops.SGt ops.UGt (shared a b)) (order (λ x y. int_lt y x) (is_signed (shared a b))) left right l r (more apart (is_signed (shared a b)) l r) gl gr
    comparisons_give binary.AtMost a b left right l r plain gl gr fits = compared_test apart (lowered.signed_or ops.SLe ops.ULe (shared a b)) (order int_le (is_signed (shared a b))) left right l r (at_most apart (is_signed (shared a b)) l r) gl gr
    comparisons_give binary.AtLeast a b left right l r plain gl gr fits = compared_test apart (lowered.signed_or ops.SGe ops.UGe (shared a b)) (order (λ x y. int_le y x) (is_signed (shared a b))) left right l r (at_least apart (is_signed (shared a b)) l r) gl gr
    comparisons_give binary.Equal a b left right l r plain gl gr fits = compared_test apart ops.Eq (equality (λ same. same)) left right l r (same apart l r) gl gr
    comparisons_give binary.Unequal a b left right l r plain gl gr fits = compared_test apart ops.Neq (equality not) left right l r (differ apart l r) gl gr
    comparisons_give binary.Multiply a b left right l r plain gl gr fits = of_value binary.Multiply a b left right l r plain gl gr fits
    comparisons_give binary.Divide a b left right l r plain gl gr fits = of_value binary.Divide a b left right l r plain gl gr fits
    comparisons_give binary.Remainder a b left right l r plain gl gr fits = of_value binary.Remainder a b left right l r plain gl gr fits
    comparisons_give binary.Add a b left right l r plain gl gr fits = of_value binary.Add a b left right l r plain gl gr fits
    comparisons_give binary.Subtract a b left right l r plain gl gr fits = of_value binary.Subtract a b left right l r plain gl gr fits
    comparisons_give binary.ShiftLeft a b left right l r plain gl gr fits = of_value binary.ShiftLeft a b left right l r plain gl gr fits
    comparisons_give binary.ShiftRight a b left right l r plain gl gr fits = of_value binary.ShiftRight a b left right l r plain gl gr fits
    comparisons_give binary.And a b left right l r plain gl gr fits = of_value binary.And a b left right l r plain gl gr fits
    comparisons_give binary.Xor a b left right l r plain gl gr fits = of_value binary.Xor a b left right l r plain gl gr fits
    comparisons_give binary.Or a b left right l r plain gl gr fits = of_value binary.Or a b left right l r plain gl gr fits
    comparisons_give binary.Both a b left right l r plain gl gr fits = absurd (let bad : true ≡ false = plain in cc)
    comparisons_give binary.Either a b left right l r plain gl gr fits = absurd (let bad : true ≡ false = plain in cc)

  -- ---- one operand, and conversions

  pub unaries_give : (e at : NamedExpression) (v : Valued) (t : Scalar) → G e v
      → GiveUnaries place frames frame m e at v t
  unaries_give e at v t g = record {
    not_gives = ap (λ (z : Valued). one ops.ZExt (1 ∷ 32 ∷ []) (two ops.Eq S z (Ok (values.Int 32 0)))) g ∙ not_value place v;
    complement_gives = ap (λ (z : Valued). one ops.Not S z) g ∙ at_one place ops.Not S complement (complemented place) v;
    minus_gives = ap (λ (z : Valued). one ops.Neg S z) g ∙ at_one place ops.Neg S negation (negated place) v;
  }

  extended_is : (i : Integer) (e : NamedExpression) → X (lowered.extended i e) ≡ extended_result place i (X e)
  extended_is Char e = refl
  extended_is UnsignedChar e = refl
  extended_is Short e = refl
  extended_is UnsignedShort e = refl
  extended_is Int e = refl
  extended_is UnsignedInt e = refl

  pub extends_give : (i : Integer) (e : NamedExpression) (v : Valued) → G e v
      → G (lowered.extended i e) (on_value (widened i) v)
  extends_give i e v g = extended_is i e ∙ ap (λ (z : Valued). extended_result place i z) g ∙ extends place i v

  cut_is : (i : Integer) (e : NamedExpression) → X (lowered.cut i e) ≡ cut_result place i (X e)
  cut_is Char e = refl
  cut_is UnsignedChar e = refl
  cut_is Short e = refl
  cut_is UnsignedShort e = refl
  cut_is Int e = refl
  cut_is UnsignedInt e = refl

  cut_gives : (i : Integer) (e : NamedExpression) (v : Valued) → G e v
      → G (lowered.cut i e) (on_value (cut (bits_of_type i)) v)
  cut_gives i e v g = cut_is i e ∙ ap (λ (z : Valued). cut_result place i z) g ∙ cuts place i v

  as_it_is : (v : Valued) → v ≡ on_value (λ x. Ok x) v
  as_it_is (Ok x) = refl
  as_it_is (Err fault) = refl

  pub cuts_give : (t : Scalar) (e : NamedExpression) (v : Valued) → G e v
      → G (lowered.cut_to t e) (on_value (cut_to t) v)
  cuts_give (scalars.Integer i) e v g = cut_gives i e v g
  cuts_give (scalars.Pointer i) e v g = g ∙ ap E (as_it_is v)

  cut_then : (i : Integer) (v : Valued)
      → on_value (widened i) (on_value (cut (bits_of_type i)) v) ≡ on_value (cast_to (scalars.Integer i)) v
  cut_then i (Ok x) = refl
  cut_then i (Err fault) = refl

  pub casts_give : (t : Scalar) (e : NamedExpression) (v : Valued) → G e v
      → G (lowered.cast_to t e) (on_value (cast_to t) v)
  casts_give (scalars.Integer i) e v g =
      extends_give i (lowered.cut i e) (on_value (cut (bits_of_type i)) v) (cut_gives i e v g) ∙ ap E (cut_then i v)
  casts_give (scalars.Pointer i) e v g = g ∙ ap E (as_it_is v)
