-- Operators of lowered expressions, at operands of 32 bits.
--   whole_term, bit_term      constants
--   sum_term, difference_term, extended_term, cut_term, cast_term, loaded_term   parts
--   binary_term, test_term, unary_term, element_term   operators, by how much deeper they are than their operands
use Rattle.std.proofs.Common.{◌≡◌, ◌<◌, ◌≤◌, ◌^◌, ◌+◌, ◌==◌, ℕ, suc, Bool, true, false, [], ◌∷◌, refl, arith}
use Rattle.std.proofs.lemmas.List.Elements.{All-nil, All-cons}
use Rattle.alf_ops.specs.declared.operator.Op.{Op}
use Rattle.alf_ops.specs.declared.operator.Op.TheVariants as ops
use Rattle.alf_ops.specs.Table.{layout_of, size_count}
use Rattle.lists.specs.TestLaws.{by_test}
use Rattle.c_meaning.specs.Objects.{bits_of_scalar}
use Rattle.alf_program.specs.Tree.{NamedExpression, Load, Function, WholeProgram}
use Rattle.alf_program.specs.Writable.{IsSize, IsLoadSize, IsFurther, AreSizesOf}
use Rattle.c_unit.specs.declared.types.Integer.{Integer}
use Rattle.c_unit.specs.declared.types.Integer.TheVariants.{Char, UnsignedChar, Short, UnsignedShort, Int, UnsignedInt}
use Rattle.c_unit.specs.declared.types.Scalar.{Scalar}
use Rattle.c_unit.specs.declared.types.Scalar.TheVariants as scalars
use Rattle.c_unit.specs.declared.expression.Unary.{Unary}
use Rattle.c_unit.specs.declared.expression.Unary.TheVariants as unary
use Rattle.c_unit.specs.declared.expression.Binary.{Binary}
use Rattle.c_unit.specs.declared.expression.Binary.TheVariants as binary
use Rattle.c_meaning.specs.Values.{bits_of_type, bytes_of_type, shared, left_type}
use Rattle.c_meaning.specs.Expressions.{pointee}
use Rattle.c_lowered.specs.Values.{constant, whole, bit, of_one, of_two, size, sizes, sum, difference, extended, cut, cut_to, cast_to, loaded, signed_or, product, scaled, counted, sum_value, difference_value, bit_value, compared, binary_value, is_true, test_of, unary_value, element_address}
use Rattle.lowering_checks.specs.Terms.{Term}
use Rattle.lowering_checks.proofs.TermLaws.{TakesTwo, deeper, number_term, load_term, one_term, two_term, three_term}

-- ---- sizes

are_one : (op : Op) (s : ℕ) → 1 ≡ size_count (layout_of op) → IsSize s → AreSizesOf op (s ∷ [])
are_one op s count is = record { count = count; first = is; others = All-nil (IsFurther op) }

are_two : (op : Op) (s t : ℕ) → 2 ≡ size_count (layout_of op) → IsSize s → IsFurther op t → AreSizesOf op (s ∷ t ∷ [])
are_two op s t count is further = record { count = count; first = is; others = All-cons (IsFurther op) t [] further (All-nil (IsFurther op)) }

size_1 : IsSize 1
size_1 = (omega arith, omega arith)

size_32 : IsSize 32
size_32 = (omega arith, omega arith)

size_64 : IsSize 64
size_64 = (omega arith, omega arith)

-- where either operator takes the operands, so does the one that is chosen by the sign of a type
either_takes : (a b s : ℕ) (l r : Op) (i : Integer) → TakesTwo l sizes a b s → TakesTwo r sizes a b s
    → TakesTwo (signed_or l r i) sizes a b s
either_takes a b s l r Char x y = x
either_takes a b s l r UnsignedChar x y = y
either_takes a b s l r Short x y = x
either_takes a b s l r UnsignedShort x y = y
either_takes a b s l r Int x y = x
either_takes a b s l r UnsignedInt x y = y

either_compares : (l r : Op) (i : Integer) → TakesTwo l size 32 32 1 → TakesTwo r size 32 32 1
    → TakesTwo (signed_or l r i) size 32 32 1
either_compares l r Char x y = x
either_compares l r UnsignedChar x y = y
either_compares l r Short x y = x
either_compares l r UnsignedShort x y = y
either_compares l r Int x y = x
either_compares l r UnsignedInt x y = y

module _ (program : WholeProgram) (func : Function) where
  -- ---- constants

  pub constant_term : (sign : Bool) (w n : ℕ) → w < 2 ^ 32 → 1 ≤ n → Term program func 32 n (constant sign w)
  constant_term sign w n low some = number_term program func sign 32 w n (omega arith) (omega arith) low some

  pub whole_term : (w n : ℕ) → w < 2 ^ 32 → 1 ≤ n → Term program func 32 n (whole w)
  whole_term w n low some = constant_term true w n low some

  bit_term : (b n : ℕ) → b < 2 → 1 ≤ n → Term program func 1 n (bit b)
  bit_term b n low some = number_term program func false 1 b n (omega arith) (omega arith) (omega (arith, low)) some

  bytes_term : (i : Integer) (n : ℕ) → 1 ≤ n → Term program func 32 n (whole (bytes_of_type i))
  bytes_term Char n some = whole_term 1 n (omega arith) some
  bytes_term UnsignedChar n some = whole_term 1 n (omega arith) some
  bytes_term Short n some = whole_term 2 n (omega arith) some
  bytes_term UnsignedShort n some = whole_term 2 n (omega arith) some
  bytes_term Int n some = whole_term 4 n (omega arith) some
  bytes_term UnsignedInt n some = whole_term 4 n (omega arith) some

  -- ---- parts

  pub sum_term : (n : ℕ) (l r : NamedExpression) → 1 ≤ n → Term program func 32 n l → Term program func 32 n r
      → Term program func 32 (suc n) (sum l r)
  sum_term n l r some t u =
      three_term program func ops.Add size 32 32 1 32 n l r (bit 0)
      (record { are = are_one ops.Add 32 refl size_32; count = refl; first = refl; second = refl; third = refl; none = refl; result = refl }) t u
      (bit_term 0 n (omega arith) some)

  pub difference_term : (n : ℕ) (l r : NamedExpression) → 1 ≤ n → Term program func 32 n l → Term program func 32 n r
      → Term program func 32 (suc n) (difference l r)
  difference_term n l r some t u =
      three_term program func ops.Sub size 32 32 1 32 n l r (bit 1)
      (record { are = are_one ops.Sub 32 refl size_32; count = refl; first = refl; second = refl; third = refl; none = refl; result = refl }) t u
      (bit_term 1 n (omega arith) some)

  pub extended_term : (i : Integer) (n : ℕ) (e : NamedExpression) → Term program func (bits_of_type i) n e
      → Term program func 32 (suc n) (extended i e)
  extended_term Char n e t =
      one_term program func ops.SExt (8 ∷ 32 ∷ []) 8 32 n e
      (record { are = are_two ops.SExt 8 32 refl (omega arith, omega arith) size_32; count = refl; first = refl; none = refl; result = refl }) t
  extended_term UnsignedChar n e t =
      one_term program func ops.ZExt (8 ∷ 32 ∷ []) 8 32 n e
      (record { are = are_two ops.ZExt 8 32 refl (omega arith, omega arith) size_32; count = refl; first = refl; none = refl; result = refl }) t
  extended_term Short n e t =
      one_term program func ops.SExt (16 ∷ 32 ∷ []) 16 32 n e
      (record { are = are_two ops.SExt 16 32 refl (omega arith, omega arith) size_32; count = refl; first = refl; none = refl; result = refl }) t
  extended_term UnsignedShort n e t =
      one_term program func ops.ZExt (16 ∷ 32 ∷ []) 16 32 n e
      (record { are = are_two ops.ZExt 16 32 refl (omega arith, omega arith) size_32; count = refl; first = refl; none = refl; result = refl }) t
  extended_term Int n e t = deeper program func 32 n (suc n) e (omega arith) t
  extended_term UnsignedInt n e t = deeper program func 32 n (suc n) e (omega arith) t

  pub cut_term : (i : Integer) (n : ℕ) (e : NamedExpression) → Term program func 32 n e
      → Term program func (bits_of_type i) (suc n) (cut i e)
  cut_term Char n e t =
      one_term program func ops.Trunc (32 ∷ 8 ∷ []) 32 8 n e
      (record { are = are_two ops.Trunc 32 8 refl size_32 (omega arith, omega arith); count = refl; first = refl; none = refl; result = refl }) t
  cut_term UnsignedChar n e t =
      one_term program func ops.Trunc (32 ∷ 8 ∷ []) 32 8 n e
      (record { are = are_two ops.Trunc 32 8 refl size_32 (omega arith, omega arith); count = refl; first = refl; none = refl; result = refl }) t
  cut_term Short n e t =
      one_term program func ops.Trunc (32 ∷ 16 ∷ []) 32 16 n e
      (record { are = are_two ops.Trunc 32 16 refl size_32 (omega arith, omega arith); count = refl; first = refl; none = refl; result = refl }) t
  cut_term UnsignedShort n e t =
      one_term program func ops.Trunc (32 ∷ 16 ∷ []) 32 16 n e
      (record { are = are_two ops.Trunc 32 16 refl size_32 (omega arith, omega arith); count = refl; first = refl; none = refl; result = refl }) t
  cut_term Int n e t = deeper program func 32 n (suc n) e (omega arith) t
  cut_term UnsignedInt n e t = deeper program func 32 n (suc n) e (omega arith) t

  -- a value as an object of the type has it
  pub cut_to_term : (t : Scalar) (n : ℕ) (e : NamedExpression) → Term program func 32 n e
      → Term program func (bits_of_scalar t) (suc n) (cut_to t e)
  cut_to_term (scalars.Integer i) n e t = cut_term i n e t
  cut_to_term (scalars.Pointer i) n e t = deeper program func 32 n (suc n) e (omega arith) t

  pub cast_term : (to : Scalar) (n : ℕ) (e : NamedExpression) → Term program func 32 n e
      → Term program func 32 (2 + n) (cast_to to e)
  cast_term (scalars.Integer i) n e t = deeper program func 32 (suc (suc n)) (2 + n) _ (omega arith) (extended_term i (suc n) (cut i e) (cut_term i n e t))
  cast_term (scalars.Pointer i) n e t = deeper program func 32 n (2 + n) e (omega arith) t

  load_size : (i : Integer) → IsLoadSize (bits_of_type i)
  load_size Char = record { some = omega arith; small = omega arith; bytes = refl }
  load_size UnsignedChar = record { some = omega arith; small = omega arith; bytes = refl }
  load_size Short = record { some = omega arith; small = omega arith; bytes = refl }
  load_size UnsignedShort = record { some = omega arith; small = omega arith; bytes = refl }
  load_size Int = record { some = omega arith; small = omega arith; bytes = refl }
  load_size UnsignedInt = record { some = omega arith; small = omega arith; bytes = refl }

  pub loaded_term : (t : Scalar) (n : ℕ) (at : NamedExpression) → Term program func 32 n at
      → Term program func 32 (2 + n) (loaded t at)
  loaded_term (scalars.Integer i) n at t =
      deeper program func 32 (suc (suc n)) (2 + n) _ (omega arith)
      (extended_term i (suc n) (Load (bits_of_type i) at) (load_term program func (bits_of_type i) n at (load_size i) t))
  loaded_term (scalars.Pointer i) n at t =
      deeper program func 32 (suc n) (2 + n) (Load 32 at) (omega arith)
      (load_term program func 32 n at (record { some = omega arith; small = omega arith; bytes = refl }) t)

  product_term : (i : Integer) (n : ℕ) (l r : NamedExpression) → Term program func 32 n l → Term program func 32 n r
      → Term program func 32 (2 + n) (product i l r)
  product_term i n l r t u =
      deeper program func 32 (suc (suc n)) (2 + n) _ (omega arith)
      (one_term program func ops.Trunc (64 ∷ 32 ∷ []) 64 32 (suc n) (of_two (signed_or ops.SMul ops.UMul i) sizes l r)
      (record { are = are_two ops.Trunc 64 32 refl size_64 size_32; count = refl; first = refl; none = refl; result = refl })
      (two_term program func (signed_or ops.SMul ops.UMul i) sizes 32 32 64 n l r
      (either_takes 32 32 64 ops.SMul ops.UMul i
      (record { are = are_two ops.SMul 32 32 refl size_32 size_32; count = refl; first = refl; second = refl; none = refl; result = refl })
      (record { are = are_two ops.UMul 32 32 refl size_32 size_32; count = refl; first = refl; second = refl; none = refl; result = refl })) t u))

  scaled_term : (i : Integer) (of : Scalar) (n : ℕ) (e : NamedExpression) → 1 ≤ n → Term program func 32 n e
      → Term program func 32 (2 + n) (scaled i of e)
  scaled_term i of n e some t =
      by_test (bytes_of_type i == 1)
      (λ one. rw one (deeper program func 32 n (2 + n) e (omega arith) t))
      (λ more. rw more (product_term (left_type of) n e (whole (bytes_of_type i)) t (bytes_term i n some)))

  sdiv_takes : TakesTwo ops.SDiv sizes 32 32 32
  sdiv_takes = record { are = are_two ops.SDiv 32 32 refl size_32 size_32; count = refl; first = refl; second = refl; none = refl; result = refl }

  counted_term : (i : Integer) (n : ℕ) (e : NamedExpression) → 1 ≤ n → Term program func 32 n e
      → Term program func 32 (suc n) (counted i e)
  counted_term i n e some t =
      by_test (bytes_of_type i == 1)
      (λ one. rw one (deeper program func 32 n (suc n) e (omega arith) t))
      (λ more. rw more (two_term program func ops.SDiv sizes 32 32 32 n e (whole (bytes_of_type i)) sdiv_takes t (bytes_term i n some)))

  bit_value_term : (n : ℕ) (e : NamedExpression) → Term program func 1 n e → Term program func 32 (suc n) (bit_value e)
  bit_value_term n e t =
      one_term program func ops.ZExt (1 ∷ 32 ∷ []) 1 32 n e
      (record { are = are_two ops.ZExt 1 32 refl size_1 size_32; count = refl; first = refl; none = refl; result = refl }) t

  compared_term : (op : Op) (n : ℕ) (l r : NamedExpression) → TakesTwo op size 32 32 1 → Term program func 32 n l
      → Term program func 32 n r → Term program func 1 (suc n) (compared op l r)
  compared_term op n l r takes t u = two_term program func op size 32 32 1 n l r takes t u

  pub is_true_term : (n : ℕ) (e : NamedExpression) → 1 ≤ n → Term program func 32 n e
      → Term program func 1 (suc n) (is_true e)
  is_true_term n e some t =
      compared_term ops.Neq n e (whole 0)
      (record { are = are_one ops.Neq 32 refl size_32; count = refl; first = refl; second = refl; none = refl; result = refl }) t
      (whole_term 0 n (omega arith) some)

  -- ---- operators of two operands

  more : (k m n : ℕ) (e : NamedExpression) → m ≤ n → Term program func 32 m e → Term program func 32 n e
  more k m n e low t = deeper program func 32 m n e low t

  sum_value_term : (a b : Scalar) (n : ℕ) (l r : NamedExpression) → 1 ≤ n → Term program func 32 n l
      → Term program func 32 n r
      → Term program func 32 (3 + n) (sum_value a b l r)
  sum_value_term (scalars.Integer a) (scalars.Integer b) n l r some t u = deeper program func 32 (suc n) (3 + n) _ (omega arith) (sum_term n l r some t u)
  sum_value_term (scalars.Integer a) (scalars.Pointer b) n l r some t u =
      deeper program func 32 (suc (2 + n)) (3 + n) _ (omega arith)
      (sum_term (2 + n) (scaled b (scalars.Integer a) l) r (omega (arith, some)) (scaled_term b (scalars.Integer a) n l some t)
      (deeper program func 32 n (2 + n) r (omega arith) u))
  sum_value_term (scalars.Pointer a) b n l r some t u =
      deeper program func 32 (suc (2 + n)) (3 + n) _ (omega arith)
      (sum_term (2 + n) l (scaled a b r) (omega (arith, some)) (deeper program func 32 n (2 + n) l (omega arith) t)
      (scaled_term a b n r some u))

  difference_value_term : (a b : Scalar) (n : ℕ) (l r : NamedExpression) → 1 ≤ n → Term program func 32 n l
      → Term program func 32 n r
      → Term program func 32 (3 + n) (difference_value a b l r)
  difference_value_term (scalars.Integer a) b n l r some t u = deeper program func 32 (suc n) (3 + n) _ (omega arith) (difference_term n l r some t u)
  difference_value_term (scalars.Pointer a) (scalars.Integer b) n l r some t u =
      deeper program func 32 (suc (2 + n)) (3 + n) _ (omega arith)
      (difference_term (2 + n) l (scaled a (scalars.Integer b) r) (omega (arith, some))
      (deeper program func 32 n (2 + n) l (omega arith) t) (scaled_term a (scalars.Integer b) n r some u))
  difference_value_term (scalars.Pointer a) (scalars.Pointer b) n l r some t u =
      deeper program func 32 (suc (suc n)) (3 + n) _ (omega arith) (counted_term a (suc n) (difference l r) (omega arith) (difference_term n l r some t u))

  compares : (op : Op) → 1 ≡ size_count (layout_of op) → TakesTwo op size 32 32 1 → TakesTwo op size 32 32 1
  compares op one takes = takes

  slt_takes : TakesTwo ops.SLt size 32 32 1
  slt_takes = record { are = are_one ops.SLt 32 refl size_32; count = refl; first = refl; second = refl; none = refl; result = refl }

  ult_takes : TakesTwo ops.ULt size 32 32 1
  ult_takes = record { are = are_one ops.ULt 32 refl size_32; count = refl; first = refl; second = refl; none = refl; result = refl }

  sgt_takes : TakesTwo ops.SGt size 32 32 1
  sgt_takes = record { are = are_one ops.SGt 32 refl size_32; count = refl; first = refl; second = refl; none = refl; result = refl }

  ugt_takes : TakesTwo ops.UGt size 32 32 1
  ugt_takes = record { are = are_one ops.UGt 32 refl size_32; count = refl; first = refl; second = refl; none = refl; result = refl }

  sle_takes : TakesTwo ops.SLe size 32 32 1
  sle_takes = record { are = are_one ops.SLe 32 refl size_32; count = refl; first = refl; second = refl; none = refl; result = refl }

  ule_takes : TakesTwo ops.ULe size 32 32 1
  ule_takes = record { are = are_one ops.ULe 32 refl size_32; count = refl; first = refl; second = refl; none = refl; result = refl }

  sge_takes : TakesTwo ops.SGe size 32 32 1
  sge_takes = record { are = are_one ops.SGe 32 refl size_32; count = refl; first = refl; second = refl; none = refl; result = refl }

  uge_takes : TakesTwo ops.UGe size 32 32 1
  uge_takes = record { are = are_one ops.UGe 32 refl size_32; count = refl; first = refl; second = refl; none = refl; result = refl }

  eq_takes : TakesTwo ops.Eq size 32 32 1
  eq_takes = record { are = are_one ops.Eq 32 refl size_32; count = refl; first = refl; second = refl; none = refl; result = refl }

  neq_takes : TakesTwo ops.Neq size 32 32 1
  neq_takes = record { are = are_one ops.Neq 32 refl size_32; count = refl; first = refl; second = refl; none = refl; result = refl }

  -- an operator of two sizes, or of one
  sized_term : (op : Op) (n : ℕ) (l r : NamedExpression) → TakesTwo op sizes 32 32 32 → Term program func 32 n l
      → Term program func 32 n r → Term program func 32 (3 + n) (of_two op sizes l r)
  sized_term op n l r takes t u = deeper program func 32 (suc n) (3 + n) _ (omega arith) (two_term program func op sizes 32 32 32 n l r takes t u)

  bits_term : (op : Op) (n : ℕ) (l r : NamedExpression) → TakesTwo op size 32 32 32 → Term program func 32 n l
      → Term program func 32 n r → Term program func 32 (3 + n) (of_two op size l r)
  bits_term op n l r takes t u = deeper program func 32 (suc n) (3 + n) _ (omega arith) (two_term program func op size 32 32 32 n l r takes t u)

  test_value_term : (op : Op) (n : ℕ) (l r : NamedExpression) → TakesTwo op size 32 32 1 → Term program func 32 n l
      → Term program func 32 n r → Term program func 32 (3 + n) (bit_value (compared op l r))
  test_value_term op n l r takes t u =
      deeper program func 32 (suc (suc n)) (3 + n) _ (omega arith)
      (bit_value_term (suc n) (compared op l r) (compared_term op n l r takes t u))

  pub binary_term : (op : Binary) (a b : Scalar) (n : ℕ) (l r : NamedExpression) → 1 ≤ n → Term program func 32 n l
      → Term program func 32 n r → Term program func 32 (3 + n) (binary_value op a b l r)
  binary_term binary.Multiply a b n l r some t u = deeper program func 32 (2 + n) (3 + n) _ (omega arith) (product_term (shared a b) n l r t u)
  binary_term binary.Divide a b n l r some t u =
      sized_term (signed_or ops.SDiv ops.UDiv (shared a b)) n l r
      (either_takes 32 32 32 ops.SDiv ops.UDiv (shared a b) sdiv_takes
      (record { are = are_two ops.UDiv 32 32 refl size_32 size_32; count = refl; first = refl; second = refl; none = refl; result = refl })) t u
  binary_term binary.Remainder a b n l r some t u =
      sized_term (signed_or ops.SMod ops.UMod (shared a b)) n l r
      (either_takes 32 32 32 ops.SMod ops.UMod (shared a b)
      (record { are = are_two ops.SMod 32 32 refl size_32 size_32; count = refl; first = refl; second = refl; none = refl; result = refl })
      (record { are = are_two ops.UMod 32 32 refl size_32 size_32; count = refl; first = refl; second = refl; none = refl; result = refl })) t u
  binary_term binary.Add a b n l r some t u = sum_value_term a b n l r some t u
  binary_term binary.Subtract a b n l r some t u = difference_value_term a b n l r some t u
  binary_term binary.ShiftLeft a b n l r some t u =
      sized_term ops.LShift n l r
      (record { are = are_two ops.LShift 32 32 refl size_32 size_32; count = refl; first = refl; second = refl; none = refl; result = refl }) t u
  binary_term binary.ShiftRight a b n l r some t u =
      sized_term (signed_or ops.RShiftA ops.RShift (left_type a)) n l r
      (either_takes 32 32 32 ops.RShiftA ops.RShift (left_type a)
      (record { are = are_two ops.RShiftA 32 32 refl size_32 size_32; count = refl; first = refl; second = refl; none = refl; result = refl })
      (record { are = are_two ops.RShift 32 32 refl size_32 size_32; count = refl; first = refl; second = refl; none = refl; result = refl })) t u
  binary_term binary.Less a b n l r some t u =
      test_value_term (signed_or ops.SLt ops.ULt (shared a b)) n l r
      (either_compares ops.SLt ops.ULt (shared a b) slt_takes ult_takes) t u
  binary_term binary.Greater a b n l r some t u =
      test_value_term (signed_or ops.SGt ops.UGt (shared a b)) n l r
      (either_compares ops.SGt ops.UGt (shared a b) sgt_takes ugt_takes) t u
  binary_term binary.AtMost a b n l r some t u =
      test_value_term (signed_or ops.SLe ops.ULe (shared a b)) n l r
      (either_compares ops.SLe ops.ULe (shared a b) sle_takes ule_takes) t u
  binary_term binary.AtLeast a b n l r some t u =
      test_value_term (signed_or ops.SGe ops.UGe (shared a b)) n l r
      (either_compares ops.SGe ops.UGe (shared a b) sge_takes uge_takes) t u
  binary_term binary.Equal a b n l r some t u = test_value_term ops.Eq n l r eq_takes t u
  binary_term binary.Unequal a b n l r some t u = test_value_term ops.Neq n l r neq_takes t u
  binary_term binary.And a b n l r some t u =
      bits_term ops.And n l r
      (record { are = are_one ops.And 32 refl size_32; count = refl; first = refl; second = refl; none = refl; result = refl }) t u
  binary_term binary.Xor a b n l r some t u =
      bits_term ops.Xor n l r
      (record { are = are_one ops.Xor 32 refl size_32; count = refl; first = refl; second = refl; none = refl; result = refl }) t u
  binary_term binary.Or a b n l r some t u =
      bits_term ops.Or n l r
      (record { are = are_one ops.Or 32 refl size_32; count = refl; first = refl; second = refl; none = refl; result = refl }) t u
  binary_term binary.Both a b n l r some t u = whole_term 0 (3 + n) (omega arith) (omega arith)
  binary_term binary.Either a b n l r some t u = whole_term 0 (3 + n) (omega arith) (omega arith)

  -- a comparison's bit, or whether another operator's value is not 0
  bit_of_term : (op : Op) (n : ℕ) (l r : NamedExpression) → TakesTwo op size 32 32 1 → Term program func 32 n l
      → Term program func 32 n r → Term program func 1 (4 + n) (compared op l r)
  bit_of_term op n l r takes t u = deeper program func 1 (suc n) (4 + n) _ (omega arith) (compared_term op n l r takes t u)

  value_test_term : (op : Binary) (a b : Scalar) (n : ℕ) (l r : NamedExpression) → 1 ≤ n → Term program func 32 n l
      → Term program func 32 n r → Term program func 1 (4 + n) (is_true (binary_value op a b l r))
  value_test_term op a b n l r some t u =
      deeper program func 1 (suc (3 + n)) (4 + n) _ (omega arith)
      (is_true_term (3 + n) (binary_value op a b l r) (omega arith) (binary_term op a b n l r some t u))

  pub test_term : (op : Binary) (a b : Scalar) (n : ℕ) (l r : NamedExpression) → 1 ≤ n → Term program func 32 n l
      → Term program func 32 n r → Term program func 1 (4 + n) (test_of op a b l r)
  test_term binary.Less a b n l r some t u =
      bit_of_term (signed_or ops.SLt ops.ULt (shared a b)) n l r (either_compares ops.SLt ops.ULt (shared a b) slt_takes ult_takes) t u
  test_term binary.Greater a b n l r some t u =
      bit_of_term (signed_or ops.SGt ops.UGt (shared a b)) n l r (either_compares ops.SGt ops.UGt (shared a b) sgt_takes ugt_takes) t u
  test_term binary.AtMost a b n l r some t u =
      bit_of_term (signed_or ops.SLe ops.ULe (shared a b)) n l r (either_compares ops.SLe ops.ULe (shared a b) sle_takes ule_takes) t u
  test_term binary.AtLeast a b n l r some t u =
      bit_of_term (signed_or ops.SGe ops.UGe (shared a b)) n l r (either_compares ops.SGe ops.UGe (shared a b) sge_takes uge_takes) t u
  test_term binary.Equal a b n l r some t u = bit_of_term ops.Eq n l r eq_takes t u
  test_term binary.Unequal a b n l r some t u = bit_of_term ops.Neq n l r neq_takes t u
  test_term binary.Multiply a b n l r some t u = value_test_term binary.Multiply a b n l r some t u
  test_term binary.Divide a b n l r some t u = value_test_term binary.Divide a b n l r some t u
  test_term binary.Remainder a b n l r some t u = value_test_term binary.Remainder a b n l r some t u
  test_term binary.Add a b n l r some t u = value_test_term binary.Add a b n l r some t u
  test_term binary.Subtract a b n l r some t u = value_test_term binary.Subtract a b n l r some t u
  test_term binary.ShiftLeft a b n l r some t u = value_test_term binary.ShiftLeft a b n l r some t u
  test_term binary.ShiftRight a b n l r some t u = value_test_term binary.ShiftRight a b n l r some t u
  test_term binary.And a b n l r some t u = value_test_term binary.And a b n l r some t u
  test_term binary.Xor a b n l r some t u = value_test_term binary.Xor a b n l r some t u
  test_term binary.Or a b n l r some t u = value_test_term binary.Or a b n l r some t u
  test_term binary.Both a b n l r some t u = value_test_term binary.Both a b n l r some t u
  test_term binary.Either a b n l r some t u = value_test_term binary.Either a b n l r some t u

  -- ---- operators of one operand, and elements

  pub negation_term : (n : ℕ) (e : NamedExpression) → Term program func 32 n e
      → Term program func 32 (suc n) (of_one ops.Neg size e)
  negation_term n e t =
      one_term program func ops.Neg size 32 32 n e
      (record { are = are_one ops.Neg 32 refl size_32; count = refl; first = refl; none = refl; result = refl }) t

  pub unary_term : (op : Unary) (of : Scalar) (n : ℕ) (e at : NamedExpression) → 1 ≤ n → Term program func 32 n e
      → Term program func 32 n at → Term program func 32 (2 + n) (unary_value op of e at)
  unary_term unary.Not of n e at some t u =
      deeper program func 32 (suc (suc n)) (2 + n) _ (omega arith)
      (bit_value_term (suc n) (compared ops.Eq e (whole 0))
      (compared_term ops.Eq n e (whole 0) eq_takes t (whole_term 0 n (omega arith) some)))
  unary_term unary.Complement of n e at some t u =
      deeper program func 32 (suc n) (2 + n) _ (omega arith)
      (one_term program func ops.Not size 32 32 n e
      (record { are = are_one ops.Not 32 refl size_32; count = refl; first = refl; none = refl; result = refl }) t)
  unary_term unary.Minus of n e at some t u = deeper program func 32 (suc n) (2 + n) _ (omega arith) (negation_term n e t)
  unary_term unary.Plus of n e at some t u = deeper program func 32 n (2 + n) e (omega arith) t
  unary_term unary.Load of n e at some t u = loaded_term (scalars.Integer (pointee of)) n e t
  unary_term unary.Address of n e at some t u = deeper program func 32 n (2 + n) at (omega arith) u

  pub element_term : (base of : Scalar) (n : ℕ) (e index : NamedExpression) → 1 ≤ n → Term program func 32 n e
      → Term program func 32 n index → Term program func 32 (3 + n) (element_address base of e index)
  element_term base of n e index some t u =
      deeper program func 32 (suc (2 + n)) (3 + n) _ (omega arith)
      (sum_term (2 + n) e (scaled (pointee base) of index) (omega (arith, some)) (deeper program func 32 n (2 + n) e (omega arith) t)
      (scaled_term (pointee base) of n index some u))
