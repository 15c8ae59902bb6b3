-- Expressions, lowered: each is a word of 32 bits or a pointer.
--   whole n, bit b             constants of 32 bits with a sign, and of one bit
--   of_one op sizes e, of_two op sizes l r, of_three op sizes l r c   operators
--   extended i e               the bits of an integer type, as a word of 32
--   cut_to t e                 a word as an object of the type has it
--   cast_to t e                a cast
--   loaded t at                what an object of the type holds at an address, as an expression has it
--   scaled i t e               as many bytes as so many elements of the type i have, where the number is of the type t
--   counted i e                as many elements as so many bytes
--   binary_value op a b l r    an operator at operands of the types a and b
--   test_of op a b l r         the bit of a comparison, or of another operator's value against 0
--   value_of program scopes e  the value of an expression
--   address_of program scopes e   where the object lies that an expression designates
-- `&&` and `||` stand in conditions alone, and have no value here.
use Rattle.std.specs.Prelude.{ℕ, ◌==◌, Bool, true, false, List, [], ◌∷◌, Option, Some, None, if◌then◌else◌}
use Rattle.alf_ops.specs.declared.operator.Op.{Op}
use Rattle.alf_ops.specs.declared.operator.Op.TheVariants as ops
use Rattle.alf_program.specs.Tree.{NamedExpression, Number, Address, Load, Apply, Empty, With}
use Rattle.c_unit.specs.declared.types.Integer.{Integer}
use Rattle.c_unit.specs.declared.types.Scalar.{Scalar}
use Rattle.c_unit.specs.declared.types.Scalar.TheVariants as scalars
use Rattle.c_unit.specs.declared.expression.Unary.{Unary}
use Rattle.c_unit.specs.declared.expression.Unary.TheVariants as unary
use Rattle.c_unit.specs.declared.expression.Binary.{Binary}
use Rattle.c_unit.specs.declared.expression.Binary.TheVariants as binary
use Rattle.c_unit.specs.Tree.{Expression, OfConstant, OfName, InParentheses, WithUnary, WithCast, AtIndex, WithBinary}
use Rattle.c_tokens.specs.declared.worth.Worth.{Worth}
use Rattle.c_tokens.specs.declared.worth.Worth.TheVariants as worth
use Rattle.c_rules.specs.Names.{Bound, Variable, Array, Function, Entry, Scope, worth_at, look_up}
use Rattle.c_meaning.specs.Values.{bits_of_type, bytes_of_type, is_signed, shared, left_type}
use Rattle.c_meaning.specs.Objects.{Program}
use Rattle.c_meaning.specs.Expressions.{kind_of, pointee, declared_at}
use Rattle.c_lowered.specs.Names.{frame_of}

-- ---- constants and operators

abbrev pub constant : Bool → ℕ → NamedExpression
constant sign n = Number (record { signed = sign; size = 32; bits = n })

abbrev pub whole : ℕ → NamedExpression
whole n = constant true n

abbrev pub bit : ℕ → NamedExpression
bit b = Number (record { signed = false; size = 1; bits = b })

abbrev pub of_one : Op → List ℕ → NamedExpression → NamedExpression
of_one op sizes e = Apply op sizes (With e Empty)

abbrev pub of_two : Op → List ℕ → NamedExpression → NamedExpression → NamedExpression
of_two op sizes l r = Apply op sizes (With l (With r Empty))

abbrev pub of_three : Op → List ℕ → NamedExpression → NamedExpression → NamedExpression → NamedExpression
of_three op sizes l r c = Apply op sizes (With l (With r (With c Empty)))

-- operators of one size, 32, and of two
abbrev pub size : List ℕ
size = 32 ∷ []

abbrev pub sizes : List ℕ
sizes = 32 ∷ 32 ∷ []

abbrev pub sum : NamedExpression → NamedExpression → NamedExpression
sum l r = of_three ops.Add size l r (bit 0)

abbrev pub difference : NamedExpression → NamedExpression → NamedExpression
difference l r = of_three ops.Sub size l r (bit 1)

-- ---- conversions

abbrev pub extension : Bool → Op
extension sign = if sign then ops.SExt else ops.ZExt

abbrev pub extended : Integer → NamedExpression → NamedExpression
extended i e = if bits_of_type i == 32 then e else of_one (extension (is_signed i)) (bits_of_type i ∷ 32 ∷ []) e

abbrev pub cut : Integer → NamedExpression → NamedExpression
cut i e = if bits_of_type i == 32 then e else of_one ops.Trunc (32 ∷ bits_of_type i ∷ []) e

abbrev pub cut_to : Scalar → NamedExpression → NamedExpression
cut_to (scalars.Integer i) e = cut i e
cut_to (scalars.Pointer i) e = e

abbrev pub cast_to : Scalar → NamedExpression → NamedExpression
cast_to (scalars.Integer i) e = extended i (cut i e)
cast_to (scalars.Pointer i) e = e

-- ---- loads

abbrev pub loaded : Scalar → NamedExpression → NamedExpression
loaded (scalars.Integer i) at = extended i (Load (bits_of_type i) at)
loaded (scalars.Pointer i) at = Load 32 at

-- a variable gives what it holds, and an array where its first element lies
abbrev pub bound_value : Bound → NamedExpression → NamedExpression
bound_value (Variable t) at = loaded t at
bound_value (Array i) at = at
bound_value (Function o ps) at = at

abbrev pub name_value : Option Entry → NamedExpression → NamedExpression
name_value None at = at
name_value (Some e) at = bound_value e.bound at

-- ---- operators by the types of their operands

-- the operator with a sign, or the one without
abbrev pub signed_or : Op → Op → Integer → Op
signed_or with_sign without i = if is_signed i then with_sign else without

abbrev pub product : Integer → NamedExpression → NamedExpression → NamedExpression
product i l r = of_one ops.Trunc (64 ∷ 32 ∷ []) (of_two (signed_or ops.SMul ops.UMul i) sizes l r)

-- a product as any other, with or without a sign by the type of the number
abbrev pub scaled : Integer → Scalar → NamedExpression → NamedExpression
scaled i t e = if bytes_of_type i == 1 then e else product (left_type t) e (whole (bytes_of_type i))

abbrev pub counted : Integer → NamedExpression → NamedExpression
counted i e = if bytes_of_type i == 1 then e else of_two ops.SDiv sizes e (whole (bytes_of_type i))

abbrev pub sum_value : Scalar → Scalar → NamedExpression → NamedExpression → NamedExpression
sum_value (scalars.Integer a) (scalars.Integer b) l r = sum l r
sum_value (scalars.Integer a) (scalars.Pointer b) l r = sum (scaled b (scalars.Integer a) l) r
sum_value (scalars.Pointer a) b l r = sum l (scaled a b r)

abbrev pub difference_value : Scalar → Scalar → NamedExpression → NamedExpression → NamedExpression
difference_value (scalars.Integer a) b l r = difference l r
difference_value (scalars.Pointer a) (scalars.Integer b) l r = difference l (scaled a (scalars.Integer b) r)
difference_value (scalars.Pointer a) (scalars.Pointer b) l r = counted a (difference l r)

-- a bit as a word
abbrev pub bit_value : NamedExpression → NamedExpression
bit_value e = of_one ops.ZExt (1 ∷ 32 ∷ []) e

abbrev pub compared : Op → NamedExpression → NamedExpression → NamedExpression
compared op l r = of_two op size l r

abbrev pub binary_value : Binary → Scalar → Scalar → NamedExpression → NamedExpression → NamedExpression
binary_value binary.Multiply a b l r = product (shared a b) l r
binary_value binary.Divide a b l r = of_two (signed_or ops.SDiv ops.UDiv (shared a b)) sizes l r
binary_value binary.Remainder a b l r = of_two (signed_or ops.SMod ops.UMod (shared a b)) sizes l r
binary_value binary.Add a b l r = sum_value a b l r
binary_value binary.Subtract a b l r = difference_value a b l r
binary_value binary.ShiftLeft a b l r = of_two ops.LShift sizes l r
binary_value binary.ShiftRight a b l r = of_two (signed_or ops.RShiftA ops.RShift (left_type a)) sizes l r
binary_value binary.Less a b l r = bit_value (compared (signed_or ops.SLt ops.ULt (shared a b)) l r)
binary_value binary.Greater a b l r = bit_value (compared (signed_or ops.SGt ops.UGt (shared a b)) l r)
binary_value binary.AtMost a b l r = bit_value (compared (signed_or ops.SLe ops.ULe (shared a b)) l r)
binary_value binary.AtLeast a b l r = bit_value (compared (signed_or ops.SGe ops.UGe (shared a b)) l r)
binary_value binary.Equal a b l r = bit_value (compared ops.Eq l r)
binary_value binary.Unequal a b l r = bit_value (compared ops.Neq l r)
binary_value binary.And a b l r = of_two ops.And size l r
binary_value binary.Xor a b l r = of_two ops.Xor size l r
binary_value binary.Or a b l r = of_two ops.Or size l r
binary_value binary.Both a b l r = whole 0
binary_value binary.Either a b l r = whole 0

-- whether a value is not 0, as a bit
abbrev pub is_true : NamedExpression → NamedExpression
is_true e = compared ops.Neq e (whole 0)

-- the bit of a comparison as it stands, and whether the value of another operator is not 0
abbrev pub test_of : Binary → Scalar → Scalar → NamedExpression → NamedExpression → NamedExpression
test_of binary.Less a b l r = compared (signed_or ops.SLt ops.ULt (shared a b)) l r
test_of binary.Greater a b l r = compared (signed_or ops.SGt ops.UGt (shared a b)) l r
test_of binary.AtMost a b l r = compared (signed_or ops.SLe ops.ULe (shared a b)) l r
test_of binary.AtLeast a b l r = compared (signed_or ops.SGe ops.UGe (shared a b)) l r
test_of binary.Equal a b l r = compared ops.Eq l r
test_of binary.Unequal a b l r = compared ops.Neq l r
test_of op a b l r = is_true (binary_value op a b l r)

-- ---- expressions

-- a constant with the sign of its type
abbrev pub constant_of : Worth → NamedExpression
constant_of worth.NoConstant = whole 0
constant_of worth.TooLarge = whole 0
constant_of (worth.Int n) = constant true n
constant_of (worth.UnsignedInt n) = constant false n

abbrev pub place_of : Program → List Scope → ℕ → NamedExpression
place_of program scopes token = Address (frame_of program (declared_at (look_up program.words scopes token) token)) 0

-- `value` is the operand, and `place` where the object lies that it designates
abbrev pub unary_value : Unary → Scalar → NamedExpression → NamedExpression → NamedExpression
unary_value unary.Not t value place = bit_value (compared ops.Eq value (whole 0))
unary_value unary.Complement t value place = of_one ops.Not size value
unary_value unary.Minus t value place = of_one ops.Neg size value
unary_value unary.Plus t value place = value
unary_value unary.Load t value place = loaded (scalars.Integer (pointee t)) value
unary_value unary.Address t value place = place

abbrev pub element_address : Scalar → Scalar → NamedExpression → NamedExpression → NamedExpression
element_address t of base index = sum base (scaled (pointee t) of index)

abbrev mutual
  pub value_of : Program → List Scope → Expression → NamedExpression
  value_of program scopes (OfConstant token) = constant_of (worth_at program.words token)
  value_of program scopes (OfName token) = name_value (look_up program.words scopes token) (place_of program scopes token)
  value_of program scopes (InParentheses token inner) = value_of program scopes inner
  value_of program scopes (WithUnary op token operand) =
      unary_value op (kind_of program.words scopes operand) (value_of program scopes operand) (address_of program scopes operand)
  value_of program scopes (WithCast token to operand) = cast_to to (value_of program scopes operand)
  value_of program scopes (AtIndex base token index) =
      loaded (scalars.Integer (pointee (kind_of program.words scopes base)))
      (element_address (kind_of program.words scopes base) (kind_of program.words scopes index)
      (value_of program scopes base) (value_of program scopes index))
  value_of program scopes (WithBinary op token left right) =
      binary_value op (kind_of program.words scopes left) (kind_of program.words scopes right)
      (value_of program scopes left) (value_of program scopes right)

  -- of what designates nothing it is the value of the operand; no program asks for it
  pub address_of : Program → List Scope → Expression → NamedExpression
  address_of program scopes (OfConstant token) = whole 0
  address_of program scopes (OfName token) = place_of program scopes token
  address_of program scopes (InParentheses token inner) = address_of program scopes inner
  address_of program scopes (WithUnary op token operand) = value_of program scopes operand
  address_of program scopes (WithCast token to operand) = whole 0
  address_of program scopes (AtIndex base token index) =
      element_address (kind_of program.words scopes base) (kind_of program.words scopes index)
      (value_of program scopes base) (value_of program scopes index)
  address_of program scopes (WithBinary op token left right) = whole 0
