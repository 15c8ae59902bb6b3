-- Types of expressions: integer types and pointers to them, after ISO/IEC 9899:1999, 6.3.1.
--   rank i, same_integer, same_scalar, same_outcome   types that are the same
--   promoted i            the integer promotions
--   common a b            the usual arithmetic conversions
--   is_integer t          the type is an integer type
--   suits wanted t        a value of the type t may stand where one of the wanted type is wanted
--   unary_type op place t   what an operator before an operand of the type t gives; `place` says that the operand may be assigned to
--   cast_type to t, index_type b i, binary_type op l r   and so casts, indexing and operators of two operands
-- None says that the operands do not fit.
use Rattle.std.specs.Prelude.{ℕ, ◌==◌, Bool, true, false, Option, Some, None, if◌then◌else◌}
use Rattle.c_unit.specs.declared.types.Integer.{Integer}
use Rattle.c_unit.specs.declared.types.Integer.TheVariants.{Char, UnsignedChar, Short, UnsignedShort, Int, UnsignedInt}
use Rattle.c_unit.specs.declared.types.Scalar.{Scalar}
use Rattle.c_unit.specs.declared.types.Scalar.TheVariants as scalars
use Rattle.c_unit.specs.declared.types.Outcome.{Outcome}
use Rattle.c_unit.specs.declared.types.Outcome.TheVariants as outcomes
use Rattle.c_unit.specs.declared.expression.Unary.{Unary}
use Rattle.c_unit.specs.declared.expression.Unary.TheVariants as unary
use Rattle.c_unit.specs.declared.expression.Binary.{Binary}
use Rattle.c_unit.specs.declared.expression.Binary.TheVariants as binary

-- ---- the same type

abbrev pub rank : Integer → ℕ
rank Char = 0
rank UnsignedChar = 1
rank Short = 2
rank UnsignedShort = 3
rank Int = 4
rank UnsignedInt = 5

abbrev pub same_integer : Integer → Integer → Bool
same_integer a b = rank a == rank b

abbrev pub same_scalar : Scalar → Scalar → Bool
same_scalar (scalars.Integer a) (scalars.Integer b) = same_integer a b
same_scalar (scalars.Integer a) (scalars.Pointer b) = false
same_scalar (scalars.Pointer a) (scalars.Integer b) = false
same_scalar (scalars.Pointer a) (scalars.Pointer b) = same_integer a b

abbrev pub same_outcome : Outcome → Outcome → Bool
same_outcome outcomes.Nothing outcomes.Nothing = true
same_outcome outcomes.Nothing (outcomes.Integer b) = false
same_outcome (outcomes.Integer a) outcomes.Nothing = false
same_outcome (outcomes.Integer a) (outcomes.Integer b) = same_integer a b

-- ---- conversions

-- the integer promotions: an `int` has all numbers of the smaller types
abbrev pub promoted : Integer → Integer
promoted Char = Int
promoted UnsignedChar = Int
promoted Short = Int
promoted UnsignedShort = Int
promoted Int = Int
promoted UnsignedInt = UnsignedInt

-- of two promoted types the one to which both are converted
abbrev pub greater : Integer → Integer → Integer
greater UnsignedInt b = UnsignedInt
greater a b = b

-- the usual arithmetic conversions
abbrev pub common : Integer → Integer → Integer
common a b = greater (promoted a) (promoted b)

-- ---- what stands where a type is wanted

abbrev pub is_integer : Scalar → Bool
is_integer (scalars.Integer i) = true
is_integer (scalars.Pointer i) = false

-- an integer where an integer is wanted, and the same pointer type where a pointer is
abbrev pub suits : Scalar → Scalar → Bool
suits (scalars.Integer a) t = is_integer t
suits (scalars.Pointer a) t = same_scalar (scalars.Pointer a) t

-- ---- operators

-- what an operator on an integer gives
abbrev pub on_integer : (Integer → Integer) → Scalar → Option Scalar
on_integer gives (scalars.Integer i) = Some (scalars.Integer (gives i))
on_integer gives (scalars.Pointer i) = None

abbrev pub on_integers : (Integer → Integer → Integer) → Scalar → Scalar → Option Scalar
on_integers gives (scalars.Integer a) (scalars.Integer b) = Some (scalars.Integer (gives a b))
on_integers gives (scalars.Integer a) (scalars.Pointer b) = None
on_integers gives (scalars.Pointer a) r = None

abbrev pub loaded : Scalar → Option Scalar
loaded (scalars.Integer i) = None
loaded (scalars.Pointer i) = Some (scalars.Integer i)

-- the address of an integer in memory
abbrev pub addressed : Bool → Scalar → Option Scalar
addressed true (scalars.Integer i) = Some (scalars.Pointer i)
addressed true (scalars.Pointer i) = None
addressed false t = None

abbrev pub unary_type : Unary → Bool → Scalar → Option Scalar
unary_type unary.Not place t = on_integer (λ i. Int) t
unary_type unary.Complement place t = on_integer promoted t
unary_type unary.Minus place t = on_integer promoted t
unary_type unary.Plus place t = on_integer promoted t
unary_type unary.Load place t = loaded t
unary_type unary.Address place t = addressed place t

-- an integer to an integer type, and a pointer to a pointer type
abbrev pub cast_type : Scalar → Scalar → Option Scalar
cast_type (scalars.Integer to) (scalars.Integer i) = Some (scalars.Integer to)
cast_type (scalars.Integer to) (scalars.Pointer i) = None
cast_type (scalars.Pointer to) (scalars.Integer i) = None
cast_type (scalars.Pointer to) (scalars.Pointer i) = Some (scalars.Pointer to)

abbrev pub index_type : Scalar → Scalar → Option Scalar
index_type (scalars.Pointer i) (scalars.Integer j) = Some (scalars.Integer i)
index_type (scalars.Pointer i) (scalars.Pointer j) = None
index_type (scalars.Integer i) r = None

-- two integers, or a pointer and an integer in either order
abbrev pub sum_type : Scalar → Scalar → Option Scalar
sum_type (scalars.Integer a) (scalars.Integer b) = Some (scalars.Integer (common a b))
sum_type (scalars.Integer a) (scalars.Pointer b) = Some (scalars.Pointer b)
sum_type (scalars.Pointer a) (scalars.Integer b) = Some (scalars.Pointer a)
sum_type (scalars.Pointer a) (scalars.Pointer b) = None

-- an `int`, where the pointers have one type
abbrev pub of_pointers : Integer → Integer → Option Scalar
of_pointers a b = if same_integer a b then Some (scalars.Integer Int) else None

-- two integers, a pointer and then an integer, or two pointers of one type
abbrev pub difference_type : Scalar → Scalar → Option Scalar
difference_type (scalars.Integer a) (scalars.Integer b) = Some (scalars.Integer (common a b))
difference_type (scalars.Integer a) (scalars.Pointer b) = None
difference_type (scalars.Pointer a) (scalars.Integer b) = Some (scalars.Pointer a)
difference_type (scalars.Pointer a) (scalars.Pointer b) = of_pointers a b

-- two integers, or two pointers of one type
abbrev pub comparison_type : Scalar → Scalar → Option Scalar
comparison_type (scalars.Integer a) (scalars.Integer b) = Some (scalars.Integer Int)
comparison_type (scalars.Integer a) (scalars.Pointer b) = None
comparison_type (scalars.Pointer a) (scalars.Integer b) = None
comparison_type (scalars.Pointer a) (scalars.Pointer b) = of_pointers a b

abbrev pub binary_type : Binary → Scalar → Scalar → Option Scalar
binary_type binary.Multiply l r = on_integers common l r
binary_type binary.Divide l r = on_integers common l r
binary_type binary.Remainder l r = on_integers common l r
binary_type binary.Add l r = sum_type l r
binary_type binary.Subtract l r = difference_type l r
binary_type binary.ShiftLeft l r = on_integers (λ a b. promoted a) l r
binary_type binary.ShiftRight l r = on_integers (λ a b. promoted a) l r
binary_type binary.Less l r = comparison_type l r
binary_type binary.Greater l r = comparison_type l r
binary_type binary.AtMost l r = comparison_type l r
binary_type binary.AtLeast l r = comparison_type l r
binary_type binary.Equal l r = comparison_type l r
binary_type binary.Unequal l r = comparison_type l r
binary_type binary.And l r = on_integers common l r
binary_type binary.Xor l r = on_integers common l r
binary_type binary.Or l r = on_integers common l r
binary_type binary.Both l r = on_integers (λ a b. Int) l r
binary_type binary.Either l r = on_integers (λ a b. Int) l r
