-- Operators at operands that are known, to be worked out.
--   is n                    the word n of 32 bits
--   of_ints op a b, of_unsigned op a b   an operator at two words, both of type `int` or both of type `unsigned int`
--   minus n                 the word of the number -n
--   into object offset      a pointer to this byte of an object
--   of_pointers i op p q    an operator at two pointers to this integer type
--   moved i op p n          an operator at such a pointer and a word
--   faulty                  an operand that divides by 0
use Rattle.std.specs.Prelude.{ℕ, ◌-◌, ◌^◌, Ok}
use Rattle.alf_ops.specs.declared.history.Value.TheVariants as values
use Rattle.c_unit.specs.declared.types.Integer.{Integer}
use Rattle.c_unit.specs.declared.types.Integer.TheVariants.{Int, UnsignedInt}
use Rattle.c_unit.specs.declared.types.Scalar.TheVariants as scalars
use Rattle.c_unit.specs.declared.expression.Binary.{Binary}
use Rattle.c_unit.specs.declared.expression.Binary.TheVariants.{Divide}
use Rattle.c_meaning.specs.Values.{Valued, binary_value}

abbrev pub is : ℕ → Valued
is n = Ok (values.Int 32 n)

abbrev pub minus : ℕ → ℕ
minus n = 2 ^ 32 - n

abbrev pub of_ints : Binary → ℕ → ℕ → Valued
of_ints op a b = binary_value op (scalars.Integer Int) (scalars.Integer Int) (is a) (is b)

abbrev pub of_unsigned : Binary → ℕ → ℕ → Valued
of_unsigned op a b = binary_value op (scalars.Integer UnsignedInt) (scalars.Integer UnsignedInt) (is a) (is b)

abbrev pub into : ℕ → ℕ → Valued
into object offset = Ok (values.Ptr object offset)

abbrev pub of_pointers : Integer → Binary → Valued → Valued → Valued
of_pointers i op p q = binary_value op (scalars.Pointer i) (scalars.Pointer i) p q

abbrev pub moved : Integer → Binary → Valued → ℕ → Valued
moved i op p n = binary_value op (scalars.Pointer i) (scalars.Integer Int) p (is n)

abbrev pub faulty : Valued
faulty = of_ints Divide 1 0
