-- Values and operators of C. A value of an expression is a word of 32 bits or a pointer to an object, with an offset in
-- bytes. Where an operand is a pointer against its type, or a word where a pointer is wanted, an operator follows the
-- rules of runs.
--   bits_of_type i, bytes_of_type i, is_signed i   the size of an integer type, in bits and in bytes, and whether it has a sign
--   reading i w               the number that a word stands for in a type
--   Valued                    a value or the fault of an evaluation
--   on_value f r, on_both f l r   going on with a value, and with two, of which the left one faults first
--   widened i v               a value of an integer type as an expression has it, the number kept
--   cut_to t v                a value as an object of the type has it, or a result: narrow types keep their lowest bits
--   cast_to t v               the value of a cast
--   number z, bit test        a value: the number z modulo 2 to 32, and 1 where the test holds, else 0
--   truth v                   the value is not 0
--   negation, complement, opposite   `-`, `~` and `!`
--   sum, difference, product, quotient, remainder, shifted_left, shifted_right, bitwise, equality, order   operators of two values
--   both_hold l r, either_holds l r   `&&` and `||`, where the right side counts only where the left one does not decide
--   scaled i r                as many bytes as so many elements of the type have
--   binary_value op a b l r   an operator at results of the types a and b
use Rattle.std.specs.Prelude.{ℕ, ℤ, pos, Bool, true, false, not, ◌&&◌, ◌+◌, ◌-◌, ◌*◌, ◌^◌, ◌==◌, ◌-ℤ◌, ◌*ℤ◌, neg_ℤ, int_div, int_lt, int_le, bit_and, bit_or, bit_xor, Result, Ok, Err, if◌then◌else◌}
use Rattle.std.specs.Int.{int_div_euclid}
use Rattle.alf_ops.specs.declared.history.Value.{Value}
use Rattle.alf_ops.specs.declared.history.Value.TheVariants as values
use Rattle.alf_ops.specs.declared.history.RunFault.{RunFault}
use Rattle.alf_ops.specs.declared.history.RunFault.TheVariants as faults
use Rattle.alf_ops.specs.TwosComplement.{word, signed}
use Rattle.c_unit.specs.declared.types.Integer.{Integer}
use Rattle.c_unit.specs.declared.types.Integer.TheVariants.{Char, UnsignedChar, Short, UnsignedShort, Int, UnsignedInt}
use Rattle.c_unit.specs.declared.types.Scalar.{Scalar}
use Rattle.c_unit.specs.declared.types.Scalar.TheVariants as scalars
use Rattle.c_unit.specs.declared.expression.Binary.{Binary}
use Rattle.c_unit.specs.declared.expression.Binary.TheVariants as binary
use Rattle.c_rules.specs.Types.{promoted, common}

-- ---- types

abbrev pub bytes_of_type : Integer → ℕ
bytes_of_type Char = 1
bytes_of_type UnsignedChar = 1
bytes_of_type Short = 2
bytes_of_type UnsignedShort = 2
bytes_of_type Int = 4
bytes_of_type UnsignedInt = 4

abbrev pub bits_of_type : Integer → ℕ
bits_of_type Char = 8
bits_of_type UnsignedChar = 8
bits_of_type Short = 16
bits_of_type UnsignedShort = 16
bits_of_type Int = 32
bits_of_type UnsignedInt = 32

abbrev pub is_signed : Integer → Bool
is_signed Char = true
is_signed UnsignedChar = false
is_signed Short = true
is_signed UnsignedShort = false
is_signed Int = true
is_signed UnsignedInt = false

-- the number that a word of the type's size stands for
abbrev pub reading : Integer → ℕ → ℤ
reading i w = if is_signed i then signed (bits_of_type i) w else pos w

-- ---- evaluations

abbrev pub Valued : Type 0
Valued = Result Value RunFault

abbrev pub on_value : (Value → Valued) → Valued → Valued
on_value f (Ok v) = f v
on_value f (Err fault) = Err fault

-- the left operand faults first
abbrev pub on_both : (Value → Value → Valued) → Valued → Valued → Valued
on_both f (Err fault) r = Err fault
on_both f (Ok a) (Err fault) = Err fault
on_both f (Ok a) (Ok b) = f a b

-- the number modulo 2 to 32
abbrev pub number : ℤ → Valued
number z = Ok (values.Int 32 (word 32 z))

abbrev pub bit : Bool → Valued
bit test = number (if test then pos 1 else pos 0)

-- ---- conversions

-- what is done with a word, where a pointer is of the wrong kind
abbrev pub on_word : (ℕ → Valued) → Value → Valued
on_word f (values.Int size w) = f w
on_word f (values.Ptr object offset) = Err faults.Kind

-- a value of an integer type as an expression has it: 32 bits of the same number
abbrev pub widened : Integer → Value → Valued
widened i v = if bits_of_type i == 32 then Ok v else on_word (λ w. number (reading i w)) v

-- the lowest bits
abbrev pub cut : ℕ → Value → Valued
cut bits v = if bits == 32 then Ok v else on_word (λ w. Ok (values.Int bits (word bits (pos w)))) v

-- a value as an object of the type has it
abbrev pub cut_to : Scalar → Value → Valued
cut_to (scalars.Integer i) v = cut (bits_of_type i) v
cut_to (scalars.Pointer i) v = Ok v

-- a cast to a pointer type changes nothing, and one to an integer type cuts and widens
abbrev pub cast_to : Scalar → Value → Valued
cast_to (scalars.Integer i) v = on_value (widened i) (cut (bits_of_type i) v)
cast_to (scalars.Pointer i) v = Ok v

-- ---- operators of one operand

abbrev pub negation : Value → Valued
negation v = on_word (λ w. number (neg_ℤ (pos w))) v

abbrev pub complement : Value → Valued
complement v = on_word (λ w. number (pos (2 ^ 32 - 1 - w))) v

abbrev pub opposite : Value → Valued
opposite v = on_word (λ w. bit (w == 0)) v

-- ---- truth

abbrev pub truth : Value → Result Bool RunFault
truth (values.Int size w) = Ok (not (w == 0))
truth (values.Ptr object offset) = Err faults.Kind

abbrev pub truth_of : Valued → Result Bool RunFault
truth_of (Ok v) = truth v
truth_of (Err fault) = Err fault

abbrev pub as_value : Result Bool RunFault → Valued
as_value (Ok test) = bit test
as_value (Err fault) = Err fault

-- the right side counts only where the left one does not decide
abbrev pub and_then : Result Bool RunFault → Valued → Valued
and_then (Ok false) r = bit false
and_then (Ok true) r = as_value (truth_of r)
and_then (Err fault) r = Err fault

abbrev pub or_else : Result Bool RunFault → Valued → Valued
or_else (Ok false) r = as_value (truth_of r)
or_else (Ok true) r = bit true
or_else (Err fault) r = Err fault

abbrev pub both_hold : Valued → Valued → Valued
both_hold l r = and_then (truth_of l) r

abbrev pub either_holds : Valued → Valued → Valued
either_holds l r = or_else (truth_of l) r

-- ---- operators of two words

abbrev pub on_words : (ℕ → ℕ → Valued) → Value → Value → Valued
on_words f a b = on_word (λ w. on_word (f w) b) a

abbrev pub product : Integer → Value → Value → Valued
product i = on_words (λ a b. number (reading i a *ℤ reading i b))

-- toward 0
abbrev pub quotient : Integer → Value → Value → Valued
quotient i = on_words (λ a b. if b == 0 then Err faults.Divide else number (int_div (reading i a) (reading i b)))

-- what the quotient leaves
abbrev pub remainder : Integer → Value → Value → Valued
remainder i = on_words (λ a b. if b == 0 then Err faults.Divide else number (reading i a -ℤ (reading i b *ℤ int_div (reading i a) (reading i b))))

abbrev pub shifted_left : Value → Value → Valued
shifted_left = on_words (λ a b. number (pos (a * 2 ^ b)))

-- rounded down, so that a sign is kept
abbrev pub shifted_right : Integer → Value → Value → Valued
shifted_right i = on_words (λ a b. number (int_div_euclid (reading i a) (pos (2 ^ b))))

abbrev pub bitwise : (ℕ → ℕ → ℕ) → Value → Value → Valued
bitwise f = on_words (λ a b. number (pos (f a b)))

-- ---- operators that take pointers

-- a pointer moves by a word
abbrev pub sum : Value → Value → Valued
sum (values.Int size a) (values.Int other b) = number (pos (a + b))
sum (values.Ptr object offset) (values.Int size b) = Ok (values.Ptr object (word 32 (pos (offset + b))))
sum (values.Int size a) (values.Ptr object offset) = Ok (values.Ptr object (word 32 (pos (a + offset))))
sum (values.Ptr object offset) (values.Ptr other place) = Err faults.Kind

-- two pointers into one object have a distance
abbrev pub difference : Value → Value → Valued
difference (values.Int size a) (values.Int other b) = number (pos a -ℤ pos b)
difference (values.Ptr object offset) (values.Int size b) = Ok (values.Ptr object (word 32 (pos offset -ℤ pos b)))
difference (values.Int size a) (values.Ptr object offset) = Err faults.Kind
difference (values.Ptr object offset) (values.Ptr other place) = if object == other then number (pos offset -ℤ pos place) else Err faults.Pointers

-- pointers are equal where they lead to one place; `gives` says whether equality or its opposite is asked
abbrev pub equality : (Bool → Bool) → Value → Value → Valued
equality gives (values.Int size a) (values.Int other b) = bit (gives (a == b))
equality gives (values.Ptr object offset) (values.Ptr other place) = bit (gives ((object == other) && (offset == place)))
equality gives (values.Ptr object offset) (values.Int size b) = Err faults.Kind
equality gives (values.Int size a) (values.Ptr object offset) = Err faults.Kind

-- pointers into one object are ordered by their offsets
abbrev pub placed : (ℤ → ℤ → Bool) → Bool → ℕ → ℕ → ℕ → ℕ → Valued
placed test sign object offset other place = if sign then Err faults.Kind else if object == other then bit (test (pos offset) (pos place)) else Err faults.Pointers

-- numbers with or without a sign
abbrev pub order : (ℤ → ℤ → Bool) → Bool → Value → Value → Valued
order test sign (values.Int size a) (values.Int other b) = bit (if sign then test (signed 32 a) (signed 32 b) else test (pos a) (pos b))
order test sign (values.Ptr object offset) (values.Ptr other place) = placed test sign object offset other place
order test sign (values.Ptr object offset) (values.Int size b) = Err faults.Kind
order test sign (values.Int size a) (values.Ptr object offset) = Err faults.Kind

-- ---- operators by the types of their operands

-- as many bytes as so many elements have
abbrev pub scaled : Integer → Valued → Valued
scaled i r = if bytes_of_type i == 1 then r else on_value (λ v. product Int v (values.Int 32 (bytes_of_type i))) r

-- a number of bytes as a number of elements
abbrev pub counted : Integer → Valued → Valued
counted i r = if bytes_of_type i == 1 then r else on_value (λ v. quotient Int v (values.Int 32 (bytes_of_type i))) r

-- the type that the usual arithmetic conversions give
abbrev pub shared : Scalar → Scalar → Integer
shared (scalars.Integer a) (scalars.Integer b) = common a b
shared (scalars.Integer a) (scalars.Pointer b) = UnsignedInt
shared (scalars.Pointer a) b = UnsignedInt

-- the promoted type of the left operand
abbrev pub left_type : Scalar → Integer
left_type (scalars.Integer a) = promoted a
left_type (scalars.Pointer a) = UnsignedInt

-- an integer beside a pointer counts elements
abbrev pub sum_value : Scalar → Scalar → Valued → Valued → Valued
sum_value (scalars.Integer a) (scalars.Integer b) l r = on_both sum l r
sum_value (scalars.Integer a) (scalars.Pointer b) l r = on_both sum (scaled b l) r
sum_value (scalars.Pointer a) b l r = on_both sum l (scaled a r)

abbrev pub difference_value : Scalar → Scalar → Valued → Valued → Valued
difference_value (scalars.Integer a) b l r = on_both difference l r
difference_value (scalars.Pointer a) (scalars.Integer b) l r = on_both difference l (scaled a r)
difference_value (scalars.Pointer a) (scalars.Pointer b) l r = counted a (on_both difference l r)

abbrev pub binary_value : Binary → Scalar → Scalar → Valued → Valued → Valued
binary_value binary.Multiply a b l r = on_both (product (shared a b)) l r
binary_value binary.Divide a b l r = on_both (quotient (shared a b)) l r
binary_value binary.Remainder a b l r = on_both (remainder (shared a b)) l r
binary_value binary.Add a b l r = sum_value a b l r
binary_value binary.Subtract a b l r = difference_value a b l r
binary_value binary.ShiftLeft a b l r = on_both shifted_left l r
binary_value binary.ShiftRight a b l r = on_both (shifted_right (left_type a)) l r
binary_value binary.Less a b l r = on_both (order int_lt (is_signed (shared a b))) l r
binary_value binary.Greater a b l r = on_both (order (λ x y. int_lt y x) (is_signed (shared a b))) l r
binary_value binary.AtMost a b l r = on_both (order int_le (is_signed (shared a b))) l r
binary_value binary.AtLeast a b l r = on_both (order (λ x y. int_le y x) (is_signed (shared a b))) l r
binary_value binary.Equal a b l r = on_both (equality (λ same. same)) l r
binary_value binary.Unequal a b l r = on_both (equality not) l r
binary_value binary.And a b l r = on_both (bitwise bit_and) l r
binary_value binary.Xor a b l r = on_both (bitwise bit_xor) l r
binary_value binary.Or a b l r = on_both (bitwise bit_or) l r
binary_value binary.Both a b l r = both_hold l r
binary_value binary.Either a b l r = either_holds l r
