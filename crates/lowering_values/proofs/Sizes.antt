-- What operators of C give has 32 bits.
use Rattle.std.specs.Prelude.{int_div, int_lt, int_le, neg_ℤ, ◌-ℤ◌, ◌*ℤ◌, bit_and, bit_or, bit_xor, if◌then◌else◌}
use Rattle.std.specs.Int.{int_div_euclid}
use Rattle.std.proofs.Common.{ℕ, ℤ, pos, negsuc, ◌+◌, ◌-◌, ◌*◌, ◌^◌, ◌<◌, ◌==◌, ◌&&◌, not, Bool, true, false, Result, Ok, Err, refl, arith}
use Rattle.std.proofs.lemmas.Nat.{pow_pos, mod_below}
use Rattle.alf_ops.specs.declared.history.Value.{Value}
use Rattle.alf_ops.specs.declared.history.Value.TheVariants as values
use Rattle.alf_ops.specs.declared.history.RunFault.{RunFault}
use Rattle.alf_ops.specs.declared.history.RunFault.TheVariants as faults
use Rattle.alf_ops.specs.Values.{FitsValue}
use Rattle.alf_ops.specs.TwosComplement.{word, signed}
use Rattle.c_unit.specs.declared.types.Integer.{Integer}
use Rattle.c_unit.specs.declared.types.Integer.TheVariants.{Char, UnsignedChar, Short, UnsignedShort, Int, UnsignedInt}
use Rattle.c_unit.specs.declared.types.Scalar.{Scalar}
use Rattle.c_unit.specs.declared.types.Scalar.TheVariants as scalars
use Rattle.c_unit.specs.declared.expression.Binary.{Binary}
use Rattle.c_unit.specs.declared.expression.Binary.TheVariants as binary
use Rattle.c_meaning.specs.Values.{Valued, on_value, on_both, on_word, on_words, number, bit, reading, widened, cut, cut_to, cast_to, negation, complement, opposite, truth_of, as_value, and_then, or_else, product, quotient, remainder, shifted_left, shifted_right, bitwise, sum, difference, equality, order, scaled, counted, sum_value, difference_value, binary_value, is_signed, bits_of_type, shared, left_type}
use Rattle.c_meaning.specs.Objects.{bits_of_scalar}
use Rattle.c_meaning.specs.Expressions.{element_address, pointee}
use Rattle.lowering_values.specs.OperatorLaws.{FitsResult, FitUnaries}

pub word_below : (size : ℕ) (z : ℤ) → word size z < 2 ^ size
word_below size (pos a) = mod_below a (2 ^ size) (pow_pos size)
word_below size (negsuc a) = let some = pow_pos size in omega (arith, some)

abbrev Fit : Valued → Type 0
Fit r = FitsResult 32 r

number_fits : (z : ℤ) → Fit (number z)
number_fits z = (refl, word_below 32 z)

bit_fits : (test : Bool) → Fit (bit test)
bit_fits test = number_fits (if test then pos 1 else pos 0)

value_fits : (r : Result Bool RunFault) → Fit (as_value r)
value_fits (Ok test) = bit_fits test
value_fits (Err fault) = tt

on_value_fits : (f : Value → Valued) → ((v : Value) → Fit (f v)) → (r : Valued) → Fit (on_value f r)
on_value_fits f each (Ok v) = each v
on_value_fits f each (Err fault) = tt

on_both_fits : (f : Value → Value → Valued) → ((v w : Value) → Fit (f v w)) → (l r : Valued) → Fit (on_both f l r)
on_both_fits f each (Err fault) r = tt
on_both_fits f each (Ok v) (Err fault) = tt
on_both_fits f each (Ok v) (Ok w) = each v w

word_fits : (f : ℕ → Valued) → ((w : ℕ) → Fit (f w)) → (v : Value) → Fit (on_word f v)
word_fits f each (values.Int s x) = each x
word_fits f each (values.Ptr o x) = tt

words_fit : (f : ℕ → ℕ → Valued) → ((x y : ℕ) → Fit (f x y)) → (v w : Value) → Fit (on_words f v w)
words_fit f each v w = word_fits (λ x. on_word (f x) w) (λ x. word_fits (f x) (λ y. each x y) w) v

unless_fits : (test : Bool) (fault : RunFault) (r : Valued) → Fit r → Fit (if test then Err fault else r)
unless_fits true fault r fits = tt
unless_fits false fault r fits = fits

where_fits : (test : Bool) (fault : RunFault) (r : Valued) → Fit r → Fit (if test then r else Err fault)
where_fits true fault r fits = fits
where_fits false fault r fits = tt

product_fits : (i : Integer) (v w : Value) → Fit (product i v w)
product_fits i v w = words_fit (λ a b. number (reading i a *ℤ reading i b)) (λ x y. number_fits (reading i x *ℤ reading i y)) v w

quotient_fits : (i : Integer) (v w : Value) → Fit (quotient i v w)
quotient_fits i v w =
    words_fit (λ a b. if b == 0 then Err faults.Divide else number (int_div (reading i a) (reading i b)))
    (λ x y. unless_fits (y == 0) faults.Divide (number (int_div (reading i x) (reading i y))) (number_fits (int_div (reading i x) (reading i y)))) v w

remainder_fits : (i : Integer) (v w : Value) → Fit (remainder i v w)
remainder_fits i v w =
    words_fit (λ a b. if b == 0 then Err faults.Divide else number (reading i a -ℤ (reading i b *ℤ int_div (reading i a) (reading i b))))
    (λ x y. unless_fits (y == 0) faults.Divide (number (reading i x -ℤ (reading i y *ℤ int_div (reading i x) (reading i y)))) (number_fits (reading i x -ℤ (reading i y *ℤ int_div (reading i x) (reading i y))))) v w

sum_fits : (v w : Value) → Fit (sum v w)
sum_fits (values.Int s x) (values.Int t y) = number_fits (pos (x + y))
sum_fits (values.Ptr o x) (values.Int t y) = (refl, word_below 32 (pos (x + y)))
sum_fits (values.Int s x) (values.Ptr p y) = (refl, word_below 32 (pos (x + y)))
sum_fits (values.Ptr o x) (values.Ptr p y) = tt

difference_fits : (v w : Value) → Fit (difference v w)
difference_fits (values.Int s x) (values.Int t y) = number_fits (pos x -ℤ pos y)
difference_fits (values.Ptr o x) (values.Int t y) = (refl, word_below 32 (pos x -ℤ pos y))
difference_fits (values.Int s x) (values.Ptr p y) = tt
difference_fits (values.Ptr o x) (values.Ptr p y) = where_fits (o == p) faults.Pointers (number (pos x -ℤ pos y)) (number_fits (pos x -ℤ pos y))

equality_fits : (gives : Bool → Bool) (v w : Value) → Fit (equality gives v w)
equality_fits gives (values.Int s x) (values.Int t y) = bit_fits (gives (x == y))
equality_fits gives (values.Ptr o x) (values.Ptr p y) = bit_fits (gives ((o == p) && (x == y)))
equality_fits gives (values.Ptr o x) (values.Int t y) = tt
equality_fits gives (values.Int s x) (values.Ptr p y) = tt

order_fits : (test : ℤ → ℤ → Bool) (sign : Bool) (v w : Value) → Fit (order test sign v w)
order_fits test sign (values.Int s x) (values.Int t y) = bit_fits (if sign then test (signed 32 x) (signed 32 y) else test (pos x) (pos y))
order_fits test sign (values.Ptr o x) (values.Ptr p y) =
    unless_fits sign faults.Kind (if o == p then bit (test (pos x) (pos y)) else Err faults.Pointers)
    (where_fits (o == p) faults.Pointers (bit (test (pos x) (pos y))) (bit_fits (test (pos x) (pos y))))
order_fits test sign (values.Ptr o x) (values.Int t y) = tt
order_fits test sign (values.Int s x) (values.Ptr p y) = tt

-- ---- operators

pub scaled_fits : (i : Integer) (r : Valued) → Fit r → Fit (scaled i r)
scaled_fits Char r fits = fits
scaled_fits UnsignedChar r fits = fits
scaled_fits Short r fits = on_value_fits (λ v. product Int v (values.Int 32 2)) (λ v. product_fits Int v (values.Int 32 2)) r
scaled_fits UnsignedShort r fits = on_value_fits (λ v. product Int v (values.Int 32 2)) (λ v. product_fits Int v (values.Int 32 2)) r
scaled_fits Int r fits = on_value_fits (λ v. product Int v (values.Int 32 4)) (λ v. product_fits Int v (values.Int 32 4)) r
scaled_fits UnsignedInt r fits = on_value_fits (λ v. product Int v (values.Int 32 4)) (λ v. product_fits Int v (values.Int 32 4)) r

counted_fits : (i : Integer) (r : Valued) → Fit r → Fit (counted i r)
counted_fits Char r fits = fits
counted_fits UnsignedChar r fits = fits
counted_fits Short r fits = on_value_fits (λ v. quotient Int v (values.Int 32 2)) (λ v. quotient_fits Int v (values.Int 32 2)) r
counted_fits UnsignedShort r fits = on_value_fits (λ v. quotient Int v (values.Int 32 2)) (λ v. quotient_fits Int v (values.Int 32 2)) r
counted_fits Int r fits = on_value_fits (λ v. quotient Int v (values.Int 32 4)) (λ v. quotient_fits Int v (values.Int 32 4)) r
counted_fits UnsignedInt r fits = on_value_fits (λ v. quotient Int v (values.Int 32 4)) (λ v. quotient_fits Int v (values.Int 32 4)) r

sum_value_fits : (a b : Scalar) (l r : Valued) → Fit (sum_value a b l r)
sum_value_fits (scalars.Integer a) (scalars.Integer b) l r = on_both_fits sum sum_fits l r
sum_value_fits (scalars.Integer a) (scalars.Pointer b) l r = on_both_fits sum sum_fits (scaled b l) r
sum_value_fits (scalars.Pointer a) b l r = on_both_fits sum sum_fits l (scaled a r)

difference_value_fits : (a b : Scalar) (l r : Valued) → Fit (difference_value a b l r)
difference_value_fits (scalars.Integer a) b l r = on_both_fits difference difference_fits l r
difference_value_fits (scalars.Pointer a) (scalars.Integer b) l r = on_both_fits difference difference_fits l (scaled a r)
difference_value_fits (scalars.Pointer a) (scalars.Pointer b) l r = counted_fits a (on_both difference l r) (on_both_fits difference difference_fits l r)

and_fits : (l : Result Bool RunFault) (r : Valued) → Fit (and_then l r)
and_fits (Ok false) r = bit_fits false
and_fits (Ok true) r = value_fits (truth_of r)
and_fits (Err fault) r = tt

or_fits : (l : Result Bool RunFault) (r : Valued) → Fit (or_else l r)
or_fits (Ok false) r = value_fits (truth_of r)
or_fits (Ok true) r = bit_fits true
or_fits (Err fault) r = tt

pub operators_fit : (op : Binary) (a b : Scalar) (l r : Valued) → Fit (binary_value op a b l r)
operators_fit binary.Multiply a b l r = on_both_fits (product (shared a b)) (product_fits (shared a b)) l r
operators_fit binary.Divide a b l r = on_both_fits (quotient (shared a b)) (quotient_fits (shared a b)) l r
operators_fit binary.Remainder a b l r = on_both_fits (remainder (shared a b)) (remainder_fits (shared a b)) l r
operators_fit binary.Add a b l r = sum_value_fits a b l r
operators_fit binary.Subtract a b l r = difference_value_fits a b l r
operators_fit binary.ShiftLeft a b l r = on_both_fits shifted_left (words_fit (λ x y. number (pos (x * 2 ^ y))) (λ x y. number_fits (pos (x * 2 ^ y)))) l r
operators_fit binary.ShiftRight a b l r =
    on_both_fits (shifted_right (left_type a))
    (words_fit (λ x y. number (int_div_euclid (reading (left_type a) x) (pos (2 ^ y)))) (λ x y. number_fits (int_div_euclid (reading (left_type a) x) (pos (2 ^ y))))) l r
operators_fit binary.Less a b l r = on_both_fits (order int_lt (is_signed (shared a b))) (order_fits int_lt (is_signed (shared a b))) l r
operators_fit binary.Greater a b l r = on_both_fits (order (λ x y. int_lt y x) (is_signed (shared a b))) (order_fits (λ x y. int_lt y x) (is_signed (shared a b))) l r
operators_fit binary.AtMost a b l r = on_both_fits (order int_le (is_signed (shared a b))) (order_fits int_le (is_signed (shared a b))) l r
operators_fit binary.AtLeast a b l r = on_both_fits (order (λ x y. int_le y x) (is_signed (shared a b))) (order_fits (λ x y. int_le y x) (is_signed (shared a b))) l r
operators_fit binary.Equal a b l r = on_both_fits (equality (λ same. same)) (equality_fits (λ same. same)) l r
operators_fit binary.Unequal a b l r = on_both_fits (equality not) (equality_fits not) l r
operators_fit binary.And a b l r = on_both_fits (bitwise bit_and) (words_fit (λ x y. number (pos (bit_and x y))) (λ x y. number_fits (pos (bit_and x y)))) l r
operators_fit binary.Xor a b l r = on_both_fits (bitwise bit_xor) (words_fit (λ x y. number (pos (bit_xor x y))) (λ x y. number_fits (pos (bit_xor x y)))) l r
operators_fit binary.Or a b l r = on_both_fits (bitwise bit_or) (words_fit (λ x y. number (pos (bit_or x y))) (λ x y. number_fits (pos (bit_or x y)))) l r
operators_fit binary.Both a b l r = and_fits (truth_of l) r
operators_fit binary.Either a b l r = or_fits (truth_of l) r

pub unaries_fit : (v : Valued) → FitUnaries v
unaries_fit v = record {
  not_fits = on_value_fits opposite (word_fits (λ w. bit (w == 0)) (λ w. bit_fits (w == 0))) v;
  complement_fits = on_value_fits complement (word_fits (λ w. number (pos (2 ^ 32 - 1 - w))) (λ w. number_fits (pos (2 ^ 32 - 1 - w)))) v;
  minus_fits = on_value_fits negation (word_fits (λ w. number (neg_ℤ (pos w))) (λ w. number_fits (neg_ℤ (pos w)))) v;
}

-- ---- conversions

widened_word : (i : Integer) (v : Value) → Fit (on_word (λ w. number (reading i w)) v)
widened_word i v = word_fits (λ w. number (reading i w)) (λ w. number_fits (reading i w)) v

pub extends_fit : (i : Integer) (v : Valued) → FitsResult (bits_of_type i) v → Fit (on_value (widened i) v)
extends_fit i (Err fault) fits = tt
extends_fit Int (Ok v) fits = fits
extends_fit UnsignedInt (Ok v) fits = fits
extends_fit Char (Ok v) fits = widened_word Char v
extends_fit UnsignedChar (Ok v) fits = widened_word UnsignedChar v
extends_fit Short (Ok v) fits = widened_word Short v
extends_fit UnsignedShort (Ok v) fits = widened_word UnsignedShort v

cut_word : (bits : ℕ) (v : Value) → FitsResult bits (on_word (λ w. Ok (values.Int bits (word bits (pos w)))) v)
cut_word bits (values.Int s x) = (refl, word_below bits (pos x))
cut_word bits (values.Ptr o x) = tt

cut_fits : (i : Integer) (v : Value) → FitsValue 32 v → FitsResult (bits_of_type i) (cut (bits_of_type i) v)
cut_fits Int v fits = fits
cut_fits UnsignedInt v fits = fits
cut_fits Char v fits = cut_word 8 v
cut_fits UnsignedChar v fits = cut_word 8 v
cut_fits Short v fits = cut_word 16 v
cut_fits UnsignedShort v fits = cut_word 16 v

pub cuts_fit : (t : Scalar) (v : Valued) → Fit v → FitsResult (bits_of_scalar t) (on_value (cut_to t) v)
cuts_fit t (Err fault) fits = tt
cuts_fit (scalars.Integer i) (Ok v) fits = cut_fits i v fits
cuts_fit (scalars.Pointer i) (Ok v) fits = fits

pub casts_fit : (t : Scalar) (v : Valued) → Fit v → Fit (on_value (cast_to t) v)
casts_fit t (Err fault) fits = tt
casts_fit (scalars.Integer i) (Ok v) fits = extends_fit i (cut (bits_of_type i) v) (cut_fits i v fits)
casts_fit (scalars.Pointer i) (Ok v) fits = fits

pub elements_fit : (t : Scalar) (base index : Valued) → Fit (element_address t base index)
elements_fit t base index = on_both_fits sum sum_fits base (scaled (pointee t) index)
