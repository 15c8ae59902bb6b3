-- The words and offsets of values as operands of words.
use Rattle.std.proofs.Common.{◌≡◌, ℕ, suc, List, [], ◌∷◌, map, take, length, ◌<◌, ◌≤◌, ◌^◌, refl, ap, arith}
use Rattle.alf_ops.specs.declared.history.Value.{Value}
use Rattle.alf_ops.specs.declared.history.Value.TheVariants.{Int, Ptr}
use Rattle.std.specs.Prelude.{slice_index}
use Rattle.std.specs.List.{AllZip}
use Rattle.alf_ops.specs.declared.layout.Layout.{Layout}
use Rattle.alf_ops.specs.declared.layout.Layout.TheVariants.{Unary, Sum, Carry, Joined, First, Second, Binary, Comparison, Extension, Truncation, Field, Choice}
use Rattle.alf_ops.specs.declared.operator.Op.{Op}
use Rattle.alf_ops.specs.Layouts.{operands_by_layout}
use Rattle.alf_ops.specs.Table.{layout_of, operand_sizes}
use Rattle.alf_ops.specs.Words.{EachFits}
use Rattle.alf_ops.specs.Values.{bits_of, FitsValue, EachValueFits}
use Rattle.alf_ops.specs.Pointers.{operand_at}

bits_fit : (size : ℕ) (value : Value) → FitsValue size value → bits_of value < 2 ^ size
bits_fit size (Int own word) fits = fits.1
bits_fit size (Ptr frame offset) fits = rw fits.0 fits.1

each_fits : (sizes : List ℕ) (values : List Value) → EachValueFits sizes values → EachFits sizes (map bits_of values)
each_fits [] [] fits = tt
each_fits [] (value ∷ values) fits = fits
each_fits (size ∷ sizes) [] fits = fits
each_fits (size ∷ sizes) (value ∷ values) fits = (bits_fit size value fits.0, each_fits sizes values fits.1)

-- up to three values by their places
by_places : (values : List Value) → length values ≤ 3
    → map bits_of values ≡ take (length values) (bits_of (operand_at values 0) ∷ bits_of (operand_at values 1) ∷ bits_of (operand_at values 2) ∷ [])
by_places [] few = refl
by_places (a ∷ []) few = refl
by_places (a ∷ b ∷ []) few = refl
by_places (a ∷ b ∷ c ∷ []) few = refl
by_places (a ∷ b ∷ c ∷ d ∷ values) few = absurd (omega arith)

pub words_fit : (sizes : List ℕ) (values : List Value) → EachValueFits sizes values → length values ≤ 3
    → EachFits sizes (take (length values) (bits_of (operand_at values 0) ∷ bits_of (operand_at values 1) ∷ bits_of (operand_at values 2) ∷ []))
words_fit sizes values fits few = rw (← (by_places values few)) (each_fits sizes values fits)

-- no row has more than three operands
pub three_at_most : (layout : Layout) (m n h : ℕ) → length (operands_by_layout layout m n h) ≤ 3
three_at_most Unary m n h = omega arith
three_at_most Sum m n h = omega arith
three_at_most Carry m n h = omega arith
three_at_most Joined m n h = omega arith
three_at_most First m n h = omega arith
three_at_most Second m n h = omega arith
three_at_most Binary m n h = omega arith
three_at_most Comparison m n h = omega arith
three_at_most Extension m n h = omega arith
three_at_most Truncation m n h = omega arith
three_at_most Field m n h = omega arith
three_at_most Choice m n h = omega arith

-- two lists that fit one another are of one length
pub same_length : {A B : Type 0} (R : A → B → Type 0) (xs : List A) (ys : List B) → AllZip R xs ys
    → length ys ≡ length xs
same_length R [] [] fits = refl
same_length R [] (y ∷ ys) fits = absurd fits
same_length R (x ∷ xs) [] fits = absurd fits
same_length R (x ∷ xs) (y ∷ ys) fits = ap suc (same_length R xs ys fits.1)

pub few_values : (op : Op) (sizes : List ℕ) (values : List Value) → EachValueFits (operand_sizes op sizes) values
    → length values ≤ 3
few_values op sizes values fits =
    let few = three_at_most (layout_of op) (slice_index sizes 0) (slice_index sizes 1) (slice_index sizes 2) in
    omega (arith, same_length FitsValue (operand_sizes op sizes) values fits, few)
