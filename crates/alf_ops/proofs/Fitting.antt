-- Operands that fit, place by place.
use Rattle.std.proofs.Common.{◌↔◌, ℕ, zero, suc, List, [], ◌∷◌, length, slice_get, ◌≤◌, arith}
use Rattle.std.specs.Prelude.{slice_index}
use Rattle.std.specs.List.{AllZip}
use Rattle.alf_ops.specs.declared.operator.Op.{Op}
use Rattle.alf_ops.specs.declared.history.Value.{Value}
use Rattle.alf_ops.specs.Table.{layout_of, operand_sizes}
use Rattle.alf_ops.specs.Words.{FitsWord, EachFits}
use Rattle.alf_ops.specs.Values.{FitsValue, EachValueFits}
use Rattle.alf_ops.specs.OperandLaws.{FitsAt}
use Rattle.alf_ops.proofs.Values.{three_at_most, same_length}

module _ {A B : Type 0} (R : A → B → Type 0) where
  -- each place of two lists that fit
  pub at_place : (xs : List A) (ys : List B) (i : ℕ) → AllZip R xs ys → FitsAt R (slice_get xs i) (slice_get ys i)
  at_place [] [] zero fits = tt
  at_place [] [] (suc i) fits = tt
  at_place [] (y ∷ ys) i fits = absurd fits
  at_place (x ∷ xs) [] i fits = absurd fits
  at_place (x ∷ xs) (y ∷ ys) zero fits = fits.0
  at_place (x ∷ xs) (y ∷ ys) (suc i) fits = at_place xs ys i fits.1

  each_place : (xs : List A) (ys : List B) → ((i : ℕ) → FitsAt R (slice_get xs i) (slice_get ys i)) → AllZip R xs ys
  each_place [] [] each = tt
  each_place [] (y ∷ ys) each = each 0
  each_place (x ∷ xs) [] each = each 0
  each_place (x ∷ xs) (y ∷ ys) each = (each 0, each_place xs ys (λ i. each (suc i)))

  -- nothing stands past the third place
  neither : (xs : List A) (ys : List B) (i : ℕ) → length xs ≤ i → length ys ≤ i
      → FitsAt R (slice_get xs i) (slice_get ys i)
  neither [] [] zero few_xs few_ys = tt
  neither [] [] (suc i) few_xs few_ys = tt
  neither [] (y ∷ ys) zero few_xs few_ys = absurd (omega arith)
  neither [] (y ∷ ys) (suc i) few_xs few_ys = neither [] ys i (omega arith) (omega arith)
  neither (x ∷ xs) ys zero few_xs few_ys = absurd (omega arith)
  neither (x ∷ xs) [] (suc i) few_xs few_ys = neither xs [] i (omega arith) (omega arith)
  neither (x ∷ xs) (y ∷ ys) (suc i) few_xs few_ys = neither xs ys i (omega arith) (omega arith)

  pub by_places : (xs : List A) (ys : List B) → length xs ≤ 3
      → AllZip R xs ys ↔ ((length ys ≤ 3) × FitsAt R (slice_get xs 0) (slice_get ys 0) × FitsAt R (slice_get xs 1) (slice_get ys 1) × FitsAt R (slice_get xs 2) (slice_get ys 2))
  by_places xs ys few = (
    λ fits. (omega (arith, same_length R xs ys fits), at_place xs ys 0 fits, at_place xs ys 1 fits, at_place xs ys 2 fits),
    λ places. each_place xs ys (at places),
  )
    where
      at : (length ys ≤ 3) × FitsAt R (slice_get xs 0) (slice_get ys 0) × FitsAt R (slice_get xs 1) (slice_get ys 1)
          × FitsAt R (slice_get xs 2) (slice_get ys 2)
          → (i : ℕ) → FitsAt R (slice_get xs i) (slice_get ys i)
      at places zero = places.1
      at places (suc zero) = places.2
      at places (suc (suc zero)) = places.3
      at places (suc (suc (suc i))) = neither xs ys (suc (suc (suc i))) (omega arith) (omega (arith, places.0))

few_sizes : (op : Op) (sizes : List ℕ) → length (operand_sizes op sizes) ≤ 3
few_sizes op sizes = three_at_most (layout_of op) (slice_index sizes 0) (slice_index sizes 1) (slice_index sizes 2)

pub words_by_places : (op : Op) (sizes : List ℕ) (args : List ℕ)
    → EachFits (operand_sizes op sizes) args ↔ ((length args ≤ 3) × FitsAt FitsWord (slice_get (operand_sizes op sizes) 0) (slice_get args 0)
    × FitsAt FitsWord (slice_get (operand_sizes op sizes) 1) (slice_get args 1) × FitsAt FitsWord (slice_get (operand_sizes op sizes) 2) (slice_get args 2))
words_by_places op sizes args = by_places FitsWord (operand_sizes op sizes) args (few_sizes op sizes)

pub values_by_places : (op : Op) (sizes : List ℕ) (values : List Value)
    → EachValueFits (operand_sizes op sizes) values ↔ ((length values ≤ 3) × FitsAt FitsValue (slice_get (operand_sizes op sizes) 0) (slice_get values 0)
    × FitsAt FitsValue (slice_get (operand_sizes op sizes) 1) (slice_get values 1) × FitsAt FitsValue (slice_get (operand_sizes op sizes) 2) (slice_get values 2))
values_by_places op sizes values = by_places FitsValue (operand_sizes op sizes) values (few_sizes op sizes)
