-- What expressions give, by what their parts give.
--   load_left, one_left     a load, and an operator at one operand
--   left_sized              what an expression gives has its size
--   words_sized             so have its words
--   operand_sized           and the one operand of an operator
--   compared_typed   parts of expressions that keep the rules of the checks
--   load_cell               the size of a load is a cell's
--   one_operand             an extension has one operand, which has its first size
use Rattle.std.specs.Prelude.{IfSome, IsSome, if◌then◌else◌}
use Rattle.std.specs.List.{AllZip}
use Rattle.std.proofs.Common.{◌≡◌, ℕ, true, List, [], ◌∷◌, length, Option, Some, None, refl, sym, ap, subst, ◌∙◌, arith}
use Rattle.alf_ops.specs.declared.operator.Op.{Op}
use Rattle.alf_ops.specs.declared.history.FrameShape.{FrameShape}
use Rattle.alf_ops.specs.Table.{operand_sizes, result_size}
use Rattle.alf_program.specs.Tree.{NumberedExpression, NumberedExpressions, Load, Apply, Empty, With, expressions_of}
use Rattle.alf_check.specs.declared.rows.FrameRow.{FrameRow}
use Rattle.alf_check.specs.Kept.{HasSize, HaveSizes}
use Rattle.domain_core.specs.declared.fault_set.FaultSet.{FaultSet}
use Rattle.strided_rules.specs.Strides.{Stride}
use Rattle.pointer_rules.specs.AbstractValues.{AbstractValue, HasSize as ValueHas}
use Rattle.pointer_rules.specs.Covering.{IsValue}
use Rattle.memory_rules.specs.Covers.{IsCellSize}
use Rattle.memory_rules.specs.Memories.{Mem}
use Rattle.memory_rules.specs.AbstractSets.{abstract_sets, some_place}
use Rattle.memory_model.specs.KeptMemories.{MemoryParts, memory_in, rows_of, IsMemory}
use Rattle.transfer_rules.specs.Remains.{all_left, onward, goes_on}
use Rattle.transfer_rules.specs.Evaluating.{loaded, operated, before, value_at}
use Rattle.transfer_rules.specs.Refining.{is_extension, words_alone}
use Rattle.transfer_rules.specs.EvaluatingLaws.{cell_size, value_sized}
use Rattle.transfer_rules.specs.PlaceLaws.{ext_sizes}
use Rattle.step_statements.specs.Typed.{IsTyped}
use Rattle.branch_refinement.specs.Sides.{loaded_value, at_one}

-- ---- values

module _ (rows : List FrameShape) (m : Mem abstract_sets) where
  -- a load
  pub load_left : (size : ℕ) (at : NumberedExpression)
      → (value_at rows m (Load size at)).left ≡ loaded_value rows m size (value_at rows m at).left
  load_left size at = go (value_at rows m at).faults (value_at rows m at).left
    where
      go : (faults : FaultSet) (o : Option AbstractValue)
          → (onward faults o (loaded rows m size)).left ≡ loaded_value rows m size o
      go faults None = refl
      go faults (Some v) = refl

  -- an operator at one operand
  pub one_left : (op : Op) (sizes : List ℕ) (e : NumberedExpression)
      → (value_at rows m (Apply op sizes (With e Empty))).left ≡ at_one op sizes (value_at rows m e).left
  one_left op sizes e = go (value_at rows m e).faults (value_at rows m e).left
    where
      go : (faults : FaultSet) (o : Option AbstractValue)
          → (goes_on (onward faults o (before (all_left []))) (operated op sizes)).left ≡ at_one op sizes o
      go faults None = refl
      go faults (Some v) = refl

-- ---- sizes

-- what an expression gives has its size
pub left_sized : (parts : MemoryParts) (table : List FrameRow) (k size : ℕ) (e : NumberedExpression) → IsMemory parts
    → HasSize table k size e
    → IfSome (value_at (rows_of parts.checked) (memory_in parts) e).left (IsValue size)
left_sized parts table k size e is has = value_sized table (rows_of parts.checked) (memory_in parts) is.sized k e size has

-- and so have its words
pub words_sized : (size : ℕ) (o : Option AbstractValue) → IfSome o (IsValue size)
    → IfSome (words_alone o) (λ words. words.size ≡ size)
words_sized size None is = tt
words_sized size (Some v) is = go v.words v.places is.sized.words
  where
    go : (words : Option Stride) (places : List (ℕ × Stride)) → IfSome words (λ w. w.size ≡ size)
        → IfSome (if some_place places then None else words) (λ w. w.size ≡ size)
    go words (place ∷ places) sized = tt
    go None [] sized = tt
    go (Some words) [] sized = sized

-- and the one operand of an operator
pub operand_sized : (parts : MemoryParts) (table : List FrameRow) (k : ℕ) (sizes : List ℕ) (e : NumberedExpression) (o : Option AbstractValue) → IsMemory parts → HaveSizes table k sizes (With e Empty)
    → o ≡ (value_at (rows_of parts.checked) (memory_in parts) e).left → IfSome o (λ v. AllZip (λ size x. ValueHas x size) sizes (v ∷ []))
operand_sized parts table k [] e o kept have is = absurd have
operand_sized parts table k (size ∷ other ∷ sizes) e o kept have is = absurd have.1
operand_sized parts table k (size ∷ []) e o kept have is = go o (subst (λ (x : Option AbstractValue). IfSome x (IsValue size)) (sym is) (left_sized parts table k size e kept have.0))
  where
    go : (o : Option AbstractValue) → IfSome o (IsValue size)
        → IfSome o (λ v. AllZip (λ size x. ValueHas x size) (size ∷ []) (v ∷ []))
    go None of_v = tt
    go (Some v) of_v = (of_v.sized, tt)

-- ---- parts of expressions

-- the size of a load is a cell's
pub load_cell : (size : ℕ) (at : NumberedExpression) → IsTyped (Load size at) → IsCellSize size
load_cell size at typed = cell_size size typed.has.cell

-- an operator's one operand
first_typed : (table : List FrameRow) (k : ℕ) (sizes : List ℕ) (e : NumberedExpression) (es : NumberedExpressions)
    → HaveSizes table k sizes (With e es) → IsTyped e
first_typed table k [] e es have = absurd have
first_typed table k (size ∷ sizes) e es have = record { table = table; function = k; size = size; has = have.0 }

-- and the second
second_have : (table : List FrameRow) (k : ℕ) (sizes : List ℕ) (e f : NumberedExpression) (es : NumberedExpressions)
    → HaveSizes table k sizes (With e (With f es)) → IsTyped f
second_have table k [] e f es have = absurd have
second_have table k (size ∷ sizes) e f es have = first_typed table k sizes f es have.1

pub second_typed : (op : Op) (sizes : List ℕ) (e f : NumberedExpression) (es : NumberedExpressions)
    → IsTyped (Apply op sizes (With e (With f es))) → IsTyped f
second_typed op sizes e f es typed = second_have typed.table typed.function (operand_sizes op sizes) e f es typed.has.operands

-- an operator has a result
pub has_result : (op : Op) (sizes : List ℕ) (es : NumberedExpressions) → IsTyped (Apply op sizes es)
    → IsSome (result_size op sizes)
has_result op sizes es typed = subst (λ (o : Option ℕ). IsSome o) (sym typed.has.result_is) refl

as_many : (table : List FrameRow) (k : ℕ) (sizes : List ℕ) (es : List NumberedExpression)
    → HaveSizes table k sizes (expressions_of es) → length es ≡ length sizes
as_many table k [] [] h = refl
as_many table k [] (e ∷ es) h = absurd h
as_many table k (size ∷ sizes) [] h = absurd h
as_many table k (size ∷ sizes) (e ∷ es) h = let more = as_many table k sizes es h.1 in omega arith

-- an extension has one operand
pub one_operand : (op : Op) (sizes : List ℕ) (es : List NumberedExpression)
    → IsTyped (Apply op sizes (expressions_of es)) → is_extension op ≡ true → length es ≡ 1
one_operand op sizes es typed extends =
    as_many typed.table typed.function (operand_sizes op sizes) es typed.has.operands ∙ ap length (ext_sizes op sizes typed.size extends typed.has.result_is).operands_are
