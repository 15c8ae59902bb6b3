-- Values have the sizes that the checks gave their expressions.
use Rattle.std.proofs.Common.{◌≡◌, ℕ, Bool, List, [], ◌∷◌, Option, Some, None, Result, Ok, Err, refl, subst, sym, arith}
use Rattle.std.specs.Prelude.{if◌then◌else◌}
use Rattle.alf_ops.specs.declared.operator.Op.{Op}
use Rattle.alf_ops.specs.declared.history.Value.{Value}
use Rattle.alf_ops.specs.declared.history.Value.TheVariants.{Int, Ptr}
use Rattle.alf_ops.specs.declared.history.RunFault.{RunFault}
use Rattle.alf_ops.specs.declared.history.FrameShape.{FrameShape}
use Rattle.alf_ops.specs.declared.history.RunEvent.{RunEvent}
use Rattle.alf_ops.specs.Table.{result_size, size_of_result, operand_sizes, layout_of}
use Rattle.alf_ops.specs.Layouts.{is_written_so}
use Rattle.alf_ops.specs.Values.{FitsValue, EachValueFits}
use Rattle.alf_ops.specs.Histories.{IsSoundHistory}
use Rattle.alf_ops.specs.WholeCells.{IsCell}
use Rattle.alf_ops.specs.Pointers.{before, operands, outcome_of_operands}
use Rattle.alf_ops.specs.PointerLaws.{OutcomeFits}
use Rattle.alf_ops.specs.HistoryLaws.{LoadFits}
use Rattle.alf_program.specs.Tree.{NumberedExpression, NumberedExpressions, Number, Address, Load, Apply, Empty, With}
use Rattle.alf_check.specs.declared.rows.FrameRow.{FrameRow}
use Rattle.alf_check.specs.Kept.{HasSize, HaveSizes, IsCellSize}
use Rattle.alf_runs.specs.Expressions.{load_from, value_of, results_of}
use Rattle.lists.specs.TestLaws.{by_test}

-- the values of operands in a row: the first, and those of the rest
pub record Row (first : Result Value RunFault) (rest : List (Result Value RunFault))
    (values : List Value) : Type 0 where
  pub value : Value
  pub others : List Value
  pub first_is : first ≡ Ok value
  pub rest_are : operands rest ≡ Ok others
  pub all : value ∷ others ≡ values

-- operands that have values: the first has one, and the rest do
pub row_of : (first : Result Value RunFault) (rest : List (Result Value RunFault)) (values : List Value)
    → operands (first ∷ rest) ≡ Ok values → Row first rest values
row_of (Err fault) rest values are = cc
row_of (Ok value) rest values are = go (operands rest) refl are
  where
    go : (r : Result (List Value) RunFault) → operands rest ≡ r → before value r ≡ Ok values
        → Row (Ok value) rest values
    go (Ok others) is together = record { value = value; others = others; first_is = refl; rest_are = is; all = cc }
    go (Err fault) is together = cc

-- a size that an operator has is that of its result
size_of_row : (test : Bool) (found size : ℕ) → (if test then Some found else None) ≡ (let o : Option ℕ = Some size in o)
    → found ≡ size
size_of_row test found size is = by_test test
    (λ typed. let e : Some found ≡ (let o : Option ℕ = Some size in o) = rw typed at is in cc)
    (λ other. let e : None ≡ (let o : Option ℕ = Some size in o) = rw other at is in cc)

result_has : (op : Op) (sizes : List ℕ) (size : ℕ) → result_size op sizes ≡ Some size → size_of_result op sizes ≡ size
result_has op sizes size is = size_of_row (is_written_so (layout_of op) sizes) (size_of_result op sizes) size is

-- a cell's size is one of whole bytes
pub cell_size : (size : ℕ) → IsCellSize size → IsCell size
cell_size size cell = let least = cell.least in (omega arith, cell.bytes)

-- what a load from an address gives has its size
load_fits : (loads : LoadFits) (frames : List FrameShape) (history : List RunEvent) (size : ℕ) (place : Result Value RunFault) (value : Value)
    → IsSoundHistory history → IsCellSize size → load_from frames history size place ≡ Ok value → FitsValue size value
load_fits loads frames history size (Ok place) value sound cell is = loads frames history place value size sound (cell_size size cell) is
load_fits loads frames history size (Err fault) value sound cell is = cc

-- what an operator gives at operands of their sizes has its size
outcome_has : (outcomes : OutcomeFits) (op : Op) (sizes : List ℕ) (size : ℕ) (operand_results : List (Result Value RunFault)) (value : Value)
    → ((values : List Value) → operands operand_results ≡ Ok values → EachValueFits (operand_sizes op sizes) values)
    → result_size op sizes ≡ Some size
    → outcome_of_operands op sizes (operands operand_results) ≡ Ok value
    → FitsValue size value
outcome_has outcomes op sizes size operand_results value each result_is is = go (operands operand_results) refl is
  where
    go : (r : Result (List Value) RunFault) → operands operand_results ≡ r → outcome_of_operands op sizes r ≡ Ok value
        → FitsValue size value
    go (Ok values) are given = subst (λ n. FitsValue n value) (result_has op sizes size result_is) (outcomes op sizes values value (each values are) given)
    go (Err fault) are given = cc

mutual
  -- the value of an expression has its size
  pub value_fits : (outcomes : OutcomeFits) (loads : LoadFits) (rows : List FrameRow) (function : ℕ) (frames : List FrameShape) (history : List RunEvent) → IsSoundHistory history
      → (e : NumberedExpression) (size : ℕ) (value : Value) → HasSize rows function size e → value_of frames history e ≡ Ok value → FitsValue size value
  value_fits outcomes loads rows function frames history sound (Number num) size value has is =
      let e : Int num.size num.bits ≡ value = cc in subst (λ (v : Value). FitsValue size v) e (has.same, has.fits)
  value_fits outcomes loads rows function frames history sound (Address frame offset) size value has is =
      let e : Ptr frame offset ≡ value = cc in subst (λ (v : Value). FitsValue size v) e (sym has.same, has.offset_fits)
  value_fits outcomes loads rows function frames history sound (Load bits at) size value has is =
      subst (λ n. FitsValue n value) has.same (load_fits loads frames history bits (value_of frames history at) value sound has.cell is)
  value_fits outcomes loads rows function frames history sound (Apply op sizes es) size value has is =
      outcome_has outcomes op sizes size (results_of frames history es) value
      (λ values are. values_fit outcomes loads rows function frames history sound es (operand_sizes op sizes) values has.operands are) has.result_is is

  -- and so have those of expressions in a row
  pub values_fit : (outcomes : OutcomeFits) (loads : LoadFits) (rows : List FrameRow) (function : ℕ) (frames : List FrameShape) (history : List RunEvent) → IsSoundHistory history
      → (es : NumberedExpressions) (sizes : List ℕ) (values : List Value) → HaveSizes rows function sizes es → operands (results_of frames history es) ≡ Ok values → EachValueFits sizes values
  values_fit outcomes loads rows function frames history sound Empty [] values has are =
      let e : [] ≡ values = cc in subst (λ (vs : List Value). EachValueFits [] vs) e tt
  values_fit outcomes loads rows function frames history sound (With e es) [] values has are = absurd has
  values_fit outcomes loads rows function frames history sound Empty (size ∷ sizes) values has are = absurd has
  values_fit outcomes loads rows function frames history sound (With e es) (size ∷ sizes) values has are =
      let row = row_of (value_of frames history e) (results_of frames history es) values are in
      subst (λ (vs : List Value). EachValueFits (size ∷ sizes) vs) row.all (
        value_fits outcomes loads rows function frames history sound e size row.value has.0 row.first_is,
        values_fit outcomes loads rows function frames history sound es sizes row.others has.1 row.rest_are,
      )
