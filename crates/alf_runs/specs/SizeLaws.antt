-- Values have the sizes that the checks gave their expressions.
--   ValueHasSize   after a sound history, the value of an expression has its size
--   OperandsHaveSizes   so have those of operands in a row
use Rattle.std.specs.Prelude.{◌≡◌, ℕ, List, Ok}
use Rattle.alf_ops.specs.declared.history.Value.{Value}
use Rattle.alf_ops.specs.declared.history.FrameShape.{FrameShape}
use Rattle.alf_ops.specs.declared.history.RunEvent.{RunEvent}
use Rattle.alf_ops.specs.Values.{FitsValue, EachValueFits}
use Rattle.alf_ops.specs.Histories.{IsSoundHistory}
use Rattle.alf_ops.specs.Pointers.{operands}
use Rattle.alf_program.specs.Tree.{NumberedExpression, NumberedExpressions}
use Rattle.alf_check.specs.declared.rows.FrameRow.{FrameRow}
use Rattle.alf_check.specs.Kept.{HasSize, HaveSizes}
use Rattle.alf_runs.specs.Expressions.{value_of, results_of}

-- after a sound history, the value of an expression has its size
abbrev pub ValueHasSize : Type 0
ValueHasSize = (rows : List FrameRow) (function size : ℕ) (e : NumberedExpression) (frames : List FrameShape) (history : List RunEvent) (value : Value)
    → HasSize rows function size e
    → IsSoundHistory history
    → value_of frames history e ≡ Ok value
    → FitsValue size value

-- and so have those of operands in a row
abbrev pub OperandsHaveSizes : Type 0
OperandsHaveSizes = (rows : List FrameRow) (function : ℕ) (sizes : List ℕ) (es : NumberedExpressions) (frames : List FrameShape) (history : List RunEvent) (values : List Value)
    → HaveSizes rows function sizes es
    → IsSoundHistory history
    → operands (results_of frames history es) ≡ Ok values
    → EachValueFits sizes values
