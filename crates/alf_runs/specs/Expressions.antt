-- What an expression gives after a history. The history has the events of the run so far, the newest first; the table
-- of frames has for each frame its owner and its size.
--   value_of frames history e      the value of the expression, or its first fault
--   results_of frames history es   those of expressions in a row
use Rattle.std.specs.Prelude.{ℕ, List, [], ◌∷◌, Result, Ok, Err}
use Rattle.alf_ops.specs.declared.history.Value.{Value}
use Rattle.alf_ops.specs.declared.history.Value.TheVariants.{Int, Ptr}
use Rattle.alf_ops.specs.declared.history.RunFault.{RunFault}
use Rattle.alf_ops.specs.declared.history.FrameShape.{FrameShape}
use Rattle.alf_ops.specs.declared.history.RunEvent.{RunEvent}
use Rattle.alf_ops.specs.Histories.{load}
use Rattle.alf_ops.specs.Pointers.{operands, outcome_of_operands}
use Rattle.alf_program.specs.Tree.{NumberedExpression, NumberedExpressions, Number, Address, Load, Apply, Empty, With}

-- what a load from this address gives; an address that faults comes first
abbrev pub load_from : List FrameShape → List RunEvent → ℕ → Result Value RunFault → Result Value RunFault
load_from frames history size (Ok place) = load frames history place size
load_from frames history size (Err fault) = Err fault

abbrev mutual
  -- the value of the expression, or its first fault, operands from left to right and then their operator
  pub value_of : List FrameShape → List RunEvent → NumberedExpression → Result Value RunFault
  value_of frames history (Number num) = Ok (Int num.size num.bits)
  value_of frames history (Address frame offset) = Ok (Ptr frame offset)
  value_of frames history (Load size at) = load_from frames history size (value_of frames history at)
  value_of frames history (Apply op sizes es) = outcome_of_operands op sizes (operands (results_of frames history es))

  pub results_of : List FrameShape → List RunEvent → NumberedExpressions → List (Result Value RunFault)
  results_of frames history Empty = []
  results_of frames history (With e es) = value_of frames history e ∷ results_of frames history es
