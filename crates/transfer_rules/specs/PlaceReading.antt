-- Places read their cells.
--   CellReads, LoadReads     the cell of an address, and of a load
use Rattle.std.proofs.Common.{◌≡◌, ℕ, true, List, Some, Result}
use Rattle.alf_ops.specs.declared.history.Value.{Value}
use Rattle.alf_ops.specs.declared.history.RunFault.{RunFault}
use Rattle.alf_ops.specs.declared.history.FrameShape.{FrameShape}
use Rattle.alf_ops.specs.declared.history.RunEvent.{RunEvent}
use Rattle.alf_ops.specs.Histories.{origin, cell_in}
use Rattle.alf_program.specs.Tree.{NumberedExpression, NumberedExpressions, Number, Address, Load, Apply, Empty, With}
use Rattle.alf_runs.specs.SizeLaws.{ValueHasSize}
use Rattle.memory_rules.specs.Memories.{Mem, IsPlaced}
use Rattle.memory_rules.specs.AbstractSets.{abstract_sets}
use Rattle.transfer_rules.specs.Refining.{Place, load_place}
use Rattle.transfer_rules.specs.Standing.{Stands}

-- ---- sizes

-- the operand of an extension that is a place: a load
pub record LoadOperand (rows : List FrameShape) (m : Mem abstract_sets) (es : NumberedExpressions)
    (place : Place) : Type 0 where
  pub bits : ℕ
  pub at : NumberedExpression
  pub is : es ≡ With (Load bits at) Empty
  pub place_is : load_place rows m true bits at ≡ Some place

-- ---- cells

-- the cell of an address gives what a load through it gives
pub record CellReads (rows : List FrameShape) (history : List RunEvent) (cell : ℕ × ℕ) (size : ℕ)
    (r : Result Value RunFault) : Type 0 where
  pub p : IsPlaced rows history cell.0 cell.1 size
  pub gives : cell_in (origin p.row.owner cell.0 history) cell.1 size ≡ r
