-- On the way to the laws of kept.
--   size_within   an expression has 1 to 64 bits
--   cell_from     a size of 1 to 64 bits that is one of whole bytes is a cell's
use Rattle.std.proofs.Common.{◌≡◌, ◌%◌, ℕ, List, subst, arith}
use Rattle.alf_program.specs.Tree.{NumberedExpression, Number, Address, Load, Apply}
use Rattle.alf_check.specs.declared.rows.FrameRow.{FrameRow}
use Rattle.alf_check.specs.Kept.{IsSize, IsCellSize, HasSize}

-- an expression has 1 to 64 bits
pub size_within : (rows : List FrameRow) (k size : ℕ) (e : NumberedExpression) → HasSize rows k size e → IsSize size
size_within rows k size (Number num) h = h.sized
size_within rows k size (Address f offset) h = subst IsSize h.same (record { some = omega arith; most = omega arith })
size_within rows k size (Load bits at) h = subst IsSize h.same (let least = h.cell.least in record { some = omega arith; most = h.cell.most })
size_within rows k size (Apply op sizes operands) h = h.sized

-- a size of whole bytes is a cell's
pub cell_from : (size : ℕ) → IsSize size → size % 8 ≡ 0 → IsCellSize size
cell_from size sized bytes = let some = sized.some in record { least = omega arith; most = sized.most; bytes = bytes }
