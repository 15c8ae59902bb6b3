-- A store through a pointer to one cell of an active frame is a store to this cell, without a fault.
--   IsCellAt rows runs frame offset size   the cell lies in its frame, which is active
use Rattle.std.specs.Prelude.{slice_get}
use Rattle.std.proofs.Common.{◌≡◌, ℕ, Bool, true, List, Some}
use Rattle.alf_ops.specs.declared.history.FrameShape.{FrameShape}
use Rattle.alf_ops.specs.Histories.{fits_in}
use Rattle.memory_rules.specs.Memories.{is_on}

-- the cell lies in its frame, which is active
pub record IsCellAt (rows : List FrameShape) (runs : ℕ → Bool) (frame offset size : ℕ) : Type 0 where
  pub row : FrameShape
  pub found : slice_get rows frame ≡ Some row
  pub active : is_on runs row.owner ≡ true
  pub fits : fits_in row.bits offset size ≡ true
