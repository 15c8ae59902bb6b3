-- Histories whose stores lie inside the frames of a program.
--   IsStoreInside found offset size   the cell lies in the frame of this row
--   IsInside rows history             each store does
use Rattle.std.specs.Prelude.{slice_get}
use Rattle.std.proofs.Common.{◌≡◌, ℕ, true, List, [], ◌∷◌, Option, Some, None}
use Rattle.alf_ops.specs.declared.history.FrameShape.{FrameShape}
use Rattle.alf_ops.specs.declared.history.RunEvent.{RunEvent}
use Rattle.alf_ops.specs.declared.history.RunEvent.TheVariants.{Enter, Leave, Store}
use Rattle.alf_ops.specs.Histories.{fits_in}

-- the cell lies in the frame of this row
abbrev pub IsStoreInside : Option FrameShape → ℕ → ℕ → Type 0
IsStoreInside None offset size = Unit {0}
IsStoreInside (Some row) offset size = fits_in row.bits offset size ≡ true

-- each store lies in its frame
abbrev pub IsInside : List FrameShape → List RunEvent → Type 0
IsInside rows [] = Unit {0}
IsInside rows (Enter function ∷ history) = IsInside rows history
IsInside rows (Leave function ∷ history) = IsInside rows history
IsInside rows (Store frame offset size value ∷ history) = IsStoreInside (slice_get rows frame) offset size × IsInside rows history
