-- Functions that run, by their flags, and the frames that are active.
--   runs_in running       which functions run
--   bits_on found runs    how many bits the frame of the row has, if it is active
use Rattle.std.specs.Prelude.{ℕ, Bool, List, Option, Some, None, if◌then◌else◌, slice_get}
use Rattle.alf_ops.specs.declared.history.FrameShape.{FrameShape}
use Rattle.memory_rules.specs.Memories.{is_on}
use Rattle.memory_model.specs.HeldMemories.{runs_or}

-- which functions run
abbrev pub runs_in : List Bool → ℕ → Bool
runs_in running function = runs_or (slice_get running function)

-- how many bits the frame has, if it is active
abbrev pub bits_on : Option FrameShape → (ℕ → Bool) → Option ℕ
bits_on None runs = None
bits_on (Some row) runs = if is_on runs row.owner then Some row.bits else None
