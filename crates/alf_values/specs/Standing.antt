-- Which histories the memory of a run stands for.
--   FrameStandsFor frame live number history   the frame is active where it is after the history, and then each of its bytes holds what the history left there
--   StandsFor memory history                   the history is sound, and each frame stands for it
--   IsStorable value                           the value has the size of a cell, and fits it
--   StoresTo old new history at value          the memory stands for the history with the store
--   IsRefused old history at value fault       the store is refused with the fault that the history gives
--   Stored old new history at value result     which of the two it is
--   EachLoad                                   where the memory stands for a history, each cell of an active frame gives what the history's load gives
use Rattle.std.specs.Prelude.{◌≡◌, ℕ, Bool, true, List, Some, Result, Ok, Err, MatchResult, slice_get, ◌+◌, ◌*◌, ◌/◌, ◌<◌, ◌≤◌}
use Rattle.alf_ops.specs.declared.history.Value.{Value}
use Rattle.alf_ops.specs.declared.history.Value.TheVariants.{Ptr}
use Rattle.alf_ops.specs.declared.history.RunEvent.{RunEvent}
use Rattle.alf_ops.specs.Values.{size_of, FitsValue}
use Rattle.alf_ops.specs.Histories.{origin, is_active, load, store, IsSoundHistory}
use Rattle.alf_check.specs.Kept.{IsCellSize}
use Rattle.alf_values.specs.declared.fault.ValueFault.{ValueFault}
use Rattle.alf_values.specs.declared.fault.ValueFault.TheVariants.{Run, Memory}
use Rattle.alf_values.specs.Contents.{content_of, cell_held}
use Rattle.alf_values.specs.Memories.{HeldFrame, RunMemory, shapes, is_live, byte_in}

-- the frame is active where it is after the history, and then each of its bytes holds what the newest store left there
-- since its owner was last entered
pub record FrameStandsFor (frame : HeldFrame) (live : Bool) (number : ℕ) (history : List RunEvent) : Type 0 where
  pub active : live ≡ is_active frame.shape.owner history
  pub bytes : live ≡ true → (byte : ℕ) → byte < frame.shape.bits / 8
      → byte_in frame.bytes byte ≡ content_of (origin frame.shape.owner number history byte)

-- the history is sound, and each frame stands for it
pub record StandsFor (memory : RunMemory) (history : List RunEvent) : Type 0 where
  pub sound : IsSoundHistory history
  pub each : (number : ℕ) (frame : HeldFrame) → slice_get memory.frames number ≡ Some frame
      → FrameStandsFor frame (is_live memory.running frame.shape.owner) number history

-- ---- stores

-- the value has the size of a cell, and fits it
pub record IsStorable (value : Value) : Type 0 where
  pub cell : IsCellSize (size_of value)
  pub fits : FitsValue (size_of value) value

-- the memory stands for the history with the store
pub record StoresTo (old new : RunMemory) (history : List RunEvent) (at value : Value) : Type 0 where
  pub after : List RunEvent
  pub stored : store (shapes old) history at value ≡ Ok after
  pub stands : StandsFor new after

-- the store is refused with the fault that the history gives, and never for want of memory
abbrev pub IsRefused : RunMemory → List RunEvent → Value → Value → ValueFault → Type 0
IsRefused old history at value (Run fault) = store (shapes old) history at value ≡ Err fault
IsRefused old history at value Memory = ⊥

-- the memory stands for the history with the store, or the store is refused
abbrev pub Stored : RunMemory → RunMemory → List RunEvent → Value → Value → Result Unit ValueFault → Type 0
Stored old new history at value result = MatchResult result (λ _. StoresTo old new history at value) (λ fault. IsRefused old history at value fault)

-- ---- loads

-- a cell that lies in an active frame
pub record IsCellIn (memory : RunMemory) (number : ℕ) (frame : HeldFrame) (offset size : ℕ) : Type 0 where
  pub known : slice_get memory.frames number ≡ Some frame
  pub active : is_live memory.running frame.shape.owner ≡ true
  pub cell : IsCellSize size
  pub within : offset * 8 + size ≤ frame.shape.bits

-- where the memory stands for a history, each cell of an active frame gives what the history's load gives
abbrev pub EachLoad : Type 0
EachLoad = (memory : RunMemory) (history : List RunEvent) (number : ℕ) (frame : HeldFrame) (offset size : ℕ)
    → StandsFor memory history
    → IsCellIn memory number frame offset size
    → cell_held (byte_in frame.bytes) offset size ≡ load (shapes memory) history (Ptr number offset) size
