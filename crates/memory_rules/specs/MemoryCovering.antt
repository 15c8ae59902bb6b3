-- Each call on a memory keeps covering.
--   MemHolds                    covering of a memory, with values and flags
use Rattle.std.specs.Prelude.{slice_get}
use Rattle.std.proofs.Common.{◌≡◌, ℕ, true, List, Option, Some}
use Rattle.alf_ops.specs.declared.history.FrameShape.{FrameShape}
use Rattle.alf_ops.specs.declared.history.RunEvent.{RunEvent}
use Rattle.alf_ops.specs.Histories.{origin, is_active}
use Rattle.alf_ops.specs.Values.{FitsValue}
use Rattle.memory_rules.specs.ValueSets.{ValueSets, IsValueSets}
use Rattle.memory_rules.specs.Covers.{IsCellSize}
use Rattle.memory_rules.specs.Memories.{Mem, is_on}
use Rattle.memory_rules.specs.Holds.{FrameHolds}

pub record MemHolds (d : ValueSets) (rows : List FrameShape) (m : Mem d) (history : List RunEvent) : Type 0 where
  pub active : (owner : Option ℕ) → is_active owner history ≡ is_on m.runs owner
  pub frames : (frame : ℕ) (row : FrameShape) → slice_get rows frame ≡ Some row → is_active row.owner history ≡ true
      → FrameHolds d row.bits (m.frames frame) (origin row.owner frame history)
