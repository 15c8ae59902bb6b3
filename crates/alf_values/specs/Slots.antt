-- The slots of one frame.
--   live mark slot                  what a slot holds: its content, where it has this mark
--   held slots mark byte            what a byte of the frame holds
--   written mark value slots byte place count   the slots after so many bytes of a value, from number place on, were set from this byte on
--   blank                           a slot that holds nothing, whatever the mark of its frame
use Rattle.std.specs.Prelude.{ℕ, suc, zero, List, Option, Some, None, slice_get, slice_set, ◌==◌, if◌then◌else◌}
use Rattle.alf_ops.specs.declared.history.Value.{Value}
use Rattle.alf_values.specs.declared.bytes.Content.{Content}
use Rattle.alf_values.specs.declared.bytes.Content.TheVariants.{Word}
use Rattle.alf_values.specs.declared.slots.Slot.{Slot}
use Rattle.alf_values.specs.Contents.{part}

-- what a slot holds: its content, where it has this mark
abbrev pub live : ℕ → Slot → Option Content
live mark slot = if slot.mark == mark then Some slot.content else None

abbrev pub held_in : ℕ → Option Slot → Option Content
held_in mark None = None
held_in mark (Some slot) = live mark slot

-- what a byte of the frame holds
abbrev pub held : List Slot → ℕ → ℕ → Option Content
held slots mark byte = held_in mark (slice_get slots byte)

-- so many bytes of a value are set, from its byte number place on
abbrev pub written : ℕ → Value → List Slot → ℕ → ℕ → ℕ → List Slot
written mark value slots byte place zero = slots
written mark value slots byte place (suc count) =
    written mark value (slice_set slots byte (record { mark = mark; content = part value place })) (suc byte) (suc place) count

-- a slot that holds nothing, whatever the mark of its frame
abbrev pub blank : Slot
blank = record { mark = 0; content = Word 0 }
