-- Each call on a frame keeps sharpness, and a load from a sharp frame is exact.
use Rattle.std.specs.Prelude.{IsSomeAnd}
use Rattle.std.proofs.Common.{◌≡◌, ℕ, true, false, Option, Some, None}
use Rattle.alf_ops.specs.declared.history.Value.{Value}
use Rattle.alf_ops.specs.declared.history.Value.TheVariants.{Int, Ptr}
use Rattle.alf_ops.specs.Histories.{Byte, byte_of}
use Rattle.memory_rules.specs.ValueSets.{ValueSets, IsValueSets, OnlyHas}
use Rattle.memory_rules.specs.Frames.{AbstractByte}
use Rattle.memory_rules.specs.Covers.{FrameSized}

-- what a byte of a sharp frame has: this is what it comes from
abbrev pub SharpValue : (d : ValueSets) → AbstractByte d.Word → Value → ℕ → Type 0
SharpValue d byte (Int size bits) place = (byte.u ≡ false) × (byte.p ≡ false) × IsSomeAnd byte.value (λ word. OnlyHas d word 8 (byte_of place bits))
SharpValue d byte (Ptr frame offset) place = (byte.u ≡ false) × (byte.p ≡ true) × (byte.value ≡ None)

abbrev pub SharpByte : (d : ValueSets) → AbstractByte d.Word → Option Byte → Type 0
SharpByte d byte None = (byte.u ≡ true) × (byte.p ≡ false) × (byte.value ≡ None)
SharpByte d byte (Some stored) = SharpValue d byte stored.value stored.place
