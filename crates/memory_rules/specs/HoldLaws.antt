-- Laws of holds.
--   holds, covers   the one from the other
use Rattle.std.proofs.Common.{ℕ, Option}
use Rattle.alf_ops.specs.Histories.{Byte, cell_in}
use Rattle.alf_ops.specs.WholeCells.{IsTable}
use Rattle.memory_rules.specs.ValueSets.{ValueSets, IsValueSets}
use Rattle.memory_rules.specs.Frames.{FrameMem, taken}
use Rattle.memory_rules.specs.Covers.{FrameSized, FrameCovers}
use Rattle.memory_rules.specs.FlagLaws.{to_flags, from_flags}
use Rattle.memory_rules.specs.Holds.{FrameHolds}

module _ (d : ValueSets) (laws : IsValueSets d) (bits : ℕ) (m : FrameMem d) (from : ℕ → Option Byte) where
  pub holds : FrameCovers d bits m from → FrameHolds d bits m from
  holds c = record {
    bytes = c.bytes;
    kept = λ offset size cell kept is fits. to_flags d laws (taken d m offset size) cell (cell_in from offset size) (c.kept offset size cell kept is fits);
    others = c.others;
  }

  pub covers : FrameSized d m → IsTable from → FrameHolds d bits m from → FrameCovers d bits m from
  covers sized table h = record {
    bytes = h.bytes;
    kept = λ offset size cell kept is fits. from_flags d laws m from sized h.bytes table cell offset size is (h.kept offset size cell kept is fits);
    others = h.others;
  }
