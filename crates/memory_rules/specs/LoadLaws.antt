-- A load of a cell of a covered frame.
--   load_covered   it is among the results of the cell
use Rattle.std.proofs.Common.{◌≡◌, ℕ, true, Option}
use Rattle.alf_ops.specs.Histories.{Byte, cell_in, fits_in}
use Rattle.alf_ops.specs.WholeCells.{IsTable}
use Rattle.memory_rules.specs.ValueSets.{ValueSets, IsValueSets}
use Rattle.memory_rules.specs.Frames.{FrameMem, stands, load_results}
use Rattle.memory_rules.specs.Covers.{Among, IsCellSize, FrameSized, FrameCovers}
use Rattle.memory_rules.specs.FlagLaws.{from_flags}
use Rattle.memory_rules.specs.HoldLaws.{holds}
use Rattle.memory_rules.specs.CellLaws.{stands_holds}

pub load_covered : (d : ValueSets) (laws : IsValueSets d) (bits : ℕ) (m : FrameMem d) (from : ℕ → Option Byte)
    → FrameSized d m → IsTable from
    → FrameCovers d bits m from → (offset size : ℕ) → IsCellSize size → fits_in bits offset size ≡ true
    → Among d (cell_in from offset size) (load_results d m offset size)
load_covered d laws bits m from sized table covers offset size is fits =
    from_flags d laws m from sized covers.bytes table (stands d m offset size) offset size is (stands_holds d laws bits m from (holds d laws bits m from covers) offset size is fits)
