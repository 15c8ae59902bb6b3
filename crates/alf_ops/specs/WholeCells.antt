-- Cells whose bytes all come from stores of exactly this cell, in the table of a sound history.
--   IsCell size                 a multiple of 8 above 0
--   is_whole from offset size   all bytes of the cell come from stores of exactly this cell
--   OneStore from offset size   the cell is of one store, whose value fits
--   IsTable from                each cell that is whole is of one store
--   KnowsPlace byte left        a byte knows its place in its store, whose value fits
use Rattle.std.proofs.Common.{◌≡◌, ℕ, Bool, true, map, Option, Some, ◌-◌, ◌<◌, ◌/◌, ◌%◌}
use Rattle.std.specs.List.{list_all}
use Rattle.alf_ops.specs.declared.history.Value.{Value}
use Rattle.alf_ops.specs.Values.{FitsValue}
use Rattle.alf_ops.specs.Histories.{Byte, is_byte_of, is_from, bytes_of}

-- the size of a cell
abbrev pub IsCell : ℕ → Type 0
IsCell size = (0 < size / 8) × (size % 8 ≡ 0)

-- all bytes of the cell come from stores of exactly this cell
abbrev pub is_whole : (ℕ → Option Byte) → ℕ → ℕ → Bool
is_whole from offset size = list_all (is_from offset size) (map from (bytes_of offset size))

-- a whole cell is of one store
pub record OneStore (from : ℕ → Option Byte) (offset size : ℕ) : Type 0 where
  pub value : Value
  pub fits : FitsValue size value
  pub each : (byte : ℕ) → is_byte_of offset size byte ≡ true
      → from byte ≡ Some (record { offset = offset; size = size; value = value; place = byte - offset })

abbrev pub IsTable : (ℕ → Option Byte) → Type 0
IsTable from = (offset size : ℕ) → IsCell size → is_whole from offset size ≡ true → OneStore from offset size

-- a byte knows its place in its store, whose value fits
pub record KnowsPlace (byte : ℕ) (stored : Byte) : Type 0 where
  pub place : stored.place ≡ byte - stored.offset
  pub fits : FitsValue stored.size stored.value
