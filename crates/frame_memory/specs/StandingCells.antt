-- Cells as they are held.
--   seen cell   what a cell that is held is
use Rattle.pointer_rules.specs.AbstractValues.{AbstractValue}
use Rattle.memory_pages.specs.declared.held.Held.{Held}
use Rattle.memory_rules.specs.Frames.{Cell}

-- what a cell that is held is
abbrev pub seen : Held → Cell AbstractValue
seen cell = record { value = cell.value; u = cell.u; x = cell.x }
