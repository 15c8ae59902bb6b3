-- Inputs inside their ranges, and room for them.
--   IsRange row               the range is one of words of the size
--   HasInputRoom parts row    the cell lies in its frame, which is active
--   HaveInputRoom parts rows  the same of inputs in a row
use Rattle.std.specs.Prelude.{◌≡◌, true, List, All, Some}
use Rattle.alf_check.specs.declared.rows.InputRow.{InputRow}
use Rattle.alf_check.specs.CheckedPrograms.{NumberedProgram, seen}
use Rattle.alf_check.specs.Kept.{IsKept}
use Rattle.alf_check.specs.Inputs.{KeepsInput}
use Rattle.memory_rules.specs.Memories.{is_on}
use Rattle.memory_model.specs.KeptMemories.{MemoryParts, memory_in}

-- the range is one of words of the size
pub record IsRange (row : InputRow) : Type 0 where
  pub program : NumberedProgram
  pub input : KeepsInput program row

-- the cell lies in its frame, which is active, as those of the root are
pub record HasInputRoom (parts : MemoryParts) (row : InputRow) : Type 0 where
  pub keeps : IsKept (seen parts.checked)
  pub input : KeepsInput (seen parts.checked) row
  pub runs : is_on (memory_in parts).runs (Some (seen parts.checked).root) ≡ true

-- the same of inputs in a row
pub record HaveInputRoom (parts : MemoryParts) (rows : List InputRow) : Type 0 where
  pub keeps : IsKept (seen parts.checked)
  pub inputs : All (KeepsInput (seen parts.checked)) rows
  pub runs : is_on (memory_in parts).runs (Some (seen parts.checked).root) ≡ true
