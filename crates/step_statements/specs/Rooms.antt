-- Words that frames hold at first, and room for them.
--   HasRoom parts init      the word has the size of its cell, which lies in its frame, and this is active
--   HaveRoom parts inits    the same of words in a row
use Rattle.std.specs.Prelude.{◌≡◌, ℕ, true, List, Option, All}
use Rattle.alf_check.specs.declared.rows.InitRow.{InitRow}
use Rattle.alf_check.specs.CheckedPrograms.{seen}
use Rattle.alf_check.specs.Kept.{InitFits}
use Rattle.memory_rules.specs.Memories.{is_on}
use Rattle.memory_model.specs.KeptMemories.{MemoryParts, memory_in}

-- the word has the size of its cell, which lies in its frame, and this is active
pub record HasRoom (parts : MemoryParts) (init : InitRow) : Type 0 where
  pub owner : Option ℕ
  pub active : is_on (memory_in parts).runs owner ≡ true
  pub fits : InitFits (seen parts.checked).frames owner init

-- the same of words in a row
pub record HaveRoom (parts : MemoryParts) (inits : List InitRow) : Type 0 where
  pub owner : Option ℕ
  pub active : is_on (memory_in parts).runs owner ≡ true
  pub fit : All (InitFits (seen parts.checked).frames owner) inits
