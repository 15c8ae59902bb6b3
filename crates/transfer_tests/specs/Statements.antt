-- Memories of a program, its statements and expressions, and arguments of a call.
--   IsMemoryOf checked memory   the memory is one of the program
use Rattle.std.proofs.Common.{◌≡◌}
use Rattle.alf_check.specs.CheckedPrograms.{CheckedParts}
use Rattle.memory_model.specs.KeptMemories.{MemoryParts, IsMemory}

-- the memory is one of the program
pub record IsMemoryOf (checked : CheckedParts) (memory : MemoryParts) : Type 0 where
  pub program : memory.checked ≡ checked
  pub kept : IsMemory memory
