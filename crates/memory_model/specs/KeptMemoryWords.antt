-- What parts promise, for functions whose clauses are the laws.
--   PartsAreMade    the parts of a memory are those made of what they stand for
--   SeenIsWithin    what they stand for holds nothing outside the frames
--   MadeIsSeen      what is made of a memory that holds nothing outside the frames stands for it
--   MadeIsMemory    and are parts of a memory, where the values have their sizes
use Rattle.std.specs.Prelude.{◌≡◌}
use Rattle.alf_check.specs.CheckedPrograms.{CheckedParts}
use Rattle.memory_rules.specs.AbstractSets.{abstract_sets}
use Rattle.memory_rules.specs.Memories.{Mem, MemSized}
use Rattle.memory_model.specs.KeptMemories.{MemoryParts, memory_in, rows_of, functions_of, IsMemory}
use Rattle.memory_model.specs.Made.{made}
use Rattle.memory_model.specs.Within.{IsWithin}

abbrev pub PartsAreMade : Type 0
PartsAreMade = (parts : MemoryParts) → IsMemory parts → made parts.checked (memory_in parts) ≡ parts

abbrev pub SeenIsWithin : Type 0
SeenIsWithin = (parts : MemoryParts) → IsMemory parts → IsWithin (functions_of parts.checked) (rows_of parts.checked) (memory_in parts)

abbrev pub MadeIsSeen : Type 0
MadeIsSeen = (checked : CheckedParts) (m : Mem abstract_sets) → IsWithin (functions_of checked) (rows_of checked) m → memory_in (made checked m) ≡ m

abbrev pub MadeIsMemory : Type 0
MadeIsMemory = (checked : CheckedParts) (m : Mem abstract_sets) → IsWithin (functions_of checked) (rows_of checked) m → MemSized abstract_sets m → IsMemory (made checked m)
