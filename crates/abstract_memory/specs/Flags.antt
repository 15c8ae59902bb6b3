-- Flags as memories keep them.
--   flags_of flags   the flags that are kept so
--   AreFlags flags   no more count than there is room for in place
use Rattle.std.specs.Prelude.{Bool, List, take, ◌≤◌}
use Rattle.abstract_memory.specs.declared.running.Flags.{Flags}
use Rattle.abstract_memory.specs.declared.running.Flags.TheVariants as forms

-- the flags that are kept so
abbrev pub flags_of : Flags → List Bool
flags_of (forms.Few flags count) = take count flags
flags_of (forms.Many room) = room.value.items

-- no more count than there is room for in place
abbrev pub AreFlags : Flags → Type 0
AreFlags (forms.Few flags count) = count ≤ 14
AreFlags (forms.Many room) = Unit {0}
