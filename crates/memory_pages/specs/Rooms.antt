-- The slots of a frame: one slot so many times, a list of them, or pages.
--   slots_of room   the slots that are kept so
use Rattle.std.specs.Prelude.{List, replicate}
use Rattle.memory_pages.specs.Slots.{HeldSlot}
use Rattle.memory_pages.specs.declared.frame.Room.{Room}
use Rattle.memory_pages.specs.declared.frame.Room.TheVariants as forms

-- the slots that are kept so
abbrev pub slots_of : Room → List HeldSlot
slots_of (forms.Blank count slot) = replicate count slot.value
slots_of (forms.Lone sheet) = sheet.value
slots_of (forms.Short pages) = pages.value
slots_of (forms.Many pages) = pages.value
