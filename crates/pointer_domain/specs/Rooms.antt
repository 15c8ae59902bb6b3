-- What code keeps of an abstract value.
--   value_of kept   its words, and its pointers
use Rattle.std.specs.Prelude.{[], Some}
use Rattle.pointer_rules.specs.AbstractValues.{AbstractValue}
use Rattle.pointer_domain.specs.declared.value.Kept.{Kept}
use Rattle.pointer_domain.specs.declared.value.Kept.TheVariants as kinds

-- its words, and its pointers
abbrev pub value_of : Kept → AbstractValue
value_of (kinds.Words words) = record { words = Some words; places = [] }
value_of (kinds.Mixed room) = record { words = room.value.words; places = room.value.places.items }
