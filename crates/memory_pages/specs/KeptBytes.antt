-- Bytes as slots keep them.
--   eight lo width step   the words of 8 bits with this low end, width and step
--   narrow_byte narrow    the byte of such words
--   byte_of form          the byte that is kept so
--   IsKept form           words of 8 bits are in normal form
use Rattle.std.specs.Prelude.{ℕ, ℤ, pos, ◌+ℤ◌, Some, None}
use Rattle.strided_rules.specs.Strides.{Stride, IsStride}
use Rattle.memory_pages.specs.declared.byte.Byte.{Byte}
use Rattle.memory_pages.specs.declared.kept_byte.Narrow.{Narrow}
use Rattle.memory_pages.specs.declared.kept_byte.Form.{Form}
use Rattle.memory_pages.specs.declared.kept_byte.Form.TheVariants as forms

-- the words of 8 bits with this low end, width and step
abbrev pub eight : ℤ → ℕ → ℕ → Stride
eight lo width step = record { size = 8; numbers = record { lo = lo; hi = lo +ℤ pos width; step = pos step } }

-- the byte of such words
abbrev pub narrow_byte : Narrow → Byte
narrow_byte narrow = record { value = Some (eight narrow.lo narrow.width narrow.step); u = narrow.u; p = narrow.p }

-- the byte that is kept so
abbrev pub byte_of : Form → Byte
byte_of (forms.Bare u p) = record { value = None; u = u; p = p }
byte_of (forms.Narrow narrow) = narrow_byte narrow
byte_of (forms.Wide room) = room.value

-- words of 8 bits are in normal form
abbrev pub IsKept : Form → Type 0
IsKept (forms.Bare u p) = Unit {0}
IsKept (forms.Narrow narrow) = IsStride (eight narrow.lo narrow.width narrow.step)
IsKept (forms.Wide room) = Unit {0}
