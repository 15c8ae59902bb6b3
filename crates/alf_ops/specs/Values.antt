-- Values of a run.
--   bits_of value                the word, or the offset of a pointer
--   is_pointer value             it is a pointer
--   size_of value                its size in bits
--   FitsValue size value         it has the size, and its word or offset is in range
--   EachValueFits sizes values   there is one value that fits for each size
use Rattle.std.specs.Prelude.{◌≡◌, ◌<◌, ◌^◌, ℕ, Bool, true, false, List}
use Rattle.std.specs.List.{AllZip}
use Rattle.alf_ops.specs.declared.history.Value.{Value}
use Rattle.alf_ops.specs.declared.history.Value.TheVariants.{Int, Ptr}

-- the word, or the offset of a pointer
abbrev pub bits_of : Value → ℕ
bits_of (Int size word) = word
bits_of (Ptr frame offset) = offset

-- the value is a pointer
abbrev pub is_pointer : Value → Bool
is_pointer (Int size word) = false
is_pointer (Ptr frame offset) = true

-- the size of a value in bits
abbrev pub size_of : Value → ℕ
size_of (Int size word) = size
size_of (Ptr frame offset) = 32

-- the value has the size, and its word or offset is in range
abbrev pub FitsValue : ℕ → Value → Type 0
FitsValue size (Int own word) = (own ≡ size) × (word < 2 ^ size)
FitsValue size (Ptr frame offset) = (size ≡ 32) × (offset < 2 ^ 32)

-- there is one value that fits for each size
abbrev pub EachValueFits : List ℕ → List Value → Type 0
EachValueFits sizes values = AllZip FitsValue sizes values
