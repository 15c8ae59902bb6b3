-- What a byte of a frame holds, and what a cell of such bytes gives.
--   part value place           what byte number place of a value holds: a byte of a word, or one of the bytes of a pointer
--   content_of byte            what a byte holds that comes from this store
--   is_blank content           the byte holds nothing
--   of_pointer content         it is one of a pointer
--   are_parts place taken      the bytes are bytes of pointers, of the numbers from this one on
--   pointer_in content         the pointer that a byte is one of
--   pointer_of taken           the pointer that the first of these bytes is one of
--   word_held taken            the word of these bytes, the lowest bits first
--   cell_of taken size         what these bytes give as one cell
--   cell_held from offset size what a cell gives where each byte holds what this table says
use Rattle.std.specs.Prelude.{ℕ, suc, Bool, true, false, List, [], ◌∷◌, map, Option, Some, None, Result, Ok, Err, ◌+◌, ◌*◌, ◌==◌, ◌&&◌, if◌then◌else◌}
use Rattle.std.specs.List.{list_any}
use Rattle.alf_ops.specs.declared.history.Value.{Value}
use Rattle.alf_ops.specs.declared.history.Value.TheVariants.{Int, Ptr}
use Rattle.alf_ops.specs.declared.history.RunFault.{RunFault}
use Rattle.alf_ops.specs.declared.history.RunFault.TheVariants.{Uninit, Mixed}
use Rattle.alf_ops.specs.Histories.{Byte, byte_of, bytes_of}
use Rattle.alf_values.specs.declared.bytes.Content.{Content}
use Rattle.alf_values.specs.declared.bytes.Content.TheVariants.{Word, Pointer}

-- what byte number place of a value holds, the lowest first
abbrev pub part : Value → ℕ → Content
part (Int size word) place = Word (byte_of place word)
part (Ptr frame offset) place = Pointer frame offset place

-- what a byte holds that comes from this store, or from none
abbrev pub content_of : Option Byte → Option Content
content_of None = None
content_of (Some byte) = Some (part byte.value byte.place)

-- ---- what a cell gives

-- the byte holds nothing
abbrev pub is_blank : Option Content → Bool
is_blank None = true
is_blank (Some content) = false

-- the byte is one of a pointer
abbrev pub of_pointer : Option Content → Bool
of_pointer None = false
of_pointer (Some (Word low)) = false
of_pointer (Some (Pointer frame offset place)) = true

-- the byte is byte number place of a pointer
abbrev pub is_part : ℕ → Option Content → Bool
is_part place None = false
is_part place (Some (Word low)) = false
is_part place (Some (Pointer frame offset own)) = own == place

-- the bytes are bytes of pointers, of the numbers from this one on
abbrev pub are_parts : ℕ → List (Option Content) → Bool
are_parts place [] = true
are_parts place (byte ∷ taken) = is_part place byte && are_parts (suc place) taken

-- the pointer that a byte is one of
abbrev pub pointer_in : Option Content → Result Value RunFault
pointer_in None = Err Uninit
pointer_in (Some (Word low)) = Err Uninit
pointer_in (Some (Pointer frame offset place)) = Ok (Ptr frame offset)

-- the pointer that the first of these bytes is one of
abbrev pub pointer_of : List (Option Content) → Result Value RunFault
pointer_of [] = Err Uninit
pointer_of (byte ∷ taken) = pointer_in byte

-- the bits of a word that a byte holds
abbrev pub bits_held : Option Content → ℕ
bits_held None = 0
bits_held (Some (Word low)) = low
bits_held (Some (Pointer frame offset place)) = 0

-- the word of these bytes, the lowest bits first
abbrev pub word_held : List (Option Content) → ℕ
word_held [] = 0
word_held (byte ∷ taken) = word_held taken * 256 + bits_held byte

-- what these bytes give as one cell of this size
abbrev pub cell_of : List (Option Content) → ℕ → Result Value RunFault
cell_of taken size =
    if list_any is_blank taken then Err Uninit
    else (if (size == 32) && are_parts 0 taken then pointer_of taken
    else (if list_any of_pointer taken then Err Mixed
    else Ok (Int size (word_held taken))))

-- what a cell gives where each byte holds what this table says
abbrev pub cell_held : (ℕ → Option Content) → ℕ → ℕ → Result Value RunFault
cell_held from offset size = cell_of (map from (bytes_of offset size)) size
