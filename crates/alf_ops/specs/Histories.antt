-- What a load gives in a run, byte by byte.
-- A history is the list of a run's events, the newest first. A table has for each frame its owner, which is the
-- function that makes it anew each time it is entered, or None for a global frame, and its size in bits.
--   is_running history function      the newest Enter or Leave of the function is an Enter
--   is_active owner history          the frame of this owner is active: it is global, or its function is running
--   Byte                             a byte of memory: the store that it comes from, and which byte of the value it is
--   is_byte_of offset size byte      the cell covers the byte
--   origin owner frame history byte  what the byte comes from: the newest store since the owner was last entered that covers it
--   bytes_of offset size             the bytes of a cell, the lowest first
--   contents taken offset size       what bytes that come from these stores give as one cell
--   cell_in from offset size         what a cell gives in a table of bytes
--   address_of frames history place size   the cell at an address, or its fault, tested in the order kind, dead, bounds
--   load frames history place size   the value or the fault of a load
--   store frames history place value the history after a store, or its fault
--   IsSoundHistory history                  each store is of a value of its size
use Rattle.std.specs.Prelude.{ℕ, suc, zero, Bool, true, false, List, [], ◌∷◌, map, Option, Some, None, Result, Ok, Err, ◌+◌, ◌-◌, ◌*◌, ◌/◌, ◌%◌, ◌^◌, ◌==◌, ◌&&◌, nat_le, nat_lt, if◌then◌else◌, slice_get, ⊤}
use Rattle.std.specs.List.{list_all, list_any}
use Rattle.alf_ops.specs.declared.history.Value.{Value}
use Rattle.alf_ops.specs.declared.history.Value.TheVariants.{Int, Ptr}
use Rattle.alf_ops.specs.declared.history.RunFault.{RunFault}
use Rattle.alf_ops.specs.declared.history.RunFault.TheVariants.{Uninit, Mixed, Bounds, Dead, Kind}
use Rattle.alf_ops.specs.declared.history.FrameShape.{FrameShape}
use Rattle.alf_ops.specs.declared.history.RunEvent.{RunEvent}
use Rattle.alf_ops.specs.declared.history.RunEvent.TheVariants.{Enter, Leave, Store}
use Rattle.alf_ops.specs.Values.{bits_of, is_pointer, size_of, FitsValue}

-- ---- active frames

-- the newest Enter or Leave of the function is an Enter
abbrev pub is_running : List RunEvent → ℕ → Bool
is_running [] function = false
is_running (Enter entered ∷ history) function = if entered == function then true else is_running history function
is_running (Leave left ∷ history) function = if left == function then false else is_running history function
is_running (Store frame offset size value ∷ history) function = is_running history function

-- the frame of this owner is active: it is global, or its function is running
abbrev pub is_active : Option ℕ → List RunEvent → Bool
is_active None history = true
is_active (Some function) history = is_running history function

-- the frame is of this function
abbrev pub is_owner : Option ℕ → ℕ → Bool
is_owner None function = false
is_owner (Some owner) function = owner == function

-- ---- where a byte comes from

-- a byte that a store left: the store's offset, size and value, and which byte of the value it is
pub record Byte : Type 0 where
  pub offset : ℕ
  pub size : ℕ
  pub value : Value
  pub place : ℕ

-- the cell covers the byte
abbrev pub is_byte_of : ℕ → ℕ → ℕ → Bool
is_byte_of offset size byte = nat_le offset byte && nat_lt byte (offset + size / 8)

-- the byte of memory that a store leaves there
abbrev pub left_by : ℕ → ℕ → Value → ℕ → Byte
left_by offset size value byte = record { offset = offset; size = size; value = value; place = byte - offset }

-- a table of bytes after a store
abbrev pub put : ℕ → ℕ → Value → (ℕ → Option Byte) → ℕ → Option Byte
put offset size value from byte = if is_byte_of offset size byte then Some (left_by offset size value byte) else from byte

-- what a byte of the frame comes from: the newest store since the owner was last entered that covers it
abbrev pub origin : Option ℕ → ℕ → List RunEvent → ℕ → Option Byte
origin owner frame [] byte = None
origin owner frame (Enter entered ∷ history) byte = if is_owner owner entered then None else origin owner frame history byte
origin owner frame (Leave left ∷ history) byte = origin owner frame history byte
origin owner frame (Store other offset size value ∷ history) byte =
    if other == frame then put offset size value (origin owner frame history) byte else origin owner frame history byte

-- ---- what a cell gives

-- so many offsets from this one on
abbrev pub offsets : ℕ → ℕ → List ℕ
offsets offset zero = []
offsets offset (suc count) = offset ∷ offsets (suc offset) count

-- the bytes of a cell, the lowest first
abbrev pub bytes_of : ℕ → ℕ → List ℕ
bytes_of offset size = offsets offset (size / 8)

-- nothing was stored in the byte
abbrev pub is_empty : Option Byte → Bool
is_empty None = true
is_empty (Some byte) = false

-- the byte comes from a store of exactly this cell
abbrev pub is_from : ℕ → ℕ → Option Byte → Bool
is_from offset size None = false
is_from offset size (Some byte) = (byte.offset == offset) && (byte.size == size)

-- the byte comes from the store of a pointer
abbrev pub of_pointer : Option Byte → Bool
of_pointer None = false
of_pointer (Some byte) = is_pointer byte.value

-- byte number place of a word, from its lowest bits on
abbrev pub byte_of : ℕ → ℕ → ℕ
byte_of place bits = bits / 2 ^ (8 * place) % 256

-- the bits that a store left in the byte
abbrev pub bits_at : Option Byte → ℕ
bits_at None = 0
bits_at (Some byte) = byte_of byte.place (bits_of byte.value)

-- the word of these bytes, the lowest bits first
abbrev pub word_of : List (Option Byte) → ℕ
word_of [] = 0
word_of (byte ∷ bytes) = word_of bytes * 256 + bits_at byte

-- the value of the store that the first byte comes from
abbrev pub first_value : List (Option Byte) → Result Value RunFault
first_value [] = Err Uninit
first_value (None ∷ bytes) = Err Uninit
first_value (Some byte ∷ bytes) = Ok byte.value

-- what bytes that come from these stores give as one cell
abbrev pub contents : List (Option Byte) → ℕ → ℕ → Result Value RunFault
contents taken offset size =
    if list_any is_empty taken then Err Uninit
    else (if list_all (is_from offset size) taken then first_value taken
    else (if list_any of_pointer taken then Err Mixed
    else Ok (Int size (word_of taken))))

-- what a cell of a frame gives whose bytes come from these stores
abbrev pub cell_in : (ℕ → Option Byte) → ℕ → ℕ → Result Value RunFault
cell_in from offset size = contents (map from (bytes_of offset size)) offset size

-- ---- loads and stores

-- a cell of an active frame that lies in it: the frame, its owner, and the offset
pub record Address : Type 0 where
  pub frame : ℕ
  pub owner : Option ℕ
  pub offset : ℕ

-- the cell lies in a frame of so many bits
abbrev pub fits_in : ℕ → ℕ → ℕ → Bool
fits_in bits offset size = nat_le (offset * 8 + size) bits

-- the cell at an offset of a frame of the table, or its fault
abbrev pub address_in : Option FrameShape → List RunEvent → ℕ → ℕ → ℕ → Result Address RunFault
address_in None history frame offset size = Err Dead
address_in (Some row) history frame offset size =
    if is_active row.owner history
    then (if fits_in row.bits offset size then Ok (record { frame = frame; owner = row.owner; offset = offset }) else Err Bounds)
    else Err Dead

-- the cell at an address, or its fault
abbrev pub address_of : List FrameShape → List RunEvent → Value → ℕ → Result Address RunFault
address_of frames history (Int own word) size = Err Kind
address_of frames history (Ptr frame offset) size = address_in (slice_get frames frame) history frame offset size

-- what the cell gives after these events
abbrev pub loaded : List RunEvent → ℕ → Result Address RunFault → Result Value RunFault
loaded history size (Ok address) = cell_in (origin address.owner address.frame history) address.offset size
loaded history size (Err fault) = Err fault

-- the value or the fault of a load
abbrev pub load : List FrameShape → List RunEvent → Value → ℕ → Result Value RunFault
load frames history place size = loaded history size (address_of frames history place size)

-- the events with a store in the cell
abbrev pub stored : List RunEvent → Value → Result Address RunFault → Result (List RunEvent) RunFault
stored history value (Ok address) = Ok (Store address.frame address.offset (size_of value) value ∷ history)
stored history value (Err fault) = Err fault

-- the history after a store, or its fault
abbrev pub store : List FrameShape → List RunEvent → Value → Value → Result (List RunEvent) RunFault
store frames history place value = stored history value (address_of frames history place (size_of value))

-- each store is of a value of its size, a word of which is below 2 to it
abbrev pub IsSoundHistory : List RunEvent → Type 0
IsSoundHistory [] = ⊤
IsSoundHistory (Enter function ∷ history) = IsSoundHistory history
IsSoundHistory (Leave function ∷ history) = IsSoundHistory history
IsSoundHistory (Store frame offset size value ∷ history) = FitsValue size value × IsSoundHistory history
