-- Laws of loads and stores.
--   IsCellOf                the cell lies in an active frame of the table
--   StoreThenLoad           a store and then a load of the same cell gives the value
--   StoreElsewhere          a store leaves a cell that shares no byte with it, and each cell of another frame, as it was
--   ReadsBack               a load within a word that was stored gives the word's bits there, the lowest bits at the lowest offset
--   EnterEmpties            after a function is entered, no cell of its frames has a value
--   EnterKeepsOthers        entering a function leaves the frames of others as they were
--   LeaveEnds               after a function is left, its frames are not active
--   LeaveKeepsOthers        leaving a function leaves the frames of others as they were
--   KindFirst, DeadNext, PastTheEnd   the faults of an address, in their order, of loads and of stores
--   EmptyByte               a byte without a store makes a load uninit
--   PointerByte             where all bytes have stores, not all of exactly this cell, a byte of a pointer makes it mixed
--   WordOfBytes             else it gives the word of the bytes
--   NewestStore             the newest store since the owner was last entered that covers a byte
--   ComesFromNewest         that is the store that the byte comes from
--   IsOneStore              two bytes of a cell that come from stores of exactly this cell come from stores of one value
--   StoreKeepsSound, LoadFits   a store of a value that fits keeps a history sound, and a load of a sound history gives a value that fits
--   HasOneAnswer            a load gives exactly one of a value and a fault
use Rattle.std.specs.Prelude.{◌≡◌, ◌≢◌, ◌⊎◌, ◌↔◌, ℕ, Bool, true, false, not, List, ◌∷◌, ◌++◌, Option, Some, None, Ok, Err, ◌+◌, ◌*◌, ◌/◌, ◌%◌, ◌^◌, ◌<◌, ◌≤◌, ◌==◌, ◌&&◌, slice_get}
use Rattle.std.specs.List.{list_all}
use Rattle.alf_ops.specs.declared.history.Value.{Value}
use Rattle.alf_ops.specs.declared.history.Value.TheVariants.{Int, Ptr}
use Rattle.alf_ops.specs.declared.history.RunFault.{RunFault}
use Rattle.alf_ops.specs.declared.history.RunFault.TheVariants.{Uninit, Mixed, Bounds, Dead, Kind}
use Rattle.alf_ops.specs.declared.history.RunEvent.{RunEvent}
use Rattle.alf_ops.specs.declared.history.RunEvent.TheVariants.{Enter, Leave, Store}
use Rattle.alf_ops.specs.declared.history.FrameShape.{FrameShape}
use Rattle.alf_ops.specs.Values.{is_pointer, size_of, FitsValue}
use Rattle.alf_ops.specs.Histories.{Byte, origin, is_active, is_owner, is_byte_of, is_from, left_by, byte_of, bits_at, load, store, IsSoundHistory}
use Rattle.alf_ops.specs.WholeCells.{IsCell}

-- the cell lies in the frame of this row, which is active
pub record IsCellOf (row : FrameShape) (frames : List FrameShape) (history : List RunEvent)
    (frame offset size : ℕ) : Type 0 where
  pub known : slice_get frames frame ≡ Some row
  pub active : is_active row.owner history ≡ true
  pub within : offset * 8 + size ≤ row.bits

-- ---- stores, and then loads

-- a store and then a load of the same cell gives the value
abbrev pub StoreThenLoad : Type 0
StoreThenLoad = (frames : List FrameShape) (history after : List RunEvent) (place value : Value)
    → 0 < size_of value / 8
    → store frames history place value ≡ Ok after
    → load frames after place (size_of value) ≡ Ok value

-- a store leaves a cell that shares no byte with it, and each cell of another frame, as it was
abbrev pub StoreElsewhere : Type 0
StoreElsewhere = (frames : List FrameShape) (history after : List RunEvent) (frame offset : ℕ) (value : Value) (other place size : ℕ)
    → store frames history (Ptr frame offset) value ≡ Ok after
    → (frame ≢ other) ⊎ ((place + size / 8 ≤ offset) ⊎ (offset + size_of value / 8 ≤ place))
    → load frames after (Ptr other place) size ≡ load frames history (Ptr other place) size

-- a load within a word that was stored gives the word's bits there, the lowest bits at the lowest offset
abbrev pub ReadsBack : Type 0
ReadsBack = (frames : List FrameShape) (history after : List RunEvent) (frame offset size bits place width : ℕ)
    → store frames history (Ptr frame offset) (Int size bits) ≡ Ok after
    → bits < 2 ^ size
    → IsCell width
    → 8 * place + width ≤ size
    → load frames after (Ptr frame (offset + place)) width ≡ Ok (Int width (bits / 2 ^ (8 * place) % 2 ^ width))

-- ---- functions entered and left

-- after a function is entered, no cell of its frames has a value
abbrev pub EnterEmpties : Type 0
EnterEmpties = (frames : List FrameShape) (history : List RunEvent) (function frame : ℕ) (row : FrameShape) (offset size : ℕ)
    → slice_get frames frame ≡ Some row
    → row.owner ≡ Some function
    → offset * 8 + size ≤ row.bits
    → load frames (Enter function ∷ history) (Ptr frame offset) size ≡ Err Uninit

-- entering a function leaves the frames of others as they were
abbrev pub EnterKeepsOthers : Type 0
EnterKeepsOthers = (frames : List FrameShape) (history : List RunEvent) (function frame : ℕ) (row : FrameShape) (offset size : ℕ)
    → slice_get frames frame ≡ Some row
    → row.owner ≢ Some function
    → load frames (Enter function ∷ history) (Ptr frame offset) size ≡ load frames history (Ptr frame offset) size

-- after a function is left, its frames are not active
abbrev pub LeaveEnds : Type 0
LeaveEnds = (frames : List FrameShape) (history : List RunEvent) (function frame : ℕ) (row : FrameShape) (offset size : ℕ)
    → slice_get frames frame ≡ Some row
    → row.owner ≡ Some function
    → load frames (Leave function ∷ history) (Ptr frame offset) size ≡ Err Dead

-- leaving a function leaves the frames of others as they were
abbrev pub LeaveKeepsOthers : Type 0
LeaveKeepsOthers = (frames : List FrameShape) (history : List RunEvent) (function frame : ℕ) (row : FrameShape) (offset size : ℕ)
    → slice_get frames frame ≡ Some row
    → row.owner ≢ Some function
    → load frames (Leave function ∷ history) (Ptr frame offset) size ≡ load frames history (Ptr frame offset) size

-- ---- faults of an address

-- a word is no address, whatever frames there are
abbrev pub KindFirst : Type 0
KindFirst = (frames : List FrameShape) (history : List RunEvent) (own word size : ℕ) (value : Value)
    → (load frames history (Int own word) size ≡ Err Kind) × (store frames history (Int own word) value ≡ Err Kind)

-- a frame that is not active is dead, wherever the cell lies
abbrev pub DeadNext : Type 0
DeadNext = (frames : List FrameShape) (history : List RunEvent) (frame offset size : ℕ) (row : FrameShape) (value : Value)
    → slice_get frames frame ≡ Some row
    → is_active row.owner history ≡ false
    → (load frames history (Ptr frame offset) size ≡ Err Dead) × (store frames history (Ptr frame offset) value ≡ Err Dead)

-- a cell of an active frame that does not lie in it is out of bounds
abbrev pub PastTheEnd : Type 0
PastTheEnd = (frames : List FrameShape) (history : List RunEvent) (frame offset size : ℕ) (row : FrameShape) (value : Value)
    → slice_get frames frame ≡ Some row
    → is_active row.owner history ≡ true
    → (row.bits < offset * 8 + size → load frames history (Ptr frame offset) size ≡ Err Bounds)
    × (row.bits < offset * 8 + size_of value → store frames history (Ptr frame offset) value ≡ Err Bounds)

-- ---- what a cell gives

-- a byte without a store makes a load uninit
abbrev pub EmptyByte : Type 0
EmptyByte = (row : FrameShape) (frames : List FrameShape) (history : List RunEvent) (frame offset size byte : ℕ)
    → IsCellOf row frames history frame offset size
    → is_byte_of offset size byte ≡ true
    → origin row.owner frame history byte ≡ None
    → load frames history (Ptr frame offset) size ≡ Err Uninit

-- the bytes of the cell all have stores, and one of them comes from a store of another cell
pub record IsOfSeveral (owner : Option ℕ) (history : List RunEvent) (frame offset size : ℕ) : Type 0 where
  pub full : (byte : ℕ) → is_byte_of offset size byte ≡ true → origin owner frame history byte ≢ None
  pub other : ℕ
  pub inside : is_byte_of offset size other ≡ true
  pub apart : is_from offset size (origin owner frame history other) ≡ false

-- in such a cell a byte of a pointer makes a load mixed
abbrev pub PointerByte : Type 0
PointerByte = (row : FrameShape) (frames : List FrameShape) (history : List RunEvent) (frame offset size byte : ℕ) (left : Byte)
    → IsCellOf row frames history frame offset size
    → IsOfSeveral row.owner history frame offset size
    → is_byte_of offset size byte ≡ true
    → origin row.owner frame history byte ≡ Some left
    → is_pointer left.value ≡ true
    → load frames history (Ptr frame offset) size ≡ Err Mixed

-- a load gives a word below 2 to the size, each byte of which is what was left there
pub record GivesWord (owner : Option ℕ) (frames : List FrameShape) (history : List RunEvent)
    (frame offset size : ℕ) : Type 0 where
  pub word : ℕ
  pub gives : load frames history (Ptr frame offset) size ≡ Ok (Int size word)
  pub below : word < 2 ^ size
  pub bytes : (place : ℕ) → place < size / 8
      → byte_of place word ≡ bits_at (origin owner frame history (offset + place))

-- and where no byte is a pointer's, it gives the word of the bytes
abbrev pub WordOfBytes : Type 0
WordOfBytes = (row : FrameShape) (frames : List FrameShape) (history : List RunEvent) (frame offset size : ℕ)
    → IsCellOf row frames history frame offset size
    → IsOfSeveral row.owner history frame offset size
    → ((byte : ℕ) (left : Byte) → is_byte_of offset size byte ≡ true → origin row.owner frame history byte ≡ Some left → is_pointer left.value ≡ false)
    → GivesWord row.owner frames history frame offset size

-- ---- where a byte comes from

-- the event neither enters the owner nor stores in the byte
abbrev pub leaves_alone : Option ℕ → ℕ → ℕ → RunEvent → Bool
leaves_alone owner frame byte (Enter entered) = not (is_owner owner entered)
leaves_alone owner frame byte (Leave left) = true
leaves_alone owner frame byte (Store other offset size value) = not ((other == frame) && is_byte_of offset size byte)

-- the store covers the byte, and the events after it leave the byte alone
pub record NewestStore (owner : Option ℕ) (history : List RunEvent) (frame byte offset size : ℕ)
    (value : Value) : Type 0 where
  pub newer : List RunEvent
  pub older : List RunEvent
  pub split : history ≡ newer ++ Store frame offset size value ∷ older
  pub alone : list_all (leaves_alone owner frame byte) newer ≡ true
  pub covers : is_byte_of offset size byte ≡ true

-- a byte comes from that store
abbrev pub ComesFromNewest : Type 0
ComesFromNewest = (owner : Option ℕ) (history : List RunEvent) (frame byte offset size : ℕ) (value : Value)
    → (origin owner frame history byte ≡ Some (left_by offset size value byte)) ↔ NewestStore owner history frame byte offset size value

-- two bytes of a cell that come from stores of exactly this cell come from stores of one value
abbrev pub IsOneStore : Type 0
IsOneStore = (owner : Option ℕ) (frame : ℕ) (history : List RunEvent) (offset size first second : ℕ) (one other : Byte)
    → is_byte_of offset size first ≡ true
    → is_byte_of offset size second ≡ true
    → origin owner frame history first ≡ Some one
    → origin owner frame history second ≡ Some other
    → one.offset ≡ offset
    → one.size ≡ size
    → other.offset ≡ offset
    → other.size ≡ size
    → one.value ≡ other.value

-- ---- values that fit

-- a store of a value that fits keeps a history sound
abbrev pub StoreKeepsSound : Type 0
StoreKeepsSound = (frames : List FrameShape) (history after : List RunEvent) (place value : Value)
    → IsSoundHistory history
    → FitsValue (size_of value) value
    → store frames history place value ≡ Ok after
    → IsSoundHistory after

-- a load of a sound history gives a value of the size that is loaded
abbrev pub LoadFits : Type 0
LoadFits = (frames : List FrameShape) (history : List RunEvent) (place value : Value) (size : ℕ)
    → IsSoundHistory history
    → IsCell size
    → load frames history place size ≡ Ok value
    → FitsValue size value

-- a load gives exactly one of a value and a fault
abbrev pub HasOneAnswer : Type 0
HasOneAnswer = (frames : List FrameShape) (history : List RunEvent) (place : Value) (size : ℕ)
    → (((value : Value) × (load frames history place size ≡ Ok value)) ⊎ ((fault : RunFault) × (load frames history place size ≡ Err fault)))
    × ((value : Value) (fault : RunFault) → load frames history place size ≡ Ok value → load frames history place size ≡ Err fault → ⊥)
