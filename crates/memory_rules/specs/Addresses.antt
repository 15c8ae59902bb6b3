-- The cells that an abstract address may mean, and its faults; loads and stores through it.
--   tested rows runs place size    the cell at an address of a run, where these functions run, or its fault
--   cells_of rows runs places size the cells in active frames that fit them, by ascending frame and offset
--   IsAddressFault                 some address that is covered has the fault
--   load_at, stored_at             the results of a load through the address, and the memory after a store through it
--   IsLoadFault                    the fault is one of the address, or of a cell
--   TellsLoad                      the load's value is covered by the joined value, or its fault is told
--   TellsOnly                      exactly its value, or exactly its fault
--   LoadsAt, StoresAt              a load and a store of a run through an address that is covered are told
--   FaultsAt                       the faults of a run's store are told
--   LoadsOnly, StoresOnly, FaultsOnly   of a sharp memory and an address with one member exactly the run's results are told
use Rattle.std.specs.Prelude.{◌≡◌, ◌≢◌, ◌⊎◌, ℕ, Bool, List, [], ◌∷◌, ◌++◌, Option, Some, None, Result, Ok, Err, ◌/◌, ◌&&◌, if◌then◌else◌, slice_get, IsSomeAnd, Contains}
use Rattle.alf_ops.specs.declared.history.Value.{Value}
use Rattle.alf_ops.specs.declared.history.Value.TheVariants.{Int, Ptr}
use Rattle.alf_ops.specs.declared.history.RunFault.{RunFault}
use Rattle.alf_ops.specs.declared.history.RunFault.TheVariants.{Kind, Dead, Bounds}
use Rattle.alf_ops.specs.declared.history.FrameShape.{FrameShape}
use Rattle.alf_ops.specs.declared.history.RunEvent.{RunEvent}
use Rattle.alf_ops.specs.Histories.{offsets, fits_in, load, store, IsSoundHistory}
use Rattle.alf_ops.specs.Values.{FitsValue, size_of}
use Rattle.strided_rules.specs.Strides.{Stride}
use Rattle.strided_rules.specs.Members.{has}
use Rattle.pointer_rules.specs.AbstractValues.{AbstractValue, Covers}
use Rattle.pointer_rules.specs.Covering.{IsValue}
use Rattle.memory_rules.specs.Covers.{IsCellSize}
use Rattle.memory_rules.specs.Memories.{Mem, is_on, stored, load_all, joined_values, faults_of, MemCovers, MemSharp, MemSized}
use Rattle.memory_rules.specs.ValueSets.{OnlyCovers}
use Rattle.memory_rules.specs.AbstractSets.{abstract_sets}

-- the cell at an offset of a frame of the table, or its fault
abbrev pub tested_in : Option FrameShape → (ℕ → Bool) → ℕ → ℕ → ℕ → Result (ℕ × ℕ) RunFault
tested_in None runs frame offset size = Err Dead
tested_in (Some row) runs frame offset size =
    if is_on runs row.owner then (if fits_in row.bits offset size then Ok (frame, offset) else Err Bounds) else Err Dead

-- the cell at an address, or its fault
abbrev pub tested : List FrameShape → (ℕ → Bool) → Value → ℕ → Result (ℕ × ℕ) RunFault
tested rows runs (Int own word) size = Err Kind
tested rows runs (Ptr frame offset) size = tested_in (slice_get rows frame) runs frame offset size

-- those of these offsets that are members and fit the frame
abbrev pub cells_at : ℕ → ℕ → ℕ → Stride → List ℕ → List (ℕ × ℕ)
cells_at frame bits size members [] = []
cells_at frame bits size members (offset ∷ others) =
    if has members offset && fits_in bits offset size
    then (frame, offset) ∷ cells_at frame bits size members others
    else cells_at frame bits size members others

-- the cells in one frame, by ascending offset
abbrev pub cells_in : Option FrameShape → (ℕ → Bool) → ℕ × Stride → ℕ → List (ℕ × ℕ)
cells_in None runs place size = []
cells_in (Some row) runs place size = if is_on runs row.owner then cells_at place.0 row.bits size place.1 (offsets 0 (row.bits / 8)) else []

abbrev pub cells_of : List FrameShape → (ℕ → Bool) → List (ℕ × Stride) → ℕ → List (ℕ × ℕ)
cells_of rows runs [] size = []
cells_of rows runs (place ∷ places) size = cells_in (slice_get rows place.0) runs place size ++ cells_of rows runs places size

-- some address that is covered has the fault: a word has kind, a pointer into an inactive frame dead, an offset that
-- does not fit bounds
abbrev pub IsAddressFault : List FrameShape → (ℕ → Bool) → AbstractValue → ℕ → RunFault → Type 0
IsAddressFault rows runs at size fault = (place : Value) × Covers at place × (tested rows runs place size ≡ Err fault)

-- the results of a load, cell by cell
abbrev pub load_at : List FrameShape → Mem abstract_sets → AbstractValue → ℕ → List (Result AbstractValue RunFault)
load_at rows m at size = load_all abstract_sets m (cells_of rows m.runs at.places size) size

-- the memory after a store
abbrev pub stored_at : List FrameShape → Mem abstract_sets → AbstractValue → ℕ → AbstractValue → Mem abstract_sets
stored_at rows m at size set = stored abstract_sets m (cells_of rows m.runs at.places size) size set

-- the fault is one of the address, or of a cell
abbrev pub IsLoadFault : List FrameShape → Mem abstract_sets → AbstractValue → ℕ → RunFault → Type 0
IsLoadFault rows m at size fault = IsAddressFault rows m.runs at size fault ⊎ Contains (faults_of abstract_sets (load_at rows m at size)) fault

-- the load's value is covered, or its fault told
abbrev pub TellsLoad : List FrameShape → Mem abstract_sets → AbstractValue → ℕ → Result Value RunFault → Type 0
TellsLoad rows m at size (Ok value) = IsSomeAnd (joined_values abstract_sets None (load_at rows m at size)) (λ set. Covers set value)
TellsLoad rows m at size (Err fault) = IsLoadFault rows m at size fault

-- exactly the load's value and no fault, or exactly its fault and no value
abbrev pub TellsOnly : List FrameShape → Mem abstract_sets → AbstractValue → ℕ → Result Value RunFault → Type 0
TellsOnly rows m at size (Ok value) =
    IsSomeAnd (joined_values abstract_sets None (load_at rows m at size)) (λ set. OnlyCovers abstract_sets set value)
    × ((fault : RunFault) → IsLoadFault rows m at size fault → ⊥)
TellsOnly rows m at size (Err fault) =
    (joined_values abstract_sets None (load_at rows m at size) ≡ None)
    × IsLoadFault rows m at size fault
    × ((other : RunFault) → IsLoadFault rows m at size other → other ≡ fault)

-- a load through an address that is covered is told
abbrev pub LoadsAt : Type 0
LoadsAt = (rows : List FrameShape) (m : Mem abstract_sets) (history : List RunEvent) (at : AbstractValue) (place : Value) (size : ℕ)
    → IsSoundHistory history → MemSized abstract_sets m → MemCovers abstract_sets rows m history → IsCellSize size → IsValue 32 at → Covers at place
    → TellsLoad rows m at size (load rows history place size)

-- after a store through an address that is covered, of a value that is covered, the memory covers the history with the
-- store, and some cell is possible
abbrev pub StoresAt : Type 0
StoresAt = (rows : List FrameShape) (m : Mem abstract_sets) (history after : List RunEvent) (at set : AbstractValue) (place value : Value)
    → IsSoundHistory history → MemSized abstract_sets m → MemCovers abstract_sets rows m history → IsCellSize (size_of value)
    → IsValue 32 at → IsValue (size_of value) set → FitsValue (size_of value) value → Covers at place → Covers set value
    → store rows history place value ≡ Ok after
    → MemCovers abstract_sets rows (stored_at rows m at (size_of value) set) after × (cells_of rows m.runs at.places (size_of value) ≢ [])

-- the fault of a store through an address that is covered is one of the address
abbrev pub FaultsAt : Type 0
FaultsAt = (rows : List FrameShape) (m : Mem abstract_sets) (history : List RunEvent) (at : AbstractValue) (place value : Value) (fault : RunFault)
    → MemCovers abstract_sets rows m history → Covers at place → store rows history place value ≡ Err fault
    → IsAddressFault rows m.runs at (size_of value) fault

-- a load of a sharp memory through the one address that is covered tells the run's result alone
abbrev pub LoadsOnly : Type 0
LoadsOnly = (rows : List FrameShape) (m : Mem abstract_sets) (history : List RunEvent) (at : AbstractValue) (place : Value) (size : ℕ)
    → MemSized abstract_sets m → MemSharp abstract_sets rows m history → IsCellSize size → IsValue 32 at → OnlyCovers abstract_sets at place
    → TellsOnly rows m at size (load rows history place size)

-- a store of one value through the one address that is covered keeps a memory sharp, and no fault is told
abbrev pub StoresOnly : Type 0
StoresOnly = (rows : List FrameShape) (m : Mem abstract_sets) (history after : List RunEvent) (at set : AbstractValue) (place value : Value)
    → IsSoundHistory history → MemSized abstract_sets m → MemSharp abstract_sets rows m history → IsCellSize (size_of value)
    → IsValue 32 at → IsValue (size_of value) set → FitsValue (size_of value) value
    → OnlyCovers abstract_sets at place → OnlyCovers abstract_sets set value
    → store rows history place value ≡ Ok after
    → MemSharp abstract_sets rows (stored_at rows m at (size_of value) set) after × ((fault : RunFault) → IsAddressFault rows m.runs at (size_of value) fault → ⊥)

-- where that store has a fault, no cell is possible, and no other fault is told
abbrev pub FaultsOnly : Type 0
FaultsOnly = (rows : List FrameShape) (m : Mem abstract_sets) (history : List RunEvent) (at : AbstractValue) (place value : Value) (fault : RunFault)
    → MemSharp abstract_sets rows m history → IsCellSize (size_of value) → IsValue 32 at → OnlyCovers abstract_sets at place
    → store rows history place value ≡ Err fault
    → (cells_of rows m.runs at.places (size_of value) ≡ []) × ((other : RunFault) → IsAddressFault rows m.runs at (size_of value) other → other ≡ fault)
