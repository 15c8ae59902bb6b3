-- What an abstract memory over any sets of values promises. The memory's values are of their sizes, and the history is
-- sound.
--   StoreCovers      after a store to one of several possible cells the memory covers the history with the store
--   LoadCovers       a load of a cell of an active frame is among the results of the cell
--   LoadGathers      what is among the results of a cell is in the joined value or the faults; exact results give it alone
--   LoadsGather      the same of a load of one of several cells
--   LoadsCover       a load of one of several possible cells is among the results of all
--   JoinCovers       what covers on a side covers after the join
--   EnterCovers, LeaveCovers
--   PinCovers        a cell that holds a value is pinned to a set with it
--   StartSharp       the memory before each event
--   MemoryPinCovers, MemoryPinSharp, MemoryPinSized   the pin of a whole memory
--   LoadExact        a load from a sharp frame is exact
--   StoreSharp, PinSharp   a store of one value to the one possible cell, and a pin to one value, keep a frame sharp
--   MemoryStaysSharp       the store of a whole memory
--   EnterSharp, LeaveSharp a function entered or left keeps a whole memory sharp
--   StoreSized, PinSized, JoinSized, EnterSized, LeaveSized   each call keeps the sizes
use Rattle.std.specs.Prelude.{◌≡◌, ℕ, List, ◌∷◌, Contains, Option, None, Result, Ok, true, []}
use Rattle.alf_ops.specs.declared.history.Value.{Value}
use Rattle.alf_ops.specs.declared.history.RunFault.{RunFault}
use Rattle.alf_ops.specs.declared.history.FrameShape.{FrameShape}
use Rattle.alf_ops.specs.declared.history.RunEvent.{RunEvent}
use Rattle.alf_ops.specs.declared.history.RunEvent.TheVariants.{Enter, Leave, Store}
use Rattle.alf_ops.specs.Histories.{Byte, origin, put, cell_in, fits_in, IsSoundHistory}
use Rattle.alf_ops.specs.WholeCells.{IsTable}
use Rattle.alf_ops.specs.Values.{FitsValue}
use Rattle.memory_rules.specs.ValueSets.{ValueSets, OnlyCovers}
use Rattle.memory_rules.specs.Frames.{FrameMem, load_results, strong, pinned}
use Rattle.memory_rules.specs.Covers.{IsCellSize, Among, FrameCovers, FrameSized}
use Rattle.memory_rules.specs.Sharp.{Exactly, FrameSharp}
use Rattle.memory_rules.specs.Memories.{Mem, fresh, pinned_at, MemCovers, MemSharp, MemSized, IsPlaced, stored, entered, left, both, load_all, joined_values, faults_of, Gathers, GathersOnly}

module _ (d : ValueSets) where
  -- after a store to one of several possible cells the memory covers the history with the store
  abbrev pub StoreCovers : Type 0
  StoreCovers = (rows : List FrameShape) (m : Mem d) (history : List RunEvent) (cells : List (ℕ × ℕ)) (frame offset size : ℕ) (set : d.Val) (value : Value)
      → IsSoundHistory history → MemSized d m → MemCovers d rows m history
      → IsCellSize size → d.val_sized set size → d.covers set value → FitsValue size value
      → ((cell : ℕ × ℕ) → Contains cells cell → IsPlaced rows history cell.0 cell.1 size)
      → Contains cells (frame, offset)
      → MemCovers d rows (stored d m cells size set) (Store frame offset size value ∷ history)

  -- a load of a cell of an active frame is among the results of the cell
  abbrev pub LoadCovers : Type 0
  LoadCovers = (rows : List FrameShape) (m : Mem d) (history : List RunEvent) (frame offset size : ℕ)
      → IsSoundHistory history → MemSized d m → MemCovers d rows m history → IsCellSize size
      → (p : IsPlaced rows history frame offset size)
      → Among d (cell_in (origin p.row.owner frame history) offset size) (load_results d (m.frames frame) offset size)

  -- what is among the results of a cell is in the joined value or the faults; exact results give it alone
  abbrev pub LoadGathers : Type 0
  LoadGathers = (m : FrameMem d) (offset size : ℕ) (r : Result Value RunFault)
      → FrameSized d m → IsCellSize size
      → (Among d r (load_results d m offset size)
      → Gathers d (joined_values d None (load_results d m offset size)) (faults_of d (load_results d m offset size)) r)
      × (Exactly d r (load_results d m offset size)
      → GathersOnly d (joined_values d None (load_results d m offset size)) (faults_of d (load_results d m offset size)) r)

  -- what covers on a side covers after the join
  abbrev pub JoinCovers : Type 0
  JoinCovers = (rows : List FrameShape) (a b : Mem d) (history : List RunEvent)
      → IsSoundHistory history → MemSized d a → MemSized d b → ((function : ℕ) → a.runs function ≡ b.runs function)
      → (MemCovers d rows a history → MemCovers d rows (both d a b) history)
      × (MemCovers d rows b history → MemCovers d rows (both d a b) history)

  -- a function entered empties its frames
  abbrev pub EnterCovers : Type 0
  EnterCovers = (rows : List FrameShape) (m : Mem d) (history : List RunEvent) (function : ℕ)
      → IsSoundHistory history → MemSized d m → MemCovers d rows m history
      → MemCovers d rows (entered d rows m function) (Enter function ∷ history)

  -- a function left
  abbrev pub LeaveCovers : Type 0
  LeaveCovers = (rows : List FrameShape) (m : Mem d) (history : List RunEvent) (function : ℕ)
      → IsSoundHistory history → MemSized d m → MemCovers d rows m history
      → MemCovers d rows (left d m function) (Leave function ∷ history)

  -- a load from a sharp frame is exact
  abbrev pub LoadExact : Type 0
  LoadExact = (bits : ℕ) (m : FrameMem d) (from : ℕ → Option Byte) (offset size : ℕ)
      → FrameSized d m → FrameSharp d bits m from → IsCellSize size → fits_in bits offset size ≡ true
      → Exactly d (cell_in from offset size) (load_results d m offset size)

  -- a store of one value to the one possible cell keeps a frame sharp
  abbrev pub StoreSharp : Type 0
  StoreSharp = (bits : ℕ) (m : FrameMem d) (from : ℕ → Option Byte) (offset size : ℕ) (set : d.Val) (value : Value)
      → IsTable (put offset size value from) → FrameSized d m → FrameSharp d bits m from
      → IsCellSize size → d.val_sized set size → OnlyCovers d set value → FitsValue size value
      → FrameSharp d bits (strong d m offset size set) (put offset size value from)

  -- a cell that holds a value is pinned to a set with it
  abbrev pub PinCovers : Type 0
  PinCovers = (bits : ℕ) (m : FrameMem d) (from : ℕ → Option Byte) (offset size : ℕ) (set : d.Val) (value : Value)
      → IsTable from → FrameSized d m → FrameCovers d bits m from → IsCellSize size → d.val_sized set size → cell_in from offset size ≡ Ok value
      → d.covers set value
      → FrameCovers d bits (pinned d m offset size set) from

  -- and to this value alone
  abbrev pub PinSharp : Type 0
  PinSharp = (bits : ℕ) (m : FrameMem d) (from : ℕ → Option Byte) (offset size : ℕ) (set : d.Val) (value : Value)
      → IsTable from → FrameSized d m → FrameSharp d bits m from → IsCellSize size → d.val_sized set size → cell_in from offset size ≡ Ok value
      → OnlyCovers d set value
      → FrameSharp d bits (pinned d m offset size set) from

  -- a store of one value to the one possible cell keeps a whole memory sharp
  abbrev pub MemoryStaysSharp : Type 0
  MemoryStaysSharp = (rows : List FrameShape) (m : Mem d) (history : List RunEvent) (frame offset size : ℕ) (set : d.Val) (value : Value)
      → IsSoundHistory history → MemSized d m → MemSharp d rows m history
      → IsCellSize size → d.val_sized set size → OnlyCovers d set value → FitsValue size value → IsPlaced rows history frame offset size
      → MemSharp d rows (stored d m ((frame, offset) ∷ []) size set) (Store frame offset size value ∷ history)

  -- the same of a load of one of several cells
  abbrev pub LoadsGather : Type 0
  LoadsGather = (m : Mem d) (cells : List (ℕ × ℕ)) (size : ℕ) (r : Result Value RunFault)
      → MemSized d m → IsCellSize size
      → (Among d r (load_all d m cells size)
      → Gathers d (joined_values d None (load_all d m cells size)) (faults_of d (load_all d m cells size)) r)
      × (Exactly d r (load_all d m cells size)
      → GathersOnly d (joined_values d None (load_all d m cells size)) (faults_of d (load_all d m cells size)) r)

  -- a load of one of several possible cells is among the results of all
  abbrev pub LoadsCover : Type 0
  LoadsCover = (rows : List FrameShape) (m : Mem d) (history : List RunEvent) (cells : List (ℕ × ℕ)) (frame offset size : ℕ)
      → IsSoundHistory history → MemSized d m → MemCovers d rows m history → IsCellSize size
      → (p : IsPlaced rows history frame offset size) → Contains cells (frame, offset)
      → Among d (cell_in (origin p.row.owner frame history) offset size) (load_all d m cells size)

  -- a function entered keeps it sharp
  abbrev pub EnterSharp : Type 0
  EnterSharp = (rows : List FrameShape) (m : Mem d) (history : List RunEvent) (function : ℕ)
      → IsSoundHistory history → MemSized d m → MemSharp d rows m history
      → MemSharp d rows (entered d rows m function) (Enter function ∷ history)

  -- and a function left
  abbrev pub LeaveSharp : Type 0
  LeaveSharp = (rows : List FrameShape) (m : Mem d) (history : List RunEvent) (function : ℕ)
      → IsSoundHistory history → MemSized d m → MemSharp d rows m history
      → MemSharp d rows (left d m function) (Leave function ∷ history)

  -- each call keeps the sizes
  abbrev pub StoreSized : Type 0
  StoreSized = (m : Mem d) (cells : List (ℕ × ℕ)) (size : ℕ) (set : d.Val)
      → MemSized d m → IsCellSize size → d.val_sized set size → MemSized d (stored d m cells size set)

  abbrev pub PinSized : Type 0
  PinSized = (m : FrameMem d) (offset size : ℕ) (set : d.Val)
      → FrameSized d m → d.val_sized set size → FrameSized d (pinned d m offset size set)

  abbrev pub JoinSized : Type 0
  JoinSized = (a b : Mem d) → MemSized d a → MemSized d b → MemSized d (both d a b)

  abbrev pub EnterSized : Type 0
  EnterSized = (rows : List FrameShape) (m : Mem d) (function : ℕ) → MemSized d m → MemSized d (entered d rows m function)

  abbrev pub LeaveSized : Type 0
  LeaveSized = (m : Mem d) (function : ℕ) → MemSized d m → MemSized d (left d m function)

  -- before each event the memory is sharp for no history
  abbrev pub StartSharp : Type 0
  StartSharp = (rows : List FrameShape) → MemSharp d rows (fresh d) [] × MemSized d (fresh d)

  -- a cell of a whole memory that holds a value is pinned to a set with it
  abbrev pub MemoryPinCovers : Type 0
  MemoryPinCovers =
      (rows : List FrameShape) (m : Mem d) (history : List RunEvent) (frame offset size : ℕ) (set : d.Val) (value : Value)
      → IsSoundHistory history → MemSized d m → MemCovers d rows m history → IsCellSize size → d.val_sized set size
      → (p : IsPlaced rows history frame offset size) → cell_in (origin p.row.owner frame history) offset size ≡ Ok value → d.covers set value
      → MemCovers d rows (pinned_at d m (frame, offset) size set) history

  -- and to it alone
  abbrev pub MemoryPinSharp : Type 0
  MemoryPinSharp =
      (rows : List FrameShape) (m : Mem d) (history : List RunEvent) (frame offset size : ℕ) (set : d.Val) (value : Value)
      → IsSoundHistory history → MemSized d m → MemSharp d rows m history → IsCellSize size → d.val_sized set size
      → (p : IsPlaced rows history frame offset size) → cell_in (origin p.row.owner frame history) offset size ≡ Ok value → OnlyCovers d set value
      → MemSharp d rows (pinned_at d m (frame, offset) size set) history

  abbrev pub MemoryPinSized : Type 0
  MemoryPinSized =
      (m : Mem d) (cell : ℕ × ℕ) (size : ℕ) (set : d.Val) → MemSized d m → IsCellSize size → d.val_sized set size → MemSized d (pinned_at d m cell size set)
