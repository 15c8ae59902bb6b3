-- What loads and stores give over an embedded table.
--   Agrees place is_embedded m h     a history of the outer table is one of the inner, but for the stores to further frames
--   AgreeAfter                       both histories go on and agree, or both stop with the same fault
--   RunsAlike                        a function is running in both or in none
--   LoadsAgree                       a load gives the embedded value, or the same fault
--   StoresAgree                      a store gives histories that agree, or the same fault
--   EventsAgree                      where functions are entered and left, and where a further frame gets a value, histories go on to agree
--   FurtherFrame                     a value that fits a further frame of an active owner is stored there, and a load gives it again
--   SizesStay                        an embedded value has the size of the value, and fits where it does
use Rattle.std.specs.Prelude.{◌≡◌, ◌<◌, ◌/◌, ℕ, Bool, true, false, List, ◌∷◌, Some, Result, Ok, Err, slice_get}
use Rattle.alf_ops.specs.declared.history.Value.{Value}
use Rattle.alf_ops.specs.declared.history.Value.TheVariants.{Ptr}
use Rattle.alf_ops.specs.declared.history.RunFault.{RunFault}
use Rattle.alf_ops.specs.declared.history.FrameShape.{FrameShape}
use Rattle.alf_ops.specs.declared.history.RunEvent.{RunEvent}
use Rattle.alf_ops.specs.declared.history.RunEvent.TheVariants.{Enter, Leave, Store}
use Rattle.alf_ops.specs.Histories.{is_active, is_running, load, store, IsSoundHistory}
use Rattle.alf_ops.specs.Values.{size_of, FitsValue}
use Rattle.lowering_values.specs.Embedding.{Places, embedded_value, embedded_result, embedded_history, embedded_only}

-- the inner history is sound, as each history of a run is
pub record Agrees (place : ℕ → ℕ) (is_embedded : ℕ → Bool) (m h : List RunEvent) : Type 0 where
  pub same : embedded_only is_embedded m ≡ embedded_history place h
  pub sound : IsSoundHistory h

abbrev pub AgreeAfter : (ℕ → ℕ) → (ℕ → Bool) → Result (List RunEvent) RunFault → Result (List RunEvent) RunFault
    → Type 0
AgreeAfter place is_embedded (Ok m) (Ok h) = Agrees place is_embedded m h
AgreeAfter place is_embedded (Ok m) (Err fault) = ⊥
AgreeAfter place is_embedded (Err fault) (Ok h) = ⊥
AgreeAfter place is_embedded (Err fault) (Err other) = fault ≡ other

abbrev pub RunsAlike : Type 0
RunsAlike = (place : ℕ → ℕ) (is_embedded : ℕ → Bool) (m h : List RunEvent) (function : ℕ)
    → Agrees place is_embedded m h
    → is_running m function ≡ is_running h function

abbrev pub LoadsAgree : Type 0
LoadsAgree = (place : ℕ → ℕ) (is_embedded : ℕ → Bool) (inner outer : List FrameShape) (m h : List RunEvent) (at : Value) (size : ℕ)
    → Places place is_embedded inner outer
    → Agrees place is_embedded m h
    → load outer m (embedded_value place at) size ≡ embedded_result place (load inner h at size)

abbrev pub StoresAgree : Type 0
StoresAgree = (place : ℕ → ℕ) (is_embedded : ℕ → Bool) (inner outer : List FrameShape) (m h : List RunEvent) (at value : Value)
    → Places place is_embedded inner outer
    → Agrees place is_embedded m h
    → FitsValue (size_of value) value
    → AgreeAfter place is_embedded (store outer m (embedded_value place at) (embedded_value place value)) (store inner h at value)

-- functions are entered and left, an object's frame gets a value, and so does a further frame
pub record GoOnToAgree (place : ℕ → ℕ) (is_embedded : ℕ → Bool) (m h : List RunEvent) : Type 0 where
  pub enter : (function : ℕ) → Agrees place is_embedded (Enter function ∷ m) (Enter function ∷ h)
  pub leave : (function : ℕ) → Agrees place is_embedded (Leave function ∷ m) (Leave function ∷ h)
  pub put : (frame offset size : ℕ) (value : Value) → is_embedded (place frame) ≡ true → FitsValue size value
      → Agrees place is_embedded (Store (place frame) offset size (embedded_value place value) ∷ m) (Store frame offset size value ∷ h)
  pub further : (frame offset size : ℕ) (value : Value) → is_embedded frame ≡ false
      → Agrees place is_embedded (Store frame offset size value ∷ m) h

abbrev pub EventsAgree : Type 0
EventsAgree = (place : ℕ → ℕ) (is_embedded : ℕ → Bool) (m h : List RunEvent) → Agrees place is_embedded m h → GoOnToAgree place is_embedded m h

-- where it is stored, what it is afterwards, and what a load of it gives
pub record IsKeptIn (place : ℕ → ℕ) (is_embedded : ℕ → Bool) (outer : List FrameShape) (m h : List RunEvent) (frame : ℕ)
    (value : Value) : Type 0 where
  pub later : List RunEvent
  pub stored : store outer m (Ptr frame 0) value ≡ Ok later
  pub agrees : Agrees place is_embedded later h
  pub loaded : load outer later (Ptr frame 0) (size_of value) ≡ Ok value

abbrev pub FurtherFrame : Type 0
FurtherFrame = (place : ℕ → ℕ) (is_embedded : ℕ → Bool) (outer : List FrameShape) (m h : List RunEvent) (frame : ℕ) (shape : FrameShape) (value : Value)
    → Agrees place is_embedded m h
    → is_embedded frame ≡ false
    → slice_get outer frame ≡ Some shape
    → is_active shape.owner m ≡ true
    → size_of value ≡ shape.bits
    → 0 < size_of value / 8
    → IsKeptIn place is_embedded outer m h frame value

abbrev pub SizesStay : Type 0
SizesStay = (place : ℕ → ℕ) (value : Value) → size_of (embedded_value place value) ≡ size_of value
