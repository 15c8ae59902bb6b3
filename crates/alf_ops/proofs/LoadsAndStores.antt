-- Loads after one more event.
use Rattle.std.specs.Prelude.{slice_get}
use Rattle.std.proofs.Common.{◌≡◌, ◌≢◌, ◌⊎◌, inl, inr, sym, subst, ◌∙◌, ap, ℕ, zero, suc, true, false, List, ◌∷◌, map, Option, Some, None, Ok, Err, refl, ◌+◌, ◌*◌, ◌<◌, ◌≤◌, ◌/◌}
use Rattle.std.proofs.lemmas.Bool.{ne_eqb, eq-eqb, cases_eq, le-leb, leb-true}
use Rattle.alf_ops.specs.declared.history.Value.{Value}
use Rattle.alf_ops.specs.declared.history.Value.TheVariants.{Int, Ptr}
use Rattle.alf_ops.specs.declared.history.RunFault.TheVariants.{Uninit, Dead, Bounds}
use Rattle.alf_ops.specs.declared.history.FrameShape.{FrameShape}
use Rattle.alf_ops.specs.declared.history.RunEvent.{RunEvent}
use Rattle.alf_ops.specs.declared.history.RunEvent.TheVariants.{Enter, Store}
use Rattle.alf_ops.specs.Values.{size_of}
use Rattle.alf_ops.specs.Histories.{Byte, is_owner, put, origin, offsets, contents, cell_in, is_active, fits_in, address_in, loaded, load, stored, store}
use Rattle.alf_ops.specs.HistoryLaws.{IsCellOf}
use Rattle.alf_ops.specs.TableLaws.{put_same, put_other, same_cell, origin_stored, origin_elsewhere}
use Rattle.lists.specs.TestLaws.{by_test}

-- a load of a cell that lies in an active frame gives what the cell gives
pub load_cell : (row : FrameShape) (frames : List FrameShape) (history : List RunEvent) (frame offset size : ℕ)
    → IsCellOf row frames history frame offset size
    → load frames history (Ptr frame offset) size ≡ cell_in (origin row.owner frame history) offset size
load_cell row frames history frame offset size is = rw (is.known, is.active, le-leb (offset * 8 + size) row.bits is.within) refl

-- a load that gives a value is of such a cell
pub cell_loaded : (frames : List FrameShape) (history : List RunEvent) (frame offset size : ℕ) (value : Value)
    → load frames history (Ptr frame offset) size ≡ Ok value
    → (row : FrameShape) × IsCellOf row frames history frame offset size
cell_loaded frames history frame offset size value is = of_row (slice_get frames frame) refl is
  where
    of_row : (row : Option FrameShape) → slice_get frames frame ≡ row
        → loaded history size (address_in row history frame offset size) ≡ Ok value
        → (row : FrameShape) × IsCellOf row frames history frame offset size
    of_row None known is = cc
    of_row (Some row) known is = by_test (is_active row.owner history)
        (λ active. by_test (fits_in row.bits offset size)
        (λ fits. (row, record { known = known; active = active; within = leb-true (offset * 8 + size) row.bits fits }))
        (λ over. let e : Err Bounds ≡ Ok value = rw (active, over) at is in cc))
        (λ dead. let e : Err Dead ≡ Ok value = rw dead at is in cc)

-- a store that is no fault is in such a cell, and adds its event
pub record IsStored (row : FrameShape) (frames : List FrameShape) (history after : List RunEvent) (frame offset : ℕ)
    (value : Value) : Type 0 where
  pub cell : IsCellOf row frames history frame offset (size_of value)
  pub after_is : after ≡ Store frame offset (size_of value) value ∷ history

pub is_stored : (frames : List FrameShape) (history after : List RunEvent) (frame offset : ℕ) (value : Value)
    → store frames history (Ptr frame offset) value ≡ Ok after
    → (row : FrameShape) × IsStored row frames history after frame offset value
is_stored frames history after frame offset value is = of_row (slice_get frames frame) refl is
  where
    of_row : (row : Option FrameShape) → slice_get frames frame ≡ row
        → stored history value (address_in row history frame offset (size_of value)) ≡ Ok after
        → (row : FrameShape) × IsStored row frames history after frame offset value
    of_row None known is = cc
    of_row (Some row) known is = by_test (is_active row.owner history)
        (λ active. by_test (fits_in row.bits offset (size_of value))
        (λ fits.
        let e : Ok (Store frame offset (size_of value) value ∷ history) ≡ Ok after = rw (active, fits) at is in
        (row, record { cell = record { known = known; active = active; within = leb-true (offset * 8 + size_of value) row.bits fits }; after_is = cc }))
        (λ over. let e : Err Bounds ≡ Ok after = rw (active, over) at is in cc))
        (λ dead. let e : Err Dead ≡ Ok after = rw dead at is in cc)

-- a store makes no frame active, nor ends one
pub active_stored : (owner : Option ℕ) (frame offset size : ℕ) (value : Value) (history : List RunEvent)
    → is_active owner (Store frame offset size value ∷ history) ≡ is_active owner history
active_stored None frame offset size value history = refl
active_stored (Some function) frame offset size value history = refl

-- the table of the frame after the store
pub stored_table : (row : FrameShape) (frames : List FrameShape) (history after : List RunEvent) (frame offset : ℕ) (value : Value)
    → IsStored row frames history after frame offset value
    → (byte : ℕ) → origin row.owner frame after byte ≡ put offset (size_of value) value (origin row.owner frame history) byte
stored_table row frames history after frame offset value is byte =
    ap (λ (events : List RunEvent). origin row.owner frame events byte) is.after_is ∙ origin_stored row.owner frame offset (size_of value) value history byte

-- a cell of the frame lies in it after the store, too
pub cell_after : (row : FrameShape) (frames : List FrameShape) (history after : List RunEvent) (frame offset : ℕ) (value : Value) (place size : ℕ)
    → IsStored row frames history after frame offset value
    → place * 8 + size ≤ row.bits → IsCellOf row frames after frame place size
cell_after row frames history after frame offset value place size is within = record {
  known = is.cell.known;
  active = ap (is_active row.owner) is.after_is ∙ active_stored row.owner frame offset (size_of value) value history ∙ is.cell.active;
  within = within;
}

pub store_then_load : (frames : List FrameShape) (history after : List RunEvent) (place value : Value)
    → 0 < size_of value / 8
    → store frames history place value ≡ Ok after → load frames after place (size_of value) ≡ Ok value
store_then_load frames history after (Int size bits) value some is = cc
store_then_load frames history after (Ptr frame offset) value some is =
    let s = is_stored frames history after frame offset value is in
    load_cell s.0 frames after frame offset (size_of value) (cell_after s.0 frames history after frame offset value offset (size_of value) s.1 s.1.cell.within)
    ∙ same_cell (origin s.0.owner frame after) (put offset (size_of value) value (origin s.0.owner frame history)) offset (size_of value)
    (λ byte low high. stored_table s.0 frames history after frame offset value s.1 byte)
    ∙ put_same (origin s.0.owner frame history) offset (size_of value) value some

-- after both histories the frames of the owner are active or not, and the cell gives the same
record GivesSame (owner : Option ℕ) (after history : List RunEvent) (frame offset size : ℕ) : Type 0 where
  pub active : is_active owner after ≡ is_active owner history
  pub cell : cell_in (origin owner frame after) offset size ≡ cell_in (origin owner frame history) offset size

-- then a load does
load_same : (row : Option FrameShape) (after history : List RunEvent) (frame offset size : ℕ)
    → ((own : FrameShape) → row ≡ Some own → GivesSame own.owner after history frame offset size)
    → loaded after size (address_in row after frame offset size) ≡ loaded history size (address_in row history frame offset size)
load_same None after history frame offset size agree = refl
load_same (Some row) after history frame offset size agree =
    let same = agree row refl in
    by_test (is_active row.owner history)
    (λ active. by_test (fits_in row.bits offset size)
    (λ fits. rw (same.active, active, fits) same.cell)
    (λ over. rw (same.active, active, over) refl))
    (λ dead. rw (same.active, dead) refl)

pub store_elsewhere : (frames : List FrameShape) (history after : List RunEvent) (frame offset : ℕ) (value : Value) (other place size : ℕ)
    → store frames history (Ptr frame offset) value ≡ Ok after
    → (frame ≢ other) ⊎ ((place + size / 8 ≤ offset) ⊎ (offset + size_of value / 8 ≤ place))
    → load frames after (Ptr other place) size ≡ load frames history (Ptr other place) size
store_elsewhere frames history after frame offset value other place size is apart =
    let s = is_stored frames history after frame offset value is in
    subst (λ (events : List RunEvent). load frames events (Ptr other place) size ≡ load frames history (Ptr other place) size) (sym s.1.after_is)
    (load_same (slice_get frames other) (Store frame offset (size_of value) value ∷ history) history other place size (λ own known. record {
      active = active_stored own.owner frame offset (size_of value) value history;
      cell = elim (cases_eq frame other) [
        | inl same ↦ in_frame own.owner same (elim apart [ inl differ ↦ absurd (differ same) | inr there ↦ there ])
        | inr differ ↦ same_cell (origin own.owner other (Store frame offset (size_of value) value ∷ history)) (origin own.owner other history) place size
            (λ byte low high. origin_elsewhere own.owner other frame offset (size_of value) value history byte differ)
      ];
    }))
  where
    in_frame : (owner : Option ℕ) → frame ≡ other → (place + size / 8 ≤ offset) ⊎ (offset + size_of value / 8 ≤ place)
        → cell_in (origin owner other (Store frame offset (size_of value) value ∷ history)) place size ≡ cell_in (origin owner other history) place size
    in_frame owner same apart =
        same_cell (origin owner other (Store frame offset (size_of value) value ∷ history)) (put offset (size_of value) value (origin owner other history)) place size
        (λ byte low high. subst (λ (f : ℕ). origin owner other (Store f offset (size_of value) value ∷ history) byte ≡ put offset (size_of value) value (origin owner other history) byte)
        (sym same) (origin_stored owner other offset (size_of value) value history byte))
        ∙ put_other (origin owner other history) offset (size_of value) value place size apart

-- ---- functions entered and left

-- a cell none of whose bytes has a store
empty_cell : (from : ℕ → Option Byte) (offset count size : ℕ) → ((byte : ℕ) → from byte ≡ None)
    → contents (map from (offsets offset count)) offset size ≡ Err Uninit
empty_cell from offset zero size none = refl
empty_cell from offset (suc count) size none = rw (none offset) refl

mine : (owner : Option ℕ) (function : ℕ) → owner ≡ Some function → is_owner owner function ≡ true
mine owner function is = rw is (eq-eqb function function refl)

not_mine : (owner : Option ℕ) (function : ℕ) → owner ≢ Some function → is_owner owner function ≡ false
not_mine None function differ = refl
not_mine (Some own) function differ = ne_eqb own function (λ e. differ (ap Some e))

pub enter_empties : (frames : List FrameShape) (history : List RunEvent) (function frame : ℕ) (row : FrameShape) (offset size : ℕ)
    → slice_get frames frame ≡ Some row → row.owner ≡ Some function → offset * 8 + size ≤ row.bits
    → load frames (Enter function ∷ history) (Ptr frame offset) size ≡ Err Uninit
enter_empties frames history function frame row offset size known owned within =
    let active : is_active row.owner (Enter function ∷ history) ≡ true = rw owned (let e : function ≡ function = refl in rw (eq-eqb function function e) refl) in
    load_cell row frames (Enter function ∷ history) frame offset size (record { known = known; active = active; within = within })
    ∙ empty_cell (origin row.owner frame (Enter function ∷ history)) offset (size / 8) size (λ byte. rw (mine row.owner function owned) refl)

entered_active : (owner : Option ℕ) (function : ℕ) (history : List RunEvent) → owner ≢ Some function
    → is_active owner (Enter function ∷ history) ≡ is_active owner history
entered_active None function history differ = refl
entered_active (Some own) function history differ = rw (ne_eqb function own (λ e. differ (ap Some (sym e)))) refl

pub enter_keeps : (frames : List FrameShape) (history : List RunEvent) (function frame : ℕ) (row : FrameShape) (offset size : ℕ)
    → slice_get frames frame ≡ Some row → row.owner ≢ Some function
    → load frames (Enter function ∷ history) (Ptr frame offset) size ≡ load frames history (Ptr frame offset) size
enter_keeps frames history function frame row offset size known differ =
    rw known (load_same (Some row) (Enter function ∷ history) history frame offset size (λ own is.
    subst (λ (x : FrameShape). GivesSame x.owner (Enter function ∷ history) history frame offset size) (let same : row ≡ own = cc in same)
    (record {
      active = entered_active row.owner function history differ;
      cell = same_cell (origin row.owner frame (Enter function ∷ history)) (origin row.owner frame history) offset size
          (λ byte low high. rw (not_mine row.owner function differ) refl);
    })))
