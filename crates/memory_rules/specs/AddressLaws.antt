-- Loads and stores through an abstract address.
--   each_placed             each cell that the address may mean lies in an active frame
--   possible                the cell of an address that is covered is one of them
--   loads_at, stores_at, faults_at   the laws of loads and stores
use Rattle.std.specs.Prelude.{slice_get, IsSomeAnd, Contains, ◌==◌, ◌&&◌}
use Rattle.std.proofs.Common.{◌≡◌, ◌≢◌, inl, inr, sym, subst, ◌∙◌, ap, ℕ, zero, suc, Bool, true, false, List, [], ◌∷◌, Option, Some, None, Result, Ok, Err, refl, arith, ◌+◌, ◌*◌, ◌<◌, ◌≤◌, ◌/◌}
use Rattle.std.proofs.lemmas.Bool.{and_parts, and_from, eqb-true, eqb-false, leb-true}
use Rattle.std.proofs.lemmas.List.Elements.{Contains-append_left, Contains-append_right, Contains-append_cases}
use Rattle.lists.specs.TestLaws.{by_test}
use Rattle.lists.specs.MemberLaws.{first_member, further_member, first_or_further, no_member}
use Rattle.alf_ops.specs.declared.history.Value.{Value}
use Rattle.alf_ops.specs.declared.history.Value.TheVariants.{Int, Ptr}
use Rattle.alf_ops.specs.declared.history.RunFault.{RunFault}
use Rattle.alf_ops.specs.declared.history.RunFault.TheVariants.{Kind, Dead, Bounds}
use Rattle.alf_ops.specs.declared.history.FrameShape.{FrameShape}
use Rattle.alf_ops.specs.declared.history.RunEvent.{RunEvent}
use Rattle.alf_ops.specs.declared.history.RunEvent.TheVariants.{Store}
use Rattle.alf_ops.specs.Histories.{offsets, origin, cell_in, fits_in, is_active, address_in, loaded, stored as stored_run}
use Rattle.alf_ops.specs.Values.{size_of}
use Rattle.strided_rules.specs.Strides.{Stride, Covers as CoversWord}
use Rattle.strided_rules.specs.Members.{has}
use Rattle.strided_rules.specs.MemberLaws.{has_tells}
use Rattle.pointer_rules.specs.AbstractValues.{AbstractValue, ArePlaces, offsets_in}
use Rattle.memory_rules.specs.Covers.{IsCellSize}
use Rattle.memory_rules.specs.Memories.{Mem, is_on, joined_values, faults_of, Gathers, MemCovers, IsPlaced}
use Rattle.memory_rules.specs.AbstractSets.{abstract_sets}
use Rattle.memory_rules.specs.AbstractSetLaws.{abstract_is_sets}
use Rattle.memory_rules.specs.MemoryProofLaws.{store_covers, loads_cover, loads_gather}
use Rattle.memory_rules.specs.Addresses.{cells_at, cells_in, cells_of, IsAddressFault, load_at, stored_at, TellsLoad, LoadsAt, StoresAt, FaultsAt}

-- ---- the offsets of a frame

among_offsets : (start count offset : ℕ) → start ≤ offset → offset < start + count
    → Contains (offsets start count) offset
among_offsets start zero offset low high = absurd (omega arith)
among_offsets start (suc count) offset low high = by_test (start == offset)
    (λ e. subst (λ (k : ℕ). Contains (start ∷ offsets (suc start) count) k) (eqb-true start offset e) (first_member start (offsets (suc start) count)))
    (λ e. further_member start (offsets (suc start) count) offset
    (among_offsets (suc start) count offset (let apart : start ≢ offset = eqb-false start offset e in omega (arith, low, apart)) (omega (arith, high))))

cell_there : (frame bits size : ℕ) (members : Stride) (list : List ℕ) (offset : ℕ) → has members offset ≡ true
    → fits_in bits offset size ≡ true
    → Contains list offset → Contains (cells_at frame bits size members list) (frame, offset)
cell_there frame bits size members [] offset h fits c = no_member offset c
cell_there frame bits size members (first ∷ others) offset h fits c = first_or_further first others offset c
    (λ same.
    let test : (has members first && fits_in bits first size) ≡ true =
    subst (λ (k : ℕ). (has members k && fits_in bits k size) ≡ true) (sym same) (and_from _ _ h fits) in
    rw test (subst (λ (k : ℕ). Contains ((frame, first) ∷ cells_at frame bits size members others) (frame, k)) same
    (first_member (frame, first) (cells_at frame bits size members others))))
    (λ further.
    let rest : Contains (cells_at frame bits size members others) (frame, offset) = cell_there frame bits size members others offset h fits further in
    by_test (has members first && fits_in bits first size)
    (λ e. rw e (further_member (frame, first) (cells_at frame bits size members others) (frame, offset) rest))
    (λ e. rw e rest))

-- each of the cells has the frame, and fits it
each_fits : (frame bits size : ℕ) (members : Stride) (list : List ℕ) (cell : ℕ × ℕ)
    → Contains (cells_at frame bits size members list) cell
    → (cell.0 ≡ frame) × (fits_in bits cell.1 size ≡ true)
each_fits frame bits size members [] cell c = no_member cell c
each_fits frame bits size members (first ∷ others) cell c = by_test (has members first && fits_in bits first size)
    (λ e. first_or_further (frame, first) (cells_at frame bits size members others) cell (rw e at c)
    (λ same. (
      ap (λ (k : ℕ × ℕ). k.0) (sym same),
      subst (λ (k : ℕ × ℕ). fits_in bits k.1 size ≡ true) same (and_parts (has members first) (fits_in bits first size) e).1,
    ))
    (λ further. each_fits frame bits size members others cell further))
    (λ e. each_fits frame bits size members others cell (rw e at c))

-- ---- the cells of an address

-- a cell of an active frame
pub record IsOn (rows : List FrameShape) (runs : ℕ → Bool) (size : ℕ) (cell : ℕ × ℕ) : Type 0 where
  pub row : FrameShape
  pub found : slice_get rows cell.0 ≡ Some row
  pub active : is_on runs row.owner ≡ true
  pub fits : fits_in row.bits cell.1 size ≡ true

one_on : (rows : List FrameShape) (runs : ℕ → Bool) (place : ℕ × Stride) (size : ℕ) (found : Option FrameShape)
    → slice_get rows place.0 ≡ found
    → (cell : ℕ × ℕ) → Contains (cells_in found runs place size) cell → IsOn rows runs size cell
one_on rows runs place size None is cell c = no_member cell c
one_on rows runs place size (Some row) is cell c = by_test (is_on runs row.owner)
    (λ e.
    let k = each_fits place.0 row.bits size place.1 (offsets 0 (row.bits / 8)) cell (rw e at c) in
    record { row = row; found = ap (λ (f : ℕ). slice_get rows f) k.0 ∙ is; active = e; fits = k.1 })
    (λ e. no_member cell (rw e at c))

each_on : (rows : List FrameShape) (runs : ℕ → Bool) (size : ℕ) (places : List (ℕ × Stride)) (cell : ℕ × ℕ)
    → Contains (cells_of rows runs places size) cell
    → IsOn rows runs size cell
each_on rows runs size [] cell c = no_member cell c
each_on rows runs size (place ∷ places) cell c =
    elim (Contains-append_cases (cells_in (slice_get rows place.0) runs place size) (cells_of rows runs places size) cell c) [
      | inl here ↦ one_on rows runs place size (slice_get rows place.0) refl cell here
      | inr there ↦ each_on rows runs size places cell there
    ]

-- each cell that the address may mean lies in an active frame
pub each_placed : (rows : List FrameShape) (m : Mem abstract_sets) (history : List RunEvent) (size : ℕ) (places : List (ℕ × Stride))
    → MemCovers abstract_sets rows m history → (cell : ℕ × ℕ) → Contains (cells_of rows m.runs places size) cell → IsPlaced rows history cell.0 cell.1 size
each_placed rows m history size places c cell among =
    let k = each_on rows m.runs size places cell among in
    record { row = k.row; found = k.found; runs = c.active k.row.owner ∙ k.active; fits = k.fits }

-- where the frame starts
fits_below : (bits offset size : ℕ) → IsCellSize size → fits_in bits offset size ≡ true → offset < 0 + bits / 8
fits_below bits offset size is fits =
    let low : offset * 8 + size ≤ bits = leb-true (offset * 8 + size) bits fits in
    omega (arith, is.0, low)

here_on : (found : Option FrameShape) (row : FrameShape) (runs : ℕ → Bool) (place : ℕ × Stride) (offset size : ℕ)
    → found ≡ Some row → IsCellSize size
    → is_on runs row.owner ≡ true → fits_in row.bits offset size ≡ true → has place.1 offset ≡ true
    → Contains (cells_in found runs place size) (place.0, offset)
here_on None row runs place offset size is cell active fits member = cc
here_on (Some own) row runs place offset size is cell active fits member =
    let same : row ≡ own = cc in
    subst (λ (r : FrameShape). Contains (cells_in (Some r) runs place size) (place.0, offset)) same
    (rw active (cell_there place.0 row.bits size place.1 (offsets 0 (row.bits / 8)) offset member fits
    (among_offsets 0 (row.bits / 8) offset (omega arith) (fits_below row.bits offset size cell fits))))

-- the cell of a pointer that is covered is one of them
pub possible : (rows : List FrameShape) (runs : ℕ → Bool) (places : List (ℕ × Stride)) (row : FrameShape) (frame offset size : ℕ) → ArePlaces places
    → IsCellSize size
    → IsSomeAnd (offsets_in places frame) (λ members. CoversWord members offset)
    → slice_get rows frame ≡ Some row → is_on runs row.owner ≡ true → fits_in row.bits offset size ≡ true
    → Contains (cells_of rows runs places size) (frame, offset)
possible rows runs [] row frame offset size are cell h found active fits = elim h [ ]
possible rows runs (place ∷ places) row frame offset size are cell h found active fits = by_test (place.0 == frame)
    (λ e.
    let same : place.0 ≡ frame = eqb-true place.0 frame e in
    let member : CoversWord place.1 offset = rw e at h in
    let own : slice_get rows place.0 ≡ Some row = ap (λ (f : ℕ). slice_get rows f) same ∙ found in
    Contains-append_left (cells_in (slice_get rows place.0) runs place size) (cells_of rows runs places size) (frame, offset)
    (subst (λ (f : ℕ). Contains (cells_in (slice_get rows place.0) runs place size) (f, offset)) same
    (here_on (slice_get rows place.0) row runs place offset size own cell active fits ((has_tells place.1 offset are.0.offsets).1 member))))
    (λ e. Contains-append_right (cells_in (slice_get rows place.0) runs place size) (cells_of rows runs places size) (frame, offset)
    (possible rows runs places row frame offset size are.1 cell (rw e at h) found active fits))

-- ---- loads

told : (rows : List FrameShape) (m : Mem abstract_sets) (at : AbstractValue) (size : ℕ) (r : Result Value RunFault)
    → Gathers abstract_sets (joined_values abstract_sets None (load_at rows m at size)) (faults_of abstract_sets (load_at rows m at size)) r
    → TellsLoad rows m at size r
told rows m at size (Ok value) h = h
told rows m at size (Err fault) h = inr h

pub loads_at : LoadsAt
loads_at rows m history at (Int own word) size sound sized c is of_at covers = inl (Int own word, covers, refl)
loads_at rows m history at (Ptr frame offset) size sound sized c is of_at covers = go (slice_get rows frame) refl
  where
    go : (found : Option FrameShape) → slice_get rows frame ≡ found
        → TellsLoad rows m at size (loaded history size (address_in found history frame offset size))
    go None found = inl (Ptr frame offset, covers, rw found refl)
    go (Some row) found = by_test (is_active row.owner history)
        (λ active. by_test (fits_in row.bits offset size)
        (λ fits.
        let on : is_on m.runs row.owner ≡ true = sym (c.active row.owner) ∙ active in
        let p : IsPlaced rows history frame offset size = record { row = row; found = found; runs = active; fits = fits } in
        let among = possible rows m.runs at.places row frame offset size of_at.is.places is covers found on fits in
        let r = loads_cover abstract_sets abstract_is_sets rows m history (cells_of rows m.runs at.places size) frame offset size sound sized c is p among in
        rw (active, fits) (told rows m at size (cell_in (origin row.owner frame history) offset size)
        ((loads_gather abstract_sets abstract_is_sets m (cells_of rows m.runs at.places size) size (cell_in (origin row.owner frame history) offset size) sized is).0 r)))
        (λ past.
        let on : is_on m.runs row.owner ≡ true = sym (c.active row.owner) ∙ active in
        rw (active, past) (inl (Ptr frame offset, covers, rw (found, on, past) refl))))
        (λ dead.
        let off : is_on m.runs row.owner ≡ false = sym (c.active row.owner) ∙ dead in
        rw dead (inl (Ptr frame offset, covers, rw (found, off) refl)))

-- ---- stores

pub stores_at : StoresAt
stores_at rows m history after at set (Int own word) value sound sized c is of_at of_set fits covers in_set done = cc
stores_at rows m history after at set (Ptr frame offset) value sound sized c is of_at of_set fits covers in_set done = go (slice_get rows frame) refl done
  where
    go : (found : Option FrameShape) → slice_get rows frame ≡ found
        → stored_run history value (address_in found history frame offset (size_of value)) ≡ Ok after
        → MemCovers abstract_sets rows (stored_at rows m at (size_of value) set) after × (cells_of rows m.runs at.places (size_of value) ≢ [])
    go None found e = cc
    go (Some row) found e = by_test (is_active row.owner history)
        (λ active. by_test (fits_in row.bits offset (size_of value))
        (λ room.
        let on : is_on m.runs row.owner ≡ true = sym (c.active row.owner) ∙ active in
        let among : Contains (cells_of rows m.runs at.places (size_of value)) (frame, offset) =
        possible rows m.runs at.places row frame offset (size_of value) of_at.is.places is covers found on room in
        let ok : Ok (Store frame offset (size_of value) value ∷ history) ≡ Ok after = rw (active, room) at e in
        let now : Store frame offset (size_of value) value ∷ history ≡ after = cc in (
          subst (λ (events : List RunEvent). MemCovers abstract_sets rows (stored_at rows m at (size_of value) set) events) now
              (store_covers abstract_sets abstract_is_sets rows m history (cells_of rows m.runs at.places (size_of value)) frame offset (size_of value) set value sound sized c is of_set in_set fits
              (each_placed rows m history (size_of value) at.places c) among),
          λ none. no_member (frame, offset) (subst (λ (cells : List (ℕ × ℕ)). Contains cells (frame, offset)) none among),
        ))
        (λ past. let bad : Err Bounds ≡ Ok after = rw (active, past) at e in cc))
        (λ dead. let bad : Err Dead ≡ Ok after = rw dead at e in cc)

pub faults_at : FaultsAt
faults_at rows m history at (Int own word) value fault c covers done =
    let same : Kind ≡ fault = cc in (Int own word, covers, ap (λ (f : RunFault). Err f) same)
faults_at rows m history at (Ptr frame offset) value fault c covers done = go (slice_get rows frame) refl done
  where
    go : (found : Option FrameShape) → slice_get rows frame ≡ found
        → stored_run history value (address_in found history frame offset (size_of value)) ≡ Err fault
        → IsAddressFault rows m.runs at (size_of value) fault
    go None found e = let same : Dead ≡ fault = cc in (Ptr frame offset, covers, rw found (ap (λ (f : RunFault). Err f) same))
    go (Some row) found e = by_test (is_active row.owner history)
        (λ active. by_test (fits_in row.bits offset (size_of value))
        (λ room. let good : Ok (Store frame offset (size_of value) value ∷ history) ≡ Err fault = rw (active, room) at e in cc)
        (λ past.
        let on : is_on m.runs row.owner ≡ true = sym (c.active row.owner) ∙ active in
        let bad : Err Bounds ≡ Err fault = rw (active, past) at e in
        let same : Bounds ≡ fault = cc in
        (Ptr frame offset, covers, rw (found, on, past) (ap (λ (f : RunFault). Err f) same))))
        (λ dead.
        let off : is_on m.runs row.owner ≡ false = sym (c.active row.owner) ∙ dead in
        let bad : Err Dead ≡ Err fault = rw dead at e in
        let same : Dead ≡ fault = cc in
        (Ptr frame offset, covers, rw (found, off) (ap (λ (f : RunFault). Err f) same)))
