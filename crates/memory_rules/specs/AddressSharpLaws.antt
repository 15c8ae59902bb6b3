-- Laws of address sharp.
--   one_cell               an address with one member may mean this cell alone
--   loads_only, stores_only, faults_only   the laws of loads and stores
use Rattle.std.specs.Prelude.{slice_get, Contains, ◌&&◌}
use Rattle.std.proofs.Common.{◌≡◌, ◌≢◌, inl, inr, sym, subst, ◌∙◌, ap, ℕ, zero, suc, Bool, true, false, List, [], ◌∷◌, ◌++◌, Option, Some, None, Result, Ok, Err, refl, arith, ◌+◌, ◌*◌, ◌<◌, ◌≤◌, ◌/◌}
use Rattle.std.proofs.lemmas.Bool.{and_from, and_left, and_right, leb-true, cases_eq}
use Rattle.lists.specs.TestLaws.{by_test}
use Rattle.lists.specs.MemberLaws.{no_member}
use Rattle.alf_ops.specs.declared.history.Value.{Value}
use Rattle.alf_ops.specs.declared.history.Value.TheVariants.{Int, Ptr}
use Rattle.alf_ops.specs.declared.history.RunFault.{RunFault}
use Rattle.alf_ops.specs.declared.history.RunFault.TheVariants.{Kind, Dead, Bounds}
use Rattle.alf_ops.specs.declared.history.FrameShape.{FrameShape}
use Rattle.alf_ops.specs.declared.history.RunEvent.{RunEvent}
use Rattle.alf_ops.specs.declared.history.RunEvent.TheVariants.{Store}
use Rattle.alf_ops.specs.Histories.{offsets, origin, cell_in, fits_in, is_active, address_in, loaded, stored as stored_run}
use Rattle.alf_ops.specs.Values.{size_of}
use Rattle.domain_core.specs.WordSets.{IsOnly}
use Rattle.strided_rules.specs.Strides.{Stride, IsStride}
use Rattle.strided_rules.specs.Members.{has}
use Rattle.strided_rules.specs.MemberLaws.{has_tells}
use Rattle.strided_rules.specs.Domains.{stride_sets}
use Rattle.pointer_rules.specs.AbstractValues.{AbstractValue, Alternative, Words, Places, alone}
use Rattle.pointer_rules.specs.Covering.{IsValue, OnlyOf}
use Rattle.pointer_rules.specs.ApplyLaws.{value_alone}
use Rattle.memory_rules.specs.ValueSets.{OnlyCovers}
use Rattle.memory_rules.specs.Frames.{load_results}
use Rattle.memory_rules.specs.Covers.{IsCellSize}
use Rattle.memory_rules.specs.Sharp.{Exactly}
use Rattle.memory_rules.specs.Memories.{Mem, is_on, stored, load_all, joined_values, faults_of, GathersOnly, MemSharp, MemSized, IsPlaced}
use Rattle.memory_rules.specs.AbstractSets.{abstract_sets}
use Rattle.memory_rules.specs.AbstractSetLaws.{abstract_is_sets}
use Rattle.memory_rules.specs.MemoryProofLaws.{exact_load, loads_gather, memory_stays_sharp}
use Rattle.memory_rules.specs.Addresses.{tested, tested_in, cells_at, cells_in, cells_of, IsAddressFault, load_at, stored_at, TellsOnly, LoadsOnly, StoresOnly, FaultsOnly}
use Rattle.memory_rules.specs.AddressSharp.{cells_told}

append_none : {A : Type 0} (xs : List A) → xs ++ [] ≡ xs
append_none {A} [] = refl
append_none {A} (x ∷ xs) = ap (λ (rest : List A). x ∷ rest) (append_none xs)

-- ---- one offset

no_cells : (frame bits size : ℕ) (members : Stride) (start count : ℕ)
    → ((k : ℕ) → start ≤ k → k < start + count → (has members k && fits_in bits k size) ≡ false) → cells_at frame bits size members (offsets start count) ≡ []
no_cells frame bits size members start zero none = refl
no_cells frame bits size members start (suc count) none =
    rw (none start (omega arith) (omega arith)) (no_cells frame bits size members (suc start) count (λ k low high. none k (omega (arith, low)) (omega (arith, high))))

one_offset : (frame bits size : ℕ) (members : Stride) (start count offset : ℕ) → start ≤ offset → offset < start + count
    → (has members offset && fits_in bits offset size) ≡ true → ((k : ℕ) → k ≢ offset → has members k ≡ false)
    → cells_at frame bits size members (offsets start count) ≡ (frame, offset) ∷ []
one_offset frame bits size members start zero offset low high test others = absurd (omega arith)
one_offset frame bits size members start (suc count) offset low high test others = elim (cases_eq start offset) [
  | inl same ↦
      let here : (has members start && fits_in bits start size) ≡ true = subst (λ (k : ℕ). (has members k && fits_in bits k size) ≡ true) (sym same) test in
      let rest : cells_at frame bits size members (offsets (suc start) count) ≡ [] =
      no_cells frame bits size members (suc start) count (λ k above below. and_left _ _ (others k (omega (arith, same, above)))) in
      rw (here, rest) (ap (λ (k : ℕ). (frame, k) ∷ []) same)
  | inr differ ↦
      let here : (has members start && fits_in bits start size) ≡ false = and_left _ _ (others start differ) in
      rw here (one_offset frame bits size members (suc start) count offset (omega (arith, low, differ)) (omega (arith, high)) test others)
]

not_there : (members : Stride) (offset : ℕ) → IsStride members → IsOnly stride_sets members offset → (k : ℕ)
    → k ≢ offset → has members k ≡ false
not_there members offset is only k differ = by_test (has members k)
    (λ e. absurd (differ (only.one k ((has_tells members k is).0 e))))
    (λ e. e)

-- ---- one cell

in_frame : (found : Option FrameShape) (runs : ℕ → Bool) (frame offset size : ℕ) (members : Stride) → IsCellSize size
    → IsStride members
    → IsOnly stride_sets members offset
    → cells_in found runs (frame, members) size ≡ cells_told (tested_in found runs frame offset size)
in_frame None runs frame offset size members is of_members only = refl
in_frame (Some row) runs frame offset size members is of_members only = by_test (is_on runs row.owner)
    (λ active. by_test (fits_in row.bits offset size)
    (λ fits.
    let low : offset * 8 + size ≤ row.bits = leb-true (offset * 8 + size) row.bits fits in
    let below : offset < 0 + row.bits / 8 = omega (arith, is.0, low) in
    rw (active, fits) (one_offset frame row.bits size members 0 (row.bits / 8) offset (omega arith) below
    (and_from _ _ ((has_tells members offset of_members).1 only.is) fits) (not_there members offset of_members only)))
    (λ past. rw (active, past) (no_cells frame row.bits size members 0 (row.bits / 8) (λ k above below. elim (cases_eq k offset) [
      | inl same ↦ and_right _ _ (subst (λ (n : ℕ). fits_in row.bits n size ≡ false) (sym same) past)
      | inr differ ↦ and_left _ _ (not_there members offset of_members only k differ)
    ]))))
    (λ off. rw off refl)

-- an address with one member may mean this cell alone
pub one_cell : (rows : List FrameShape) (runs : ℕ → Bool) (at : AbstractValue) (place : Value) (size : ℕ)
    → IsCellSize size → IsValue 32 at
    → OnlyCovers abstract_sets at place
    → cells_of rows runs at.places size ≡ cells_told (tested rows runs place size)
one_cell rows runs at place size is of_at only =
    let one = value_alone 32 at place of_at (record { is = only.0; one = only.1 }) in
    go one.0 place one.1 one.2
  where
    go : (x : Alternative) (place : Value) → at ≡ alone x → OnlyOf x place
        → cells_of rows runs at.places size ≡ cells_told (tested rows runs place size)
    go (Words words) (Int own word) e h = ap (λ (v : AbstractValue). cells_of rows runs v.places size) e
    go (Words words) (Ptr frame offset) e h = elim h [ ]
    go (Places frame members) (Int own word) e h = elim h [ ]
    go (Places frame members) (Ptr other offset) e h =
        let of_members : IsStride members = (subst (IsValue 32) e of_at).is.places.0.offsets in
        let alike : cells_of rows runs at.places size ≡ cells_in (slice_get rows frame) runs (frame, members) size ++ [] =
        ap (λ (v : AbstractValue). cells_of rows runs v.places size) e in
        alike ∙ append_none (cells_in (slice_get rows frame) runs (frame, members) size)
        ∙ in_frame (slice_get rows frame) runs frame offset size members is of_members h.1
        ∙ ap (λ (f : ℕ). cells_told (tested rows runs (Ptr f offset) size)) h.0

-- its fault alone is told
only_fault : (rows : List FrameShape) (runs : ℕ → Bool) (at : AbstractValue) (place : Value) (size : ℕ) (fault : RunFault) → OnlyCovers abstract_sets at place
    → IsAddressFault rows runs at size fault → tested rows runs place size ≡ Err fault
only_fault rows runs at place size fault only (other, covers, is) = subst (λ (p : Value). tested rows runs p size ≡ Err fault) (only.1 other covers) is

-- no fault is told where the address has none
no_fault : (rows : List FrameShape) (runs : ℕ → Bool) (at : AbstractValue) (place : Value) (size : ℕ) (cell : ℕ × ℕ)
    → OnlyCovers abstract_sets at place
    → tested rows runs place size ≡ Ok cell → (fault : RunFault) → IsAddressFault rows runs at size fault → ⊥
no_fault rows runs at place size cell only test fault told =
    let e : Ok cell ≡ Err fault = sym test ∙ only_fault rows runs at place size fault only told in cc

-- and where it has one, no other
same_fault : (rows : List FrameShape) (runs : ℕ → Bool) (at : AbstractValue) (place : Value) (size : ℕ) (fault other : RunFault)
    → OnlyCovers abstract_sets at place
    → tested rows runs place size ≡ Err fault → IsAddressFault rows runs at size other → other ≡ fault
same_fault rows runs at place size fault other only test told =
    let e : Err other ≡ Err fault = sym (only_fault rows runs at place size other only told) ∙ test in cc

-- ---- loads

fault_only : (rows : List FrameShape) (m : Mem abstract_sets) (at : AbstractValue) (place : Value) (size : ℕ) (fault : RunFault)
    → OnlyCovers abstract_sets at place
    → tested rows m.runs place size ≡ Err fault → cells_of rows m.runs at.places size ≡ [] → TellsOnly rows m at size (Err fault)
fault_only rows m at place size fault only test cells = (
  ap (λ (list : List (ℕ × ℕ)). joined_values abstract_sets None (load_all abstract_sets m list size)) cells,
  inl (place, only.0, test),
  λ other told. elim told [
    | inl a ↦ same_fault rows m.runs at place size fault other only test a
    | inr c ↦ no_member other (subst (λ (list : List (ℕ × ℕ)). Contains (faults_of abstract_sets (load_all abstract_sets m list size)) other) cells c)
  ],
)

told_only : (rows : List FrameShape) (m : Mem abstract_sets) (at : AbstractValue) (size : ℕ) (r : Result Value RunFault)
    → ((fault : RunFault) → IsAddressFault rows m.runs at size fault → ⊥)
    → GathersOnly abstract_sets (joined_values abstract_sets None (load_at rows m at size)) (faults_of abstract_sets (load_at rows m at size)) r
    → TellsOnly rows m at size r
told_only rows m at size (Ok value) none g = (
  g.0,
  λ fault told. elim told [
    | inl a ↦ none fault a
    | inr c ↦ no_member fault (subst (λ (faults : List RunFault). Contains faults fault) g.1 c)
  ],
)
told_only rows m at size (Err fault) none g = (
  g.0,
  inr g.1,
  λ other told. elim told [
    | inl a ↦ absurd (none other a)
    | inr c ↦ g.2 other c
  ],
)

cell_only : (rows : List FrameShape) (m : Mem abstract_sets) (history : List RunEvent) (at : AbstractValue) (frame offset size : ℕ)
    → MemSized abstract_sets m → MemSharp abstract_sets rows m history → IsCellSize size → OnlyCovers abstract_sets at (Ptr frame offset)
    → tested rows m.runs (Ptr frame offset) size ≡ Ok (frame, offset) → cells_of rows m.runs at.places size ≡ (frame, offset) ∷ []
    → (p : IsPlaced rows history frame offset size) → TellsOnly rows m at size (cell_in (origin p.row.owner frame history) offset size)
cell_only rows m history at frame offset size sized sharp is only test cells p =
    let exact : Exactly abstract_sets (cell_in (origin p.row.owner frame history) offset size) (load_results abstract_sets (m.frames frame) offset size) =
    exact_load abstract_sets abstract_is_sets p.row.bits (m.frames frame) (origin p.row.owner frame history) offset size (sized frame) (sharp.frames frame p.row p.found p.runs) is p.fits in
    let one : Exactly abstract_sets (cell_in (origin p.row.owner frame history) offset size) (load_all abstract_sets m ((frame, offset) ∷ []) size) =
    subst (λ (rs : List (Result AbstractValue RunFault)). Exactly abstract_sets (cell_in (origin p.row.owner frame history) offset size) rs)
    (sym (append_none (load_results abstract_sets (m.frames frame) offset size))) exact in
    let all : Exactly abstract_sets (cell_in (origin p.row.owner frame history) offset size) (load_at rows m at size) =
    subst (λ (list : List (ℕ × ℕ)). Exactly abstract_sets (cell_in (origin p.row.owner frame history) offset size) (load_all abstract_sets m list size)) (sym cells) one in
    told_only rows m at size (cell_in (origin p.row.owner frame history) offset size) (no_fault rows m.runs at (Ptr frame offset) size (frame, offset) only test)
    ((loads_gather abstract_sets abstract_is_sets m (cells_of rows m.runs at.places size) size (cell_in (origin p.row.owner frame history) offset size) sized is).1 all)

pub loads_only : LoadsOnly
loads_only rows m history at (Int own word) size sized sharp is of_at only =
    fault_only rows m at (Int own word) size Kind only refl (one_cell rows m.runs at (Int own word) size is of_at only)
loads_only rows m history at (Ptr frame offset) size sized sharp is of_at only = go (slice_get rows frame) refl
  where
    cells : (result : Result (ℕ × ℕ) RunFault) → tested rows m.runs (Ptr frame offset) size ≡ result
        → cells_of rows m.runs at.places size ≡ cells_told result
    cells result test = one_cell rows m.runs at (Ptr frame offset) size is of_at only ∙ ap cells_told test

    go : (found : Option FrameShape) → slice_get rows frame ≡ found
        → TellsOnly rows m at size (loaded history size (address_in found history frame offset size))
    go None found =
        let test : tested rows m.runs (Ptr frame offset) size ≡ Err Dead = rw found refl in
        fault_only rows m at (Ptr frame offset) size Dead only test (cells (Err Dead) test)
    go (Some row) found = by_test (is_active row.owner history)
        (λ active. by_test (fits_in row.bits offset size)
        (λ fits.
        let on : is_on m.runs row.owner ≡ true = sym (sharp.active row.owner) ∙ active in
        let test : tested rows m.runs (Ptr frame offset) size ≡ Ok (frame, offset) = rw (found, on, fits) refl in
        let p : IsPlaced rows history frame offset size = record { row = row; found = found; runs = active; fits = fits } in
        rw (active, fits) (cell_only rows m history at frame offset size sized sharp is only test (cells (Ok (frame, offset)) test) p))
        (λ past.
        let on : is_on m.runs row.owner ≡ true = sym (sharp.active row.owner) ∙ active in
        let test : tested rows m.runs (Ptr frame offset) size ≡ Err Bounds = rw (found, on, past) refl in
        rw (active, past) (fault_only rows m at (Ptr frame offset) size Bounds only test (cells (Err Bounds) test))))
        (λ dead.
        let off : is_on m.runs row.owner ≡ false = sym (sharp.active row.owner) ∙ dead in
        let test : tested rows m.runs (Ptr frame offset) size ≡ Err Dead = rw (found, off) refl in
        rw dead (fault_only rows m at (Ptr frame offset) size Dead only test (cells (Err Dead) test)))

-- ---- stores

pub stores_only : StoresOnly
stores_only rows m history after at set (Int own word) value sound sized sharp is of_at of_set fits only only_set done = cc
stores_only rows m history after at set (Ptr frame offset) value sound sized sharp is of_at of_set fits only only_set done =
    go (slice_get rows frame) refl done
  where
    go : (found : Option FrameShape) → slice_get rows frame ≡ found
        → stored_run history value (address_in found history frame offset (size_of value)) ≡ Ok after
        → MemSharp abstract_sets rows (stored_at rows m at (size_of value) set) after × ((fault : RunFault) → IsAddressFault rows m.runs at (size_of value) fault → ⊥)
    go None found e = cc
    go (Some row) found e = by_test (is_active row.owner history)
        (λ active. by_test (fits_in row.bits offset (size_of value))
        (λ room.
        let on : is_on m.runs row.owner ≡ true = sym (sharp.active row.owner) ∙ active in
        let test : tested rows m.runs (Ptr frame offset) (size_of value) ≡ Ok (frame, offset) = rw (found, on, room) refl in
        let cells : cells_of rows m.runs at.places (size_of value) ≡ (frame, offset) ∷ [] =
        one_cell rows m.runs at (Ptr frame offset) (size_of value) is of_at only ∙ ap cells_told test in
        let p : IsPlaced rows history frame offset (size_of value) = record { row = row; found = found; runs = active; fits = room } in
        let ok : Ok (Store frame offset (size_of value) value ∷ history) ≡ Ok after = rw (active, room) at e in
        let now : Store frame offset (size_of value) value ∷ history ≡ after = cc in (
          subst (λ (events : List RunEvent). MemSharp abstract_sets rows (stored_at rows m at (size_of value) set) events) now
              (subst (λ (list : List (ℕ × ℕ)). MemSharp abstract_sets rows (stored abstract_sets m list (size_of value) set) (Store frame offset (size_of value) value ∷ history)) (sym cells)
              (memory_stays_sharp abstract_sets abstract_is_sets rows m history frame offset (size_of value) set value sound sized sharp is of_set only_set fits p)),
          no_fault rows m.runs at (Ptr frame offset) (size_of value) (frame, offset) only test,
        ))
        (λ past. let bad : Err Bounds ≡ Ok after = rw (active, past) at e in cc))
        (λ dead. let bad : Err Dead ≡ Ok after = rw dead at e in cc)

pub faults_only : FaultsOnly
faults_only rows m history at (Int own word) value fault sharp is of_at only done =
    let same : Kind ≡ fault = cc in (
      one_cell rows m.runs at (Int own word) (size_of value) is of_at only,
      λ other told. same_fault rows m.runs at (Int own word) (size_of value) fault other only (ap (λ (f : RunFault). Err f) same) told,
    )
faults_only rows m history at (Ptr frame offset) value fault sharp is of_at only done = go (slice_get rows frame) refl done
  where
    by_fault : tested rows m.runs (Ptr frame offset) (size_of value) ≡ Err fault
        → (cells_of rows m.runs at.places (size_of value) ≡ []) × ((other : RunFault) → IsAddressFault rows m.runs at (size_of value) other → other ≡ fault)
    by_fault test = (
      one_cell rows m.runs at (Ptr frame offset) (size_of value) is of_at only ∙ ap cells_told test,
      λ other told. same_fault rows m.runs at (Ptr frame offset) (size_of value) fault other only test told,
    )

    go : (found : Option FrameShape) → slice_get rows frame ≡ found
        → stored_run history value (address_in found history frame offset (size_of value)) ≡ Err fault
        → (cells_of rows m.runs at.places (size_of value) ≡ []) × ((other : RunFault) → IsAddressFault rows m.runs at (size_of value) other → other ≡ fault)
    go None found e = let same : Dead ≡ fault = cc in by_fault (rw found (ap (λ (f : RunFault). Err f) same))
    go (Some row) found e = by_test (is_active row.owner history)
        (λ active. by_test (fits_in row.bits offset (size_of value))
        (λ room. let good : Ok (Store frame offset (size_of value) value ∷ history) ≡ Err fault = rw (active, room) at e in cc)
        (λ past.
        let on : is_on m.runs row.owner ≡ true = sym (sharp.active row.owner) ∙ active in
        let bad : Err Bounds ≡ Err fault = rw (active, past) at e in
        let same : Bounds ≡ fault = cc in
        by_fault (rw (found, on, past) (ap (λ (f : RunFault). Err f) same))))
        (λ dead.
        let off : is_on m.runs row.owner ≡ false = sym (sharp.active row.owner) ∙ dead in
        let bad : Err Dead ≡ Err fault = rw dead at e in
        let same : Dead ≡ fault = cc in
        by_fault (rw (found, off) (ap (λ (f : RunFault). Err f) same)))
