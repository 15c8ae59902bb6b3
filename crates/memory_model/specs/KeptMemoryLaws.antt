-- Parts and the memories that they stand for.
--   slots_are       slots that keep their cells by size are those read off their frame
--   frame_is        the frame of slots that are read off a frame is this one, where it holds nothing outside them
--   parts_are       the parts of a memory are those made of what they stand for
--   memory_is       what is made of a memory stands for it, where it holds nothing outside the frames
--   is_within       what parts stand for holds nothing outside the frames
--   made_is         what is made of a memory with values of their sizes are parts of a memory
--   both_within     a join holds nothing outside the frames
use Rattle.std.specs.Prelude.{slice_get}
use Rattle.std.proofs.Common.{Bool, ◌≡◌, ◌∙◌, ap, subst, sym, inl, inr, ℕ, suc, zero, true, false, List, [], ◌∷◌, map, Option, Some, None, refl, arith, ◌+◌, ◌%◌, ◌<◌, ◌≤◌, length}
use Rattle.std.proofs.lemmas.Bool.{cases_eq, cases_lt, and_parts, eqb-true, ltb-true, leb-true}
use Rattle.lists.specs.TestLaws.{by_test}
use Rattle.alf_ops.specs.declared.history.FrameShape.{FrameShape}
use Rattle.alf_ops.specs.Histories.{offsets}
use Rattle.alf_check.specs.CheckedPrograms.{CheckedParts}
use Rattle.memory_pages.specs.declared.byte.Byte.{Byte}
use Rattle.memory_pages.specs.declared.held.Held.{Held}
use Rattle.memory_pages.specs.Slots.{HeldSlot, table, cell_of}
use Rattle.memory_pages.specs.Pages.{list_or}
use Rattle.memory_rules.specs.Frames.{FrameMem, Cell, joined}
use Rattle.memory_rules.specs.Memories.{Mem, MemSized, both}
use Rattle.memory_rules.specs.AbstractSets.{abstract_sets}
use Rattle.memory_model.specs.HeldFrames.{is_cell_size, byte_held, cell_seen, cell_held, byte_in, cell_in, frame_of}
use Rattle.memory_model.specs.HeldMemories.{runs_or}
use Rattle.pointer_rules.specs.AbstractValues.{AbstractValue}
use Rattle.memory_model.specs.KeptMemories.{MemoryParts, memory_in, rows_of, functions_of, bytes_in, canonical, IsMemory}
use Rattle.memory_model.specs.Made.{slot_at, slots_of, frames_from, made}
use Rattle.memory_model.specs.Within.{bytes_at, IsFrameWithin, IsWithin}
use Rattle.memory_model.specs.ReadOffLaws.{get_in, get_out, get_past, length_off, read_off, each_same}

-- ---- slots

held_seen : (cell : Option Held) → cell_held (cell_seen cell) ≡ cell
held_seen None = refl
held_seen (Some cell) = refl

seen_held : (cell : Option (Cell AbstractValue)) → cell_seen (cell_held cell) ≡ cell
seen_held None = refl
seen_held (Some cell) = refl

-- the slot of a frame of slots, at a place where there is one
slot_found : (slot : HeldSlot) → record { byte = byte_held (byte_in (Some slot)); cells = table (λ size. cell_held (cell_in (Some slot) size)) } ≡ canonical slot
slot_found slot = λ i. record { byte = slot.byte; cells = table (λ size. held_seen (cell_of slot size) i) }

slot_is : (slots : List HeldSlot) (place : ℕ) (slot : HeldSlot) → slice_get slots place ≡ Some slot
    → slot_at (frame_of slots) place ≡ canonical slot
slot_is slots place slot found =
    ap (λ (o : Option HeldSlot). record { byte = byte_held (byte_in o); cells = table (λ size. cell_held (cell_in o size)) }) found ∙ slot_found slot

-- those read off the frame of slots keep the cells by size, and nothing else
pub slots_are : (slots : List HeldSlot) → slots_of (length slots) (frame_of slots) ≡ map canonical slots
slots_are slots = read_off (slot_at (frame_of slots)) canonical 0 slots (λ i slot found.
    let e : 0 + i ≡ i = omega arith in
    ap (slot_at (frame_of slots)) e ∙ slot_is slots i slot found)

pub canonical_off : (f : FrameMem abstract_sets) (from count : ℕ)
    → map canonical (map (slot_at f) (offsets from count)) ≡ map (slot_at f) (offsets from count)
canonical_off f from zero = refl
canonical_off f from (suc count) = ap (λ slots. slot_at f from ∷ slots) (canonical_off f (suc from) count)

-- ---- frames

by_size : (P : ℕ → Type 0) (size : ℕ) → size % 8 ≡ 0 → 0 < size → size ≤ 64 → P 8 → P 16 → P 24 → P 32 → P 40 → P 48
    → P 56 → P 64 → P size
by_size P size whole some most a b c d e f g h = elim (cases_eq size 8) [
  | inl is ↦ subst P (sym is) a
  | inr not_8 ↦ elim (cases_eq size 16) [
    | inl is ↦ subst P (sym is) b
    | inr not_16 ↦ elim (cases_eq size 24) [
      | inl is ↦ subst P (sym is) c
      | inr not_24 ↦ elim (cases_eq size 32) [
        | inl is ↦ subst P (sym is) d
        | inr not_32 ↦ elim (cases_eq size 40) [
          | inl is ↦ subst P (sym is) e
          | inr not_40 ↦ elim (cases_eq size 48) [
            | inl is ↦ subst P (sym is) f
            | inr not_48 ↦ elim (cases_eq size 56) [
              | inl is ↦ subst P (sym is) g
              | inr not_56 ↦ elim (cases_eq size 64) [
                | inl is ↦ subst P (sym is) h
                | inr not_64 ↦ absurd (omega (arith, whole, some, most, not_8, not_16, not_24, not_32, not_40, not_48, not_56, not_64))
              ]
            ]
          ]
        ]
      ]
    ]
  ]
]

-- a table at the size of a cell
pub table_at : (byte : Byte) (f : ℕ → Option Held) (size : ℕ) → is_cell_size size ≡ true
    → cell_of (record { byte = byte; cells = table f }) size ≡ f size
table_at byte f size is =
    let parts = and_parts _ _ is in
    let bounds = and_parts _ _ parts.1 in
    by_size (λ (n : ℕ). cell_of (record { byte = byte; cells = table f }) n ≡ f n) size (eqb-true (size % 8) 0 parts.0) (ltb-true 0 size bounds.0) (leb-true size 64 bounds.1)
    refl refl refl refl refl refl refl refl

no_cell : (o : Option HeldSlot) (size : ℕ) → is_cell_size size ≡ false → cell_in o size ≡ None
no_cell None size other = refl
no_cell (Some slot) size other = rw other refl

module _ (count : ℕ) (f : FrameMem abstract_sets) (within : IsFrameWithin count f) where
  found : (place : ℕ) → place < count → slice_get (slots_of count f) place ≡ Some (slot_at f place)
  found place low =
      let e : 0 + place ≡ place = omega arith in
      get_in (slot_at f) 0 count place low ∙ ap (λ (n : ℕ). Some (slot_at f n)) e

  byte_is : (place : ℕ) → byte_in (slice_get (slots_of count f) place) ≡ f.bytes place
  byte_is place = elim (cases_lt place count) [
    | inl low ↦ ap byte_in (found place low)
    | inr past ↦ ap byte_in (get_out (slot_at f) 0 count place past) ∙ sym (within.bytes place past)
  ]

  cell_is : (place size : ℕ) → cell_in (slice_get (slots_of count f) place) size ≡ f.cells place size
  cell_is place size = elim (cases_lt place count) [
    | inl low ↦ ap (λ o. cell_in o size) (found place low) ∙ by_test (is_cell_size size)
        (λ cell. rw cell (ap cell_seen (table_at (slot_at f place).byte (λ w. cell_held (f.cells place w)) size cell) ∙ seen_held (f.cells place size)))
        (λ other. no_cell (Some (slot_at f place)) size other ∙ sym (within.sizes place size other))
    | inr past ↦ ap (λ o. cell_in o size) (get_out (slot_at f) 0 count place past) ∙ sym (within.cells place size past)
  ]

  -- the frame of slots that are read off a frame is this one
  pub frame_is : frame_of (slots_of count f) ≡ f
  frame_is = λ i. record { bytes = λ place. byte_is place i; cells = λ place size. cell_is place size i }

-- the frame of slots holds nothing outside them
pub slots_within : (slots : List HeldSlot) → IsFrameWithin (length slots) (frame_of slots)
slots_within slots = record {
  bytes = λ byte past. ap byte_in (get_past slots byte past);
  cells = λ offset size past. ap (λ o. cell_in o size) (get_past slots offset past);
  sizes = λ offset size other. no_cell (slice_get slots offset) size other;
}

-- ---- frames of rows

frame_found : (f : ℕ → FrameMem abstract_sets) (from : ℕ) (rows : List FrameShape) (frame : ℕ)
    → list_or (slice_get (frames_from f from rows) frame) ≡ slots_of (bytes_at (slice_get rows frame)) (f (from + frame))
frame_found f from [] frame = refl
frame_found f from (row ∷ rows) zero =
    let e : from ≡ from + 0 = omega arith in
    ap (λ (n : ℕ). slots_of (bytes_in row) (f n)) e
frame_found f from (row ∷ rows) (suc frame) =
    let e : suc from + frame ≡ from + suc frame = omega arith in
    frame_found f (suc from) rows frame ∙ ap (λ (n : ℕ). slots_of (bytes_at (slice_get rows frame)) (f n)) e

-- the frames of slots that keep their cells by size
frames_are : (f : ℕ → FrameMem abstract_sets) (from : ℕ) (rows : List FrameShape) (frames : List (List HeldSlot))
    → map length frames ≡ map bytes_in rows → map (map canonical) frames ≡ frames
    → ((frame : ℕ) → f (from + frame) ≡ frame_of (list_or (slice_get frames frame)))
    → frames_from f from rows ≡ frames
frames_are f from [] [] lengths same is = refl
frames_are f from [] (slots ∷ frames) lengths same is = cc
frames_are f from (row ∷ rows) [] lengths same is = cc
frames_are f from (row ∷ rows) (slots ∷ frames) lengths same is =
    let count : bytes_in row ≡ length slots = cc in
    let lengths_left : map length frames ≡ map bytes_in rows = cc in
    let first : map canonical slots ≡ slots = cc in
    let left : map (map canonical) frames ≡ frames = cc in
    let e : from ≡ from + 0 = omega arith in
    let head : slots_of (bytes_in row) (f from) ≡ slots =
    ap (λ (n : ℕ). slots_of n (f from)) count ∙ (ap (slots_of (length slots)) (ap f e ∙ is 0) ∙ (slots_are slots ∙ first)) in
    let tail = frames_are f (suc from) rows frames lengths_left left (λ frame.
    let later : suc from + frame ≡ from + suc frame = omega arith in
    ap f later ∙ is (suc frame)) in
    ap (λ x. x ∷ frames_from f (suc from) rows) head ∙ ap (λ xs. slots ∷ xs) tail

lengths_from : (f : ℕ → FrameMem abstract_sets) (from : ℕ) (rows : List FrameShape)
    → map length (frames_from f from rows) ≡ map bytes_in rows
lengths_from f from [] = refl
lengths_from f from (row ∷ rows) =
    ap (λ (n : ℕ). n ∷ map length (frames_from f (suc from) rows)) (length_off (slot_at (f from)) 0 (bytes_in row))
    ∙ ap (λ ns. bytes_in row ∷ ns) (lengths_from f (suc from) rows)

canonical_from : (f : ℕ → FrameMem abstract_sets) (from : ℕ) (rows : List FrameShape)
    → map (map canonical) (frames_from f from rows) ≡ frames_from f from rows
canonical_from f from [] = refl
canonical_from f from (row ∷ rows) =
    ap (λ x. x ∷ map (map canonical) (frames_from f (suc from) rows)) (canonical_off (f from) 0 (bytes_in row))
    ∙ ap (λ xs. slots_of (bytes_in row) (f from) ∷ xs) (canonical_from f (suc from) rows)

within_from : (rows : List FrameShape) (frames : List (List HeldSlot)) → map length frames ≡ map bytes_in rows
    → (frame : ℕ)
    → IsFrameWithin (bytes_at (slice_get rows frame)) (frame_of (list_or (slice_get frames frame)))
within_from [] [] lengths frame = slots_within []
within_from [] (slots ∷ frames) lengths frame = cc
within_from (row ∷ rows) [] lengths frame = cc
within_from (row ∷ rows) (slots ∷ frames) lengths zero =
    let count : length slots ≡ bytes_in row = cc in
    subst (λ (n : ℕ). IsFrameWithin n (frame_of slots)) count (slots_within slots)
within_from (row ∷ rows) (slots ∷ frames) lengths (suc frame) =
    let left : map length frames ≡ map bytes_in rows = cc in
    within_from rows frames left frame

-- ---- flags

runs_off : (runs : ℕ → Bool) (count function : ℕ) → (count ≤ function → runs function ≡ false)
    → runs_or (slice_get (map runs (offsets 0 count)) function) ≡ runs function
runs_off runs count function none = elim (cases_lt function count) [
  | inl low ↦ ap runs_or (get_in runs 0 count function low) ∙ ap runs (let e : 0 + function ≡ function = omega arith in e)
  | inr past ↦ ap runs_or (get_out runs 0 count function past) ∙ sym (none past)
]

flags_are : (running : List Bool)
    → map (λ function. runs_or (slice_get running function)) (offsets 0 (length running)) ≡ running
flags_are running =
    read_off (λ function. runs_or (slice_get running function)) (λ (runs : Bool). runs) 0 running (λ i runs found.
    let e : 0 + i ≡ i = omega arith in
    ap (λ (n : ℕ). runs_or (slice_get running n)) e ∙ ap runs_or found)
    ∙ each_same running

-- ---- parts

-- the parts of a memory are those made of what they stand for
pub parts_are : (parts : MemoryParts) → IsMemory parts → made parts.checked (memory_in parts) ≡ parts
parts_are parts is = λ i. record { checked = parts.checked; running = running i; frames = frames i }
  where
    running : map (memory_in parts).runs (offsets 0 (functions_of parts.checked)) ≡ parts.running
    running = ap (λ (n : ℕ). map (memory_in parts).runs (offsets 0 n)) (sym is.running) ∙ flags_are parts.running

    frames : frames_from (memory_in parts).frames 0 (rows_of parts.checked) ≡ parts.frames
    frames = frames_are (memory_in parts).frames 0 (rows_of parts.checked) parts.frames is.frames is.canonical (λ frame.
        let e : 0 + frame ≡ frame = omega arith in
        ap (memory_in parts).frames e)

-- what is made of a memory stands for it, where it holds nothing outside the frames
pub memory_is : (checked : CheckedParts) (m : Mem abstract_sets) → IsWithin (functions_of checked) (rows_of checked) m
    → memory_in (made checked m) ≡ m
memory_is checked m within = λ i. record { runs = λ function. runs function i; frames = λ frame. frames frame i }
  where
    runs : (function : ℕ)
        → runs_or (slice_get (map m.runs (offsets 0 (functions_of checked))) function) ≡ m.runs function
    runs function = runs_off m.runs (functions_of checked) function (within.runs function)

    frames : (frame : ℕ)
        → frame_of (list_or (slice_get (frames_from m.frames 0 (rows_of checked)) frame)) ≡ m.frames frame
    frames frame =
        let e : 0 + frame ≡ frame = omega arith in
        ap frame_of (frame_found m.frames 0 (rows_of checked) frame ∙ ap (λ (n : ℕ). slots_of (bytes_at (slice_get (rows_of checked) frame)) (m.frames n)) e)
        ∙ frame_is (bytes_at (slice_get (rows_of checked) frame)) (m.frames frame) (within.frames frame)

-- what parts stand for holds nothing outside the frames
pub is_within : (parts : MemoryParts) → IsMemory parts
    → IsWithin (functions_of parts.checked) (rows_of parts.checked) (memory_in parts)
is_within parts is = record {
  runs = λ function past. ap runs_or (get_past parts.running function (subst (λ (n : ℕ). n ≤ function) (sym is.running) past));
  frames = within_from (rows_of parts.checked) parts.frames is.frames;
}

-- what is made of a memory with values of their sizes are parts of a memory
pub made_is : (checked : CheckedParts) (m : Mem abstract_sets) → IsWithin (functions_of checked) (rows_of checked) m
    → MemSized abstract_sets m → IsMemory (made checked m)
made_is checked m within sized = record {
  running = length_off m.runs 0 (functions_of checked);
  frames = lengths_from m.frames 0 (rows_of checked);
  canonical = canonical_from m.frames 0 (rows_of checked);
  sized = subst (MemSized abstract_sets) (sym (memory_is checked m within)) sized;
}

-- ---- joins

frame_both : (count : ℕ) (a b : FrameMem abstract_sets) → IsFrameWithin count a → IsFrameWithin count b
    → IsFrameWithin count (joined abstract_sets a b)
frame_both count a b first second = record {
  bytes = λ byte past. rw (first.bytes byte past, second.bytes byte past) refl;
  cells = λ offset size past. rw (first.cells offset size past, second.cells offset size past) refl;
  sizes = λ offset size other. rw (first.sizes offset size other, second.sizes offset size other) refl;
}

-- a join holds nothing outside the frames
pub both_within : (count : ℕ) (rows : List FrameShape) (a b : Mem abstract_sets) → IsWithin count rows a
    → IsWithin count rows b → IsWithin count rows (both abstract_sets a b)
both_within count rows a b first second = record {
  runs = first.runs;
  frames = λ frame. frame_both (bytes_at (slice_get rows frame)) (a.frames frame) (b.frames frame) (first.frames frame) (second.frames frame);
}
