-- Stores and pins, of slots.
--   begins_in                     a cell that lies in the frame begins in it
--   begins, goes, ends            a store from place to place
--   untouched                     the byte that is next is as it was
--   strong_before, strong_inside  a place of a strong store
--   strong_later                  a place after the first
--   strong_first, strong_kept     the first place of its cell, where the slot is put, or is there
--   weak_before, weak_inside      a place of a weak store
--   pins                          a pin
--   pinned_before                 a pin to what is there
use Rattle.std.specs.Prelude.{slice_get, slice_set, ◌==◌, if◌then◌else◌}
use Rattle.std.proofs.Common.{Bool, ◌≡◌, sym, subst, ◌∙◌, ap, ℕ, suc, zero, true, false, List, Some, None, refl, arith, ◌+◌, ◌-◌, ◌*◌, ◌/◌, ◌<◌, ◌≤◌, length}
use Rattle.std.proofs.lemmas.Bool.{and_parts, eqb-true, eq-eqb, ne_eqb, lt-ltb, le-ltb, false≢true}
use Rattle.lists.specs.TestLaws.{by_test}
use Rattle.pointer_rules.specs.AbstractValues.{AbstractValue}
use Rattle.memory_pages.specs.declared.byte.Byte.{Byte}
use Rattle.memory_pages.specs.declared.held.Held.{Held}
use Rattle.memory_pages.specs.Slots.{HeldSlot, bare, with_cell}
use Rattle.memory_rules.specs.Frames.{Cell, FrameMem, is_same, new_byte, weak_byte, with_x, strong, pinned}
use Rattle.memory_rules.specs.AbstractSets.{abstract_sets}
use Rattle.memory_model.specs.HeldFrames.{is_cell_size, byte_held, byte_seen, cell_seen, cell_in, frame_of}
use Rattle.memory_model.specs.SlotStores.{CellChange, ByteChange, stored_frame}
use Rattle.frame_memory.specs.Places.{CellsBySize, at_place, below, with_place, wider, canonical, known, known_seen, lone_slot, mixed, mixed_slot, weakly, IsMixedAt, IsStored, Becomes}
use Rattle.frame_memory.proofs.SlotFrames.{cell_bounds, put_becomes, same_becomes, bare_cells, with_cell_cells, marked_cells, byte_found, cells_found}
use Rattle.frame_memory.proofs.Steps.{before_is, inside_is, begun, gone_on, ended, frames_keep_cells}

-- a cell that lies in the frame begins in it
pub begins_in : (offset size count : ℕ) → is_cell_size size ≡ true → offset + size / 8 ≤ count → offset < count
begins_in offset size count sized fits = let bounds = cell_bounds size sized in omega (arith, bounds.0, bounds.1, fits)

-- ---- from place to place

module _ (offset size : ℕ) (new : Cell AbstractValue) (others : CellChange) (byte : ByteChange) (sized : is_cell_size size ≡ true) (keeps : others None ≡ None) where
  abbrev after : FrameMem abstract_sets → FrameMem abstract_sets
  after m = stored_frame m offset size new others byte

  module _ (first : List HeldSlot) where
    -- the frame where what begins before the place is stored
    abbrev partly : ℕ → FrameMem abstract_sets
    partly place = below place (after (frame_of first)) (frame_of first)

    pub begins : Becomes first first (partly (offset - 7))
    begins = record {
      frame = begun offset size new others byte sized keeps (frame_of first) (frames_keep_cells first);
      length = refl;
      canonical = λ are. are;
    }

    pub goes : (slots next : List HeldSlot) (place : ℕ) → Becomes first slots (partly place)
        → Becomes slots next (at_place place (after (frame_of slots)) (frame_of slots)) → Becomes first next (partly (place + 1))
    goes slots next place so_far step = record {
      frame = step.frame
          ∙ (ap (λ m. at_place place (after m) m) so_far.frame ∙ gone_on offset size new others byte sized keeps (frame_of first) place);
      length = step.length ∙ so_far.length;
      canonical = λ are. step.canonical (so_far.canonical are);
    }

    -- what begins at the place is still as it was
    pub untouched : (slots : List HeldSlot) (place : ℕ) → Becomes first slots (partly place)
        → (frame_of slots).bytes place ≡ (frame_of first).bytes place
    untouched slots place so_far = ap (λ (m : FrameMem abstract_sets). m.bytes place) so_far.frame ∙ rw (le-ltb place place (omega arith)) refl

    pub ends : (slots : List HeldSlot) (place : ℕ) → place ≡ offset + size / 8 → Becomes first slots (partly place)
        → Becomes first slots (after (frame_of first))
    ends slots place at so_far = record {
      frame = so_far.frame ∙ (ap partly at ∙ ended offset size new others byte sized keeps (frame_of first) (frames_keep_cells first));
      length = so_far.length;
      canonical = so_far.canonical;
    }

-- ---- slots

other_place : (offset size place width : ℕ) → (place == offset) ≡ false → is_same offset size place width ≡ false
other_place offset size place width far = rw far refl

same_place : (offset size place width : ℕ) → (place == offset) ≡ true
    → is_same offset size place width ≡ (width == size)
same_place offset size place width here = rw here refl

from_start : (offset place : ℕ) → offset ≤ place → (place - offset == 0) ≡ (place == offset)
from_start offset place low = by_test (place == offset)
    (λ here. let e = eqb-true place offset here in rw here (eq-eqb (place - offset) 0 (omega (arith, e))))
    (λ far. rw far (by_test (place - offset == 0)
    (λ none. let e = eqb-true (place - offset) 0 none in let same : place ≡ offset = omega (arith, e, low) in absurd (false≢true (sym far ∙ eq-eqb place offset same)))
    (λ some. some)))

none_marked : (width : ℕ) (slot : HeldSlot)
    → wider (with_x abstract_sets) 0 (cell_in (Some slot)) width ≡ with_x abstract_sets (cell_in (Some slot) width)
none_marked width slot = go width
  where
    go : (w : ℕ) → wider (with_x abstract_sets) 0 (cell_in (Some slot)) w ≡ with_x abstract_sets (cell_in (Some slot) w)
    go zero = refl
    go (suc w) = rw (lt-ltb 0 (suc w) (omega arith)) refl

-- a strong store at a place of the cell
module _ (offset size place : ℕ) (value : AbstractValue) (sized : is_cell_size size ≡ true) (low : offset ≤ place) where
  abbrev left_byte : Byte
  left_byte = byte_held (new_byte abstract_sets value (place - offset))

  lone_byte : (lone_slot (place - offset) size value).byte ≡ byte_held (new_byte abstract_sets value (place - offset))
  lone_byte = by_test (place - offset == 0) (λ here. rw here refl) (λ far. rw far refl)

  lone_canonical : canonical (lone_slot (place - offset) size value) ≡ lone_slot (place - offset) size value
  lone_canonical = by_test (place - offset == 0) (λ here. rw here refl) (λ far. rw far refl)

  lone_cells : (width : ℕ) → cell_in (Some (lone_slot (place - offset) size value)) width ≡ (if is_same offset size place width then Some (known_seen value) else None)
  lone_cells width = by_test (place - offset == 0)
      (λ here.
      let at : (place == offset) ≡ true = sym (from_start offset place low) ∙ here in
      rw (here, same_place offset size place width at)
      (with_cell_cells (bare left_byte) size (known value) width sized
      ∙ by_test (width == size) (λ same. rw same refl) (λ differ. rw differ (bare_cells left_byte width))))
      (λ far.
      let off : (place == offset) ≡ false = sym (from_start offset place low) ∙ far in
      rw (far, other_place offset size place width off) (bare_cells left_byte width))

-- a weak store at a place of the cell
module _ (offset size place : ℕ) (value : AbstractValue) (slot : HeldSlot) (cell : Held) (sized : is_cell_size size ≡ true) (low : offset ≤ place) where
  mixed_byte : (mixed_slot slot (place - offset) size cell value).byte ≡ byte_held (weak_byte abstract_sets (byte_seen slot.byte) (new_byte abstract_sets value (place - offset)))
  mixed_byte = by_test (place - offset == 0) (λ here. rw here refl) (λ far. rw far refl)

  mixed_canonical : canonical (mixed_slot slot (place - offset) size cell value) ≡ mixed_slot slot (place - offset) size cell value
  mixed_canonical = by_test (place - offset == 0) (λ here. rw here refl) (λ far. rw far refl)

  all_marked : (width : ℕ)
      → cell_in (Some (mixed slot (place - offset) value)) width ≡ with_x abstract_sets (cell_in (Some slot) width)
  all_marked width = marked_cells slot 0 width ∙ none_marked width slot

  mixed_cells : (width : ℕ) → cell_in (Some (mixed_slot slot (place - offset) size cell value)) width
      ≡ (if is_same offset size place width then cell_seen (Some cell) else with_x abstract_sets (cell_in (Some slot) width))
  mixed_cells width = by_test (place - offset == 0)
      (λ here.
      let at : (place == offset) ≡ true = sym (from_start offset place low) ∙ here in
      rw (here, same_place offset size place width at)
      (with_cell_cells (mixed slot (place - offset) value) size cell width sized
      ∙ by_test (width == size) (λ same. rw same refl) (λ differ. rw differ (all_marked width))))
      (λ far.
      let off : (place == offset) ≡ false = sym (from_start offset place low) ∙ far in
      rw (far, other_place offset size place width off) (all_marked width))

-- ---- stores

module _ (old new : List HeldSlot) (offset size place : ℕ) (value : AbstractValue) (sized : is_cell_size size ≡ true) where
  abbrev strongly : FrameMem abstract_sets → FrameMem abstract_sets
  strongly m = strong abstract_sets m offset size value

  -- a strong store at a place before its cell
  pub strong_before : place < offset
      → Becomes old new (with_place (frame_of old) place ((frame_of old).bytes place) (wider (λ cell. None) (8 * (offset - place)) ((frame_of old).cells place)))
      → Becomes old new (at_place place (strongly (frame_of old)) (frame_of old))
  strong_before before done = subst (λ m. Becomes old new m)
      (before_is offset size (known_seen value) (λ cell. None) (λ b was. new_byte abstract_sets value (b - offset)) sized refl (frame_of old) (frames_keep_cells old) place before) done

  -- and in it
  pub strong_inside : offset ≤ place → place < offset + size / 8 → place < length old
      → new ≡ slice_set old place (lone_slot (place - offset) size value)
      → Becomes old new (at_place place (strongly (frame_of old)) (frame_of old))
  strong_inside low high there put =
      subst (λ slots. Becomes old slots (at_place place (strongly (frame_of old)) (frame_of old))) (sym put)
      (subst (λ m. Becomes old (slice_set old place (lone_slot (place - offset) size value)) m)
      (inside_is offset size (known_seen value) (λ cell. None) (λ b was. new_byte abstract_sets value (b - offset)) sized refl (frame_of old) (frames_keep_cells old) place low high
      _ _ (ap byte_seen (lone_byte offset size place value sized low)) (lone_cells offset size place value sized low))
      (put_becomes old place (lone_slot (place - offset) size value) there (lone_canonical offset size place value sized low)))

  -- and in it, after the first place
  pub strong_later : offset < place → place < offset + size / 8 → place < length old
      → new ≡ slice_set old place (bare (byte_held (new_byte abstract_sets value (place - offset))))
      → Becomes old new (at_place place (strongly (frame_of old)) (frame_of old))
  strong_later after high there put =
      let far : (place - offset == 0) ≡ false = ne_eqb (place - offset) 0 (λ e. absurd (omega (arith, e, after))) in
      let bare_there : bare (byte_held (new_byte abstract_sets value (place - offset))) ≡ lone_slot (place - offset) size value = rw far refl in
      strong_inside (omega (arith, after)) high there (put ∙ ap (λ (s : HeldSlot). slice_set old place s) bare_there)

-- a strong store at the first place of its cell
module _ (old : List HeldSlot) (offset size : ℕ) (value : AbstractValue) (sized : is_cell_size size ≡ true) (fits : offset + size / 8 ≤ length old) where
  none_past : offset - offset ≡ 0
  none_past = omega arith

  first_inside : offset < offset + size / 8
  first_inside = let bounds = cell_bounds size sized in omega (arith, bounds.0, bounds.1)

  -- where the slot is put
  pub strong_first : (new : List HeldSlot) → new ≡ slice_set old offset (lone_slot 0 size value)
      → Becomes old new (at_place offset (strong abstract_sets (frame_of old) offset size value) (frame_of old))
  strong_first new put =
      strong_inside old new offset size offset value sized (omega arith) first_inside (begins_in offset size (length old) sized fits)
      (put ∙ ap (λ (n : ℕ). slice_set old offset (lone_slot n size value)) (sym none_past))

  -- where it is there
  pub strong_kept : IsStored old offset size value (byte_held (new_byte abstract_sets value 0))
      → Becomes old old (at_place offset (strong abstract_sets (frame_of old) offset size value) (frame_of old))
  strong_kept is = subst (λ m. Becomes old old m)
      (inside_is offset size (known_seen value) (λ cell. None) (λ b was. new_byte abstract_sets value (b - offset)) sized refl (frame_of old) (frames_keep_cells old) offset
      (omega arith) first_inside _ _ same_byte same_cells)
      (same_becomes old offset ((frame_of old).bytes offset) ((frame_of old).cells offset) refl (λ width. refl))
    where
      same_byte : (frame_of old).bytes offset ≡ new_byte abstract_sets value (offset - offset)
      same_byte = byte_found old offset is.slot is.there
          ∙ (ap byte_seen is.lone.same_byte ∙ ap (λ (n : ℕ). new_byte abstract_sets value n) (sym none_past))

      kept : cell_in (Some is.slot) size ≡ Some (known_seen value)
      kept = rw sized (ap cell_seen is.lone.cell)

      no_other : (width : ℕ) → (width == size) ≡ false → cell_in (Some is.slot) width ≡ None
      no_other width differ = by_test (is_cell_size width)
          (λ of_size. rw of_size (ap cell_seen (is.lone.others width of_size (λ e. false≢true (sym differ ∙ eq-eqb width size e)))))
          (λ other. rw other refl)

      by_width : (width : ℕ) → cell_in (Some is.slot) width ≡ (if width == size then Some (known_seen value) else None)
      by_width width = by_test (width == size)
          (λ same. rw same (subst (λ (w : ℕ). cell_in (Some is.slot) w ≡ Some (known_seen value)) (sym (eqb-true width size same)) kept))
          (λ differ. rw differ (no_other width differ))

      same_cells : (width : ℕ) → (frame_of old).cells offset width ≡ (if is_same offset size offset width then Some (known_seen value) else None)
      same_cells width = ap (λ (cells : CellsBySize). cells width) (cells_found old offset is.slot is.there)
          ∙ (by_width width ∙ ap (λ (same : Bool). if same then Some (known_seen value) else None) (sym (same_place offset size offset width (eq-eqb offset offset refl))))

module _ (old new : List HeldSlot) (offset size place : ℕ) (cell : Held) (value : AbstractValue) (sized : is_cell_size size ≡ true) where
  abbrev stored_cell : Cell AbstractValue
  stored_cell = record { value = cell.value; u = cell.u; x = cell.x }

  abbrev weakened : FrameMem abstract_sets → FrameMem abstract_sets
  weakened m = weakly m offset size stored_cell value

  abbrev byte_change : ByteChange
  byte_change b was = weak_byte abstract_sets was (new_byte abstract_sets value (b - offset))

  -- a weak store at a place before its cell
  pub weak_before : place < offset
      → Becomes old new (with_place (frame_of old) place ((frame_of old).bytes place) (wider (with_x abstract_sets) (8 * (offset - place)) ((frame_of old).cells place)))
      → Becomes old new (at_place place (weakened (frame_of old)) (frame_of old))
  weak_before before done = subst (λ m. Becomes old new m)
      (before_is offset size stored_cell (with_x abstract_sets) byte_change sized refl (frame_of old) (frames_keep_cells old) place before) done

  -- and in it
  pub weak_inside : offset ≤ place → place < offset + size / 8 → place < length old
      → IsMixedAt old new place (place - offset) size cell value
      → Becomes old new (at_place place (weakened (frame_of old)) (frame_of old))
  weak_inside low high there is =
      subst (λ slots. Becomes old slots (at_place place (weakened (frame_of old)) (frame_of old))) (sym is.put)
      (subst (λ m. Becomes old (slice_set old place (mixed_slot is.slot (place - offset) size cell value)) m)
      (inside_is offset size stored_cell (with_x abstract_sets) byte_change sized refl (frame_of old) (frames_keep_cells old) place low high
      _ _ same_byte same_cells)
      (put_becomes old place (mixed_slot is.slot (place - offset) size cell value) there (mixed_canonical offset size place value is.slot cell sized low)))
    where
      same_byte : byte_seen (mixed_slot is.slot (place - offset) size cell value).byte ≡ byte_change place ((frame_of old).bytes place)
      same_byte = ap byte_seen (mixed_byte offset size place value is.slot cell sized low)
          ∙ ap (λ b. byte_change place b) (sym (byte_found old place is.slot is.there))

      same_cells : (width : ℕ) → cell_in (Some (mixed_slot is.slot (place - offset) size cell value)) width
          ≡ (if is_same offset size place width then Some stored_cell else with_x abstract_sets ((frame_of old).cells place width))
      same_cells width = mixed_cells offset size place value is.slot cell sized low width
          ∙ ap (λ (cells : CellsBySize). if is_same offset size place width then Some stored_cell else with_x abstract_sets (cells width)) (sym (cells_found old place is.slot is.there))

-- ---- pins

module _ (old new : List HeldSlot) (offset size : ℕ) (value : AbstractValue) (slot : HeldSlot) (sized : is_cell_size size ≡ true)
    (there : slice_get old offset ≡ Some slot) (low : offset < length old) (put : new ≡ slice_set old offset (with_cell slot size (known value))) where
  pin_is : with_place (frame_of old) offset (byte_seen slot.byte) (cell_in (Some (with_cell slot size (known value)))) ≡ pinned abstract_sets (frame_of old) offset size value
  pin_is = λ i. record { bytes = λ b. byte_at b i; cells = λ p width. cell_at p width i }
    where
      byte_at : (b : ℕ) → (if b == offset then byte_seen slot.byte else (frame_of old).bytes b) ≡ (frame_of old).bytes b
      byte_at b = by_test (b == offset)
          (λ here. rw here (sym (ap (frame_of old).bytes (eqb-true b offset here) ∙ byte_found old offset slot there)))
          (λ far. rw far refl)

      cell_at : (p width : ℕ) → (if p == offset then cell_in (Some (with_cell slot size (known value))) width else (frame_of old).cells p width)
          ≡ (pinned abstract_sets (frame_of old) offset size value).cells p width
      cell_at p width = by_test (p == offset)
          (λ here.
          rw here
          (with_cell_cells slot size (known value) width sized
          ∙ ap (λ (cells : CellsBySize). if width == size then Some (known_seen value) else cells width)
          (sym (ap (frame_of old).cells (eqb-true p offset here) ∙ cells_found old offset slot there))))
          (λ far. rw far refl)

  pub pins : Becomes old new (pinned abstract_sets (frame_of old) offset size value)
  pins = subst (λ slots. Becomes old slots (pinned abstract_sets (frame_of old) offset size value)) (sym put)
      (subst (λ m. Becomes old (slice_set old offset (with_cell slot size (known value))) m) pin_is
      (put_becomes old offset (with_cell slot size (known value)) low refl))

-- a pin to what is there changes nothing
pub pinned_before : (m : FrameMem abstract_sets) (offset size : ℕ) (value : AbstractValue)
    → m.cells offset size ≡ Some (known_seen value) → m ≡ pinned abstract_sets m offset size value
pinned_before m offset size value kept = λ i. record { bytes = m.bytes; cells = λ place width. same place width i }
  where
    same : (place width : ℕ) → m.cells place width ≡ (if is_same offset size place width then Some (known_seen value) else m.cells place width)
    same place width = by_test (is_same offset size place width)
        (λ is.
        let parts = and_parts (place == offset) (width == size) is in
        rw is (ap (λ (p : ℕ). m.cells p width) (eqb-true place offset parts.0) ∙ (ap (λ (w : ℕ). m.cells offset w) (eqb-true width size parts.1) ∙ kept)))
        (λ other. rw other refl)
