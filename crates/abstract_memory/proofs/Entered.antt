-- Functions entered.
--   entered_more     one frame more is that of the entered function, or stays
--   entered_kept     the parts after a function is entered are parts of a memory
use Rattle.std.specs.Prelude.{slice_set, get_or, take}
use Rattle.std.proofs.Common.{◌≡◌, ◌∙◌, ap, subst, sym, ℕ, suc, zero, true, List, [], ◌∷◌, map, length, refl, arith, ◌+◌, ◌/◌, ◌<◌}
use Rattle.std.proofs.lemmas.List.{length-replicate}
use Rattle.lists.specs.TestLaws.{by_test}
use Rattle.alf_ops.specs.declared.history.FrameShape.{FrameShape}
use Rattle.alf_ops.specs.Histories.{is_owner}
use Rattle.alf_check.specs.declared.rows.FrameRow.{FrameRow}
use Rattle.alf_check.specs.Shapes.{shapes_of}
use Rattle.memory_pages.specs.Slots.{HeldSlot, bare}
use Rattle.memory_rules.specs.AbstractSets.{abstract_sets}
use Rattle.memory_rules.specs.AbstractSetLaws.{abstract_is_sets}
use Rattle.memory_rules.specs.Memories.{Mem, MemSized, entered}
use Rattle.memory_rules.specs.MemoryProofLaws.{enter_sized}
use Rattle.memory_model.specs.HeldMemories.{held_no_byte, entered_frame, entered_frames, EnteredHeld}
use Rattle.memory_model.specs.KeptMemories.{MemoryParts, memory_in, rows_of, bytes_in, canonical, IsMemory}
use Rattle.abstract_memory.specs.Rows.{shape_of}
use Rattle.abstract_memory.proofs.Started.{blank_canonical, set_length}

none_entered : (function : ℕ) (frames : List (List HeldSlot)) → entered_frames [] function frames ≡ frames
none_entered function [] = refl
none_entered function (slots ∷ frames) = refl

-- one frame more
pub entered_more : (rows : List FrameRow) (frames : List (List HeldSlot)) (function at : ℕ) (row : FrameRow) (slots : List HeldSlot)
    → length frames ≡ length rows → at < length rows
    → slice_set (entered_frames (shapes_of (take at rows)) function frames) at (entered_frame function (shape_of (get_or rows at row)) (get_or (entered_frames (shapes_of (take at rows)) function frames) at slots))
    ≡ entered_frames (shapes_of (take (suc at) rows)) function frames
entered_more [] frames function at row slots same low = absurd (omega arith)
entered_more (first ∷ rows) [] function at row slots same low = absurd (omega arith)
entered_more (first ∷ rows) (own ∷ frames) function zero row slots same low = ap (λ others. entered_frame function (shape_of first) own ∷ others) (sym (none_entered function frames))
entered_more (first ∷ rows) (own ∷ frames) function (suc at) row slots same low =
    ap (λ others. entered_frame function (shape_of first) own ∷ others) (entered_more rows frames function at row slots (omega arith) (omega arith))

-- the step that makes one frame more
pub entered_step : (rows : List FrameRow) (old now : List (List HeldSlot)) (function at : ℕ) (row : FrameRow) (slots after : List HeldSlot)
    → length old ≡ length rows → at < length rows → now ≡ entered_frames (shapes_of (take at rows)) function old
    → row ≡ get_or rows at row → after ≡ entered_frame function (shape_of row) (get_or now at slots)
    → slice_set now at after ≡ entered_frames (shapes_of (take (at + 1) rows)) function old
entered_step rows old now function at row slots after same low so_far row_is is =
    let before = entered_frames (shapes_of (take at rows)) function old in
    let own : after ≡ entered_frame function (shape_of (get_or rows at row)) (get_or before at slots) =
    is ∙ (ap (λ (r : FrameRow). entered_frame function (shape_of r) (get_or now at slots)) row_is
    ∙ ap (λ (xs : List (List HeldSlot)). entered_frame function (shape_of (get_or rows at row)) (get_or xs at slots)) so_far) in
    ap (λ (xs : List (List HeldSlot)). slice_set xs at after) so_far ∙ (ap (slice_set before at) own ∙ (entered_more rows old function at row slots same low
    ∙ ap (λ (n : ℕ). entered_frames (shapes_of (take n rows)) function old) (let e : suc at ≡ at + 1 = omega arith in e)))

frame_count : (function : ℕ) (row : FrameShape) (slots : List HeldSlot) → length slots ≡ bytes_in row
    → length (entered_frame function row slots) ≡ bytes_in row
frame_count function row slots count = by_test (is_owner row.owner function)
    (λ own. rw own (length-replicate (row.bits / 8) (bare held_no_byte)))
    (λ other. rw other count)

frame_canonical : (function : ℕ) (row : FrameShape) (slots : List HeldSlot) → map canonical slots ≡ slots
    → map canonical (entered_frame function row slots) ≡ entered_frame function row slots
frame_canonical function row slots is = by_test (is_owner row.owner function)
    (λ own. rw own (blank_canonical (row.bits / 8)))
    (λ other. rw other is)

counts : (rows : List FrameShape) (frames : List (List HeldSlot)) (function : ℕ) → map length frames ≡ map bytes_in rows
    → map length (entered_frames rows function frames) ≡ map bytes_in rows
counts [] frames function same = ap (λ f. map length f) (none_entered function frames) ∙ same
counts (row ∷ rows) [] function same = cc
counts (row ∷ rows) (slots ∷ frames) function same =
    let first : length slots ≡ bytes_in row = cc in
    let left : map length frames ≡ map bytes_in rows = cc in
    ap (λ (n : ℕ). n ∷ map length (entered_frames rows function frames)) (frame_count function row slots first)
    ∙ ap (λ ns. bytes_in row ∷ ns) (counts rows frames function left)

all_canonical : (rows : List FrameShape) (frames : List (List HeldSlot)) (function : ℕ)
    → map (map canonical) frames ≡ frames
    → map (map canonical) (entered_frames rows function frames) ≡ entered_frames rows function frames
all_canonical [] frames function is = ap (λ f. map (map canonical) f) (none_entered function frames) ∙ (is ∙ sym (none_entered function frames))
all_canonical (row ∷ rows) [] function is = refl
all_canonical (row ∷ rows) (slots ∷ frames) function is =
    let first : map canonical slots ≡ slots = cc in
    let left : map (map canonical) frames ≡ frames = cc in
    ap (λ x. x ∷ map (map canonical) (entered_frames rows function frames)) (frame_canonical function row slots first)
    ∙ ap (λ xs. entered_frame function row slots ∷ xs) (all_canonical rows frames function left)

-- as many frames as rows
pub as_many : (rows : List FrameRow) (frames : List (List HeldSlot)) → map length frames ≡ map bytes_in (shapes_of rows)
    → length frames ≡ length rows
as_many [] [] same = refl
as_many [] (slots ∷ frames) same = cc
as_many (row ∷ rows) [] same = cc
as_many (row ∷ rows) (slots ∷ frames) same =
    let left : map length frames ≡ map bytes_in (shapes_of rows) = cc in
    ap (λ (n : ℕ). suc n) (as_many rows frames left)

length_shapes : (rows : List FrameRow) → length (shapes_of rows) ≡ length rows
length_shapes [] = refl
length_shapes (row ∷ rows) = ap (λ (n : ℕ). suc n) (length_shapes rows)

module _ (parts : MemoryParts) (function : ℕ) (is : IsMemory parts) (low : function < length parts.running) (law : EnteredHeld) where
  abbrev after : MemoryParts
  after = record {
    checked = parts.checked;
    running = slice_set parts.running function true;
    frames = entered_frames (rows_of parts.checked) function parts.frames;
  }

  pub entered_is : memory_in after ≡ entered abstract_sets (rows_of parts.checked) (memory_in parts) function
  entered_is =
      law (rows_of parts.checked) parts.running parts.frames function low
      (as_many parts.checked.frames parts.frames is.frames ∙ sym (length_shapes parts.checked.frames))

  pub entered_kept : IsMemory after
  entered_kept = record {
    running = set_length parts.running function true ∙ is.running;
    frames = counts (rows_of parts.checked) parts.frames function is.frames;
    canonical = all_canonical (rows_of parts.checked) parts.frames function is.canonical;
    sized = subst (λ (m : Mem abstract_sets). MemSized abstract_sets m) (sym entered_is)
        (enter_sized abstract_sets abstract_is_sets (rows_of parts.checked) (memory_in parts) function is.sized);
  }

  abbrev with_frames : List (List HeldSlot) → MemoryParts
  with_frames frames = record { checked = parts.checked; running = slice_set parts.running function true; frames = frames }

  -- the same of frames that are those
  pub kept_with : (frames : List (List HeldSlot))
      → frames ≡ entered_frames (rows_of parts.checked) function parts.frames → IsMemory (with_frames frames)
  kept_with frames same = subst (λ (f : List (List HeldSlot)). IsMemory (with_frames f)) (sym same) entered_kept

  pub is_with : (frames : List (List HeldSlot)) → frames ≡ entered_frames (rows_of parts.checked) function parts.frames
      → memory_in (with_frames frames) ≡ entered abstract_sets (rows_of parts.checked) (memory_in parts) function
  is_with frames same = ap (λ (f : List (List HeldSlot)). memory_in (with_frames f)) same ∙ entered_is
