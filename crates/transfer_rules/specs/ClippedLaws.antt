-- Laws of clipped.
--   clip_within             nothing lies outside
--   made_clipped            the parts made of it are those made of the memory
--   clip_sized, clip_covers, clip_sharp   it has the sizes, and covers each history inside the frames that the memory covers
--   clip_runs   the same functions run, where none from the number on does
use Rattle.std.specs.Prelude.{nat_lt, nat_le, ◌&&◌, ◌==◌, slice_get}
use Rattle.std.specs.List.{list_all}
use Rattle.std.proofs.Common.{◌≡◌, inl, ℕ, zero, suc, Bool, true, false, List, [], ◌∷◌, map, Option, Some, None, ◌<◌, ◌≤◌, ◌+◌, ◌*◌, ◌/◌, ◌%◌, refl, sym, ap, subst, ◌∙◌, arith}
use Rattle.std.proofs.lemmas.Bool.{and_from, eq-eqb, lt-ltb, le-leb, leb-true, ltb-true, ltb-false}
use Rattle.lists.specs.TestLaws.{by_test}
use Rattle.alf_ops.specs.declared.history.FrameShape.{FrameShape}
use Rattle.alf_ops.specs.declared.history.RunEvent.{RunEvent}
use Rattle.alf_ops.specs.Histories.{Byte, offsets, is_from, cell_in, origin, fits_in}
use Rattle.alf_check.specs.CheckedPrograms.{CheckedParts}
use Rattle.memory_rules.specs.Frames.{FrameMem, AbstractByte, taken, results}
use Rattle.memory_rules.specs.Covers.{IsCellSize, Among, FrameCovers, FrameSized}
use Rattle.memory_rules.specs.Sharp.{Exactly, FrameSharp}
use Rattle.memory_rules.specs.Memories.{Mem, is_on, MemCovers, MemSharp, MemSized}
use Rattle.memory_rules.specs.AbstractSets.{abstract_sets}
use Rattle.strided_rules.specs.Strides.{Stride}
use Rattle.memory_model.specs.HeldFrames.{is_cell_size}
use Rattle.memory_model.specs.KeptMemories.{rows_of, functions_of, bytes_in}
use Rattle.memory_model.specs.Made.{slot_at, slots_of, frames_from, made}
use Rattle.memory_model.specs.Within.{bytes_at, IsFrameWithin, IsWithin}
use Rattle.transfer_rules.specs.Inside.{IsInside}
use Rattle.transfer_rules.specs.InsideLaws.{outside}
use Rattle.transfer_rules.specs.Clipped.{clip_frame, clipped}

-- ---- nothing lies outside

not_less : (n count : ℕ) → count ≤ n → nat_lt n count ≡ false
not_less n count past = by_test (nat_lt n count) (λ e. absurd (let low : n < count = ltb-true n count e in omega (arith, low, past))) (λ e. e)

frame_within : (count : ℕ) (f : FrameMem abstract_sets) → IsFrameWithin count (clip_frame count f)
frame_within count f = record {
  bytes = λ byte past. rw (not_less byte count past) refl;
  cells = λ offset size past. rw (not_less offset count past) refl;
  sizes = λ offset size other. by_test (nat_lt offset count) (λ low. rw (low, other) refl) (λ past. rw past refl);
}

pub clip_within : (count : ℕ) (rows : List FrameShape) (m : Mem abstract_sets)
    → IsWithin count rows (clipped count rows m)
clip_within count rows m = record {
  runs = λ function past. rw (not_less function count past) refl;
  frames = λ frame. frame_within (bytes_at (slice_get rows frame)) (m.frames frame);
}

-- ---- what is made of it

same_off : {A : Type 0} (g h : ℕ → A) (from n last : ℕ) → from + n ≤ last → ((i : ℕ) → i < last → g i ≡ h i)
    → map g (offsets from n) ≡ map h (offsets from n)
same_off g h from zero last within same = refl
same_off g h from (suc n) last within same =
    ap (λ y. y ∷ map g (offsets (suc from) n)) (same from (omega (arith, within)))
    ∙ ap (λ ys. h from ∷ ys) (same_off g h (suc from) n last (omega (arith, within)) same)

slot_same : (count : ℕ) (f : FrameMem abstract_sets) (place : ℕ) → place < count
    → slot_at (clip_frame count f) place ≡ slot_at f place
slot_same count f place low = rw (lt-ltb place count low) refl

slots_same : (count : ℕ) (f : FrameMem abstract_sets) → slots_of count (clip_frame count f) ≡ slots_of count f
slots_same count f = same_off (slot_at (clip_frame count f)) (slot_at f) 0 count count (omega arith) (slot_same count f)

frames_same : (f g : ℕ → FrameMem abstract_sets) (from : ℕ) (rows : List FrameShape)
    → ((frame : ℕ) (row : FrameShape) → slice_get rows frame ≡ Some row → slots_of (bytes_in row) (g (from + frame)) ≡ slots_of (bytes_in row) (f (from + frame)))
    → frames_from g from rows ≡ frames_from f from rows
frames_same f g from [] same = refl
frames_same f g from (row ∷ rows) same =
    let e : from + 0 ≡ from = omega arith in
    let head : slots_of (bytes_in row) (g from) ≡ slots_of (bytes_in row) (f from) =
    subst (λ (n : ℕ). slots_of (bytes_in row) (g n) ≡ slots_of (bytes_in row) (f n)) e (same 0 row refl) in
    let tail = frames_same f g (suc from) rows (λ frame other found.
    let later : from + suc frame ≡ suc from + frame = omega arith in
    subst (λ (n : ℕ). slots_of (bytes_in other) (g n) ≡ slots_of (bytes_in other) (f n)) later (same (suc frame) other found)) in
    ap (λ x. x ∷ frames_from g (suc from) rows) head ∙ ap (λ xs. slots_of (bytes_in row) (f from) ∷ xs) tail

pub made_clipped : (checked : CheckedParts) (m : Mem abstract_sets)
    → made checked (clipped (functions_of checked) (rows_of checked) m) ≡ made checked m
made_clipped checked m = λ i. record { checked = checked; running = running i; frames = frames i }
  where
    running : map (clipped (functions_of checked) (rows_of checked) m).runs (offsets 0 (functions_of checked)) ≡ map m.runs (offsets 0 (functions_of checked))
    running = same_off (clipped (functions_of checked) (rows_of checked) m).runs m.runs 0 (functions_of checked) (functions_of checked) (omega arith)
        (λ function low. rw (lt-ltb function (functions_of checked) low) refl)

    frames : frames_from (clipped (functions_of checked) (rows_of checked) m).frames 0 (rows_of checked) ≡ frames_from m.frames 0 (rows_of checked)
    frames = frames_same m.frames (clipped (functions_of checked) (rows_of checked) m).frames 0 (rows_of checked) (λ frame row found.
        let e : 0 + frame ≡ frame = omega arith in
        subst (λ (n : ℕ). slots_of (bytes_in row) (clip_frame (bytes_at (slice_get (rows_of checked) n)) (m.frames n)) ≡ slots_of (bytes_in row) (m.frames n)) (sym e)
        (subst (λ (o : Option FrameShape). slots_of (bytes_in row) (clip_frame (bytes_at o) (m.frames frame)) ≡ slots_of (bytes_in row) (m.frames frame)) (sym found)
        (slots_same (bytes_in row) (m.frames frame))))

-- ---- sizes

frame_sized : (count : ℕ) (f : FrameMem abstract_sets) → FrameSized abstract_sets f
    → FrameSized abstract_sets (clip_frame count f)
frame_sized count f sized = record {
  bytes = λ byte. by_test (nat_lt byte count) (λ low. rw low (sized.bytes byte)) (λ past. rw past tt);
  kept = λ offset size cell at. by_test (nat_lt offset count && is_cell_size size)
      (λ here. sized.kept offset size cell (rw here at at))
      (λ none. let bad : None ≡ Some cell = rw none at at in cc);
}

pub clip_sized : (count : ℕ) (rows : List FrameShape) (m : Mem abstract_sets) → MemSized abstract_sets m
    → MemSized abstract_sets (clipped count rows m)
clip_sized count rows m sized frame = frame_sized (bytes_at (slice_get rows frame)) (m.frames frame) (sized frame)

-- ---- what it covers

cell_size : (size : ℕ) → IsCellSize size → is_cell_size size ≡ true
cell_size size is = and_from (size % 8 == 0) (nat_lt 0 size && nat_le size 64) (eq-eqb (size % 8) 0 is.1)
    (and_from (nat_lt 0 size) (nat_le size 64) (lt-ltb 0 size (let some : 0 < size / 8 = is.0 in omega (arith, some))) (le-leb size 64 is.2))

-- the cell lies in the frame
cell_low : (bits offset size : ℕ) → IsCellSize size → fits_in bits offset size ≡ true → offset + size / 8 ≤ bits / 8
cell_low bits offset size is fits =
    let room : offset * 8 + size ≤ bits = leb-true (offset * 8 + size) bits fits in
    let whole : size % 8 ≡ 0 = is.1 in omega (arith, room, whole)

here : (count : ℕ) (f : FrameMem abstract_sets) (offset size : ℕ) → IsCellSize size → offset < count
    → (clip_frame count f).cells offset size ≡ f.cells offset size
here count f offset size is low = rw (lt-ltb offset count low, cell_size size is) refl

taken_same : (count : ℕ) (f : FrameMem abstract_sets) (offset size : ℕ) → offset + size / 8 ≤ count
    → taken abstract_sets (clip_frame count f) offset size ≡ taken abstract_sets f offset size
taken_same count f offset size within =
    same_off (clip_frame count f).bytes f.bytes offset (size / 8) count within (λ byte low. rw (lt-ltb byte count low) refl)

not_whole : (from : ℕ → Option Byte) (offset size n : ℕ) → 0 < n → from offset ≡ None
    → list_all (is_from offset size) (map from (offsets offset n)) ≡ false
not_whole from offset size zero some none = absurd (omega (arith, some))
not_whole from offset size (suc n) some none = rw none refl

-- nothing comes from a store past the end
abbrev IsOutside : ℕ → (ℕ → Option Byte) → Type 0
IsOutside bits from = (byte : ℕ) → bits / 8 ≤ byte → from byte ≡ None

frame_covers : (bits : ℕ) (f : FrameMem abstract_sets) (from : ℕ → Option Byte) → IsOutside bits from
    → FrameCovers abstract_sets bits f from → FrameCovers abstract_sets bits (clip_frame (bits / 8) f) from
frame_covers bits f from none c = record {
  bytes = λ byte. by_test (nat_lt byte (bits / 8))
      (λ low. rw low (c.bytes byte))
      (λ past. rw (past, none byte (ltb-false byte (bits / 8) past)) refl);
  kept = λ offset size cell at is fits.
      let within = cell_low bits offset size is fits in
      let low : offset < bits / 8 = (let some : 0 < size / 8 = is.0 in omega (arith, within, some)) in
      subst (λ (bytes : List (AbstractByte Stride)). Among abstract_sets (cell_in from offset size) (results abstract_sets bytes cell)) (sym (taken_same (bits / 8) f offset size within))
      (c.kept offset size cell (sym (here (bits / 8) f offset size is low) ∙ at) is fits);
  others = λ offset size at is. by_test (nat_lt offset (bits / 8))
      (λ low. c.others offset size (sym (here (bits / 8) f offset size is (ltb-true offset (bits / 8) low)) ∙ at) is)
      (λ past. not_whole from offset size (size / 8) is.0 (none offset (ltb-false offset (bits / 8) past)));
}

frame_sharp : (bits : ℕ) (f : FrameMem abstract_sets) (from : ℕ → Option Byte) → IsOutside bits from
    → FrameSharp abstract_sets bits f from → FrameSharp abstract_sets bits (clip_frame (bits / 8) f) from
frame_sharp bits f from none s = record {
  covers = frame_covers bits f from none s.covers;
  bytes = λ byte. by_test (nat_lt byte (bits / 8))
      (λ low. rw low (s.bytes byte))
      (λ past. rw past (inl (refl, refl, refl)));
  kept = λ offset size cell at is fits.
      let within = cell_low bits offset size is fits in
      let low : offset < bits / 8 = (let some : 0 < size / 8 = is.0 in omega (arith, within, some)) in
      subst (λ (bytes : List (AbstractByte Stride)). Exactly abstract_sets (cell_in from offset size) (results abstract_sets bytes cell)) (sym (taken_same (bits / 8) f offset size within))
      (s.kept offset size cell (sym (here (bits / 8) f offset size is low) ∙ at) is fits);
}

-- the same functions run, where none from the number on does
pub clip_runs : (count : ℕ) (rows : List FrameShape) (m : Mem abstract_sets)
    → ((function : ℕ) → m.runs function ≡ true → function < count) → (clipped count rows m).runs ≡ m.runs
clip_runs count rows m low = λ i function. same function i
  where
    same : (function : ℕ) → (clipped count rows m).runs function ≡ m.runs function
    same function = by_test (nat_lt function count)
        (λ e. rw e refl)
        (λ e. by_test (m.runs function)
        (λ on. absurd (let past : count ≤ function = ltb-false function count e in let below = low function on in omega (arith, past, below)))
        (λ off. rw (e, off) refl))

module _ (count : ℕ) (rows : List FrameShape) (m : Mem abstract_sets) (history : List RunEvent) (low : (function : ℕ) → m.runs function ≡ true → function < count) (inside : IsInside rows history) where
  past_end : (frame : ℕ) (row : FrameShape) → slice_get rows frame ≡ Some row
      → IsOutside row.bits (origin row.owner frame history)
  past_end frame row found byte past = outside rows row frame byte history found past inside

  pub clip_covers : MemCovers abstract_sets rows m history → MemCovers abstract_sets rows (clipped count rows m) history
  clip_covers c = record {
    active = λ owner. c.active owner ∙ ap (λ (runs : ℕ → Bool). is_on runs owner) (sym (clip_runs count rows m low));
    frames = λ frame row found runs.
        subst (λ (o : Option FrameShape). FrameCovers abstract_sets row.bits (clip_frame (bytes_at o) (m.frames frame)) (origin row.owner frame history)) (sym found)
        (frame_covers row.bits (m.frames frame) (origin row.owner frame history) (past_end frame row found) (c.frames frame row found runs));
  }

  pub clip_sharp : MemSharp abstract_sets rows m history → MemSharp abstract_sets rows (clipped count rows m) history
  clip_sharp s = record {
    active = λ owner. s.active owner ∙ ap (λ (runs : ℕ → Bool). is_on runs owner) (sym (clip_runs count rows m low));
    frames = λ frame row found runs.
        subst (λ (o : Option FrameShape). FrameSharp abstract_sets row.bits (clip_frame (bytes_at o) (m.frames frame)) (origin row.owner frame history)) (sym found)
        (frame_sharp row.bits (m.frames frame) (origin row.owner frame history) (past_end frame row found) (s.frames frame row found runs));
  }
