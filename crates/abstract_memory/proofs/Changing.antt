-- Frames of which some are changed.
--   at_frame          what the call on one frame wants: its slots, the end of the cell, and sizes
--   set_changes       one frame is changed
--   MixedSo           after stores to some of the possible cells
--   mixed_more, all_mixed
--   changed_kept      the parts of a memory stay parts of one
use Rattle.std.specs.Prelude.{slice_get, slice_set, get_or, ◌==◌}
use Rattle.std.proofs.Common.{Bool, ◌≡◌, ◌∙◌, ap, subst, sym, ℕ, suc, zero, List, [], ◌∷◌, map, length, refl, arith, ◌+◌, ◌/◌, ◌<◌, ◌≤◌}
use Rattle.lists.specs.TestLaws.{by_test}
use Rattle.pointer_rules.specs.AbstractValues.{AbstractValue}
use Rattle.memory_pages.specs.Slots.{HeldSlot}
use Rattle.memory_pages.specs.Pages.{list_or}
use Rattle.memory_rules.specs.AbstractSets.{abstract_sets}
use Rattle.memory_rules.specs.Covers.{FrameSized}
use Rattle.memory_rules.specs.Frames.{FrameMem}
use Rattle.memory_rules.specs.Memories.{Mem, with_frame, strong_at, stored, weak_at, weak_all}
use Rattle.memory_model.specs.HeldFrames.{frame_of}
use Rattle.memory_model.specs.HeldMemories.{memory_of, FrameHeld}
use Rattle.memory_model.specs.KeptMemories.{MemoryParts, canonical, IsMemory}
use Rattle.abstract_memory.specs.Cells.{count_or, Fits, AllFit, AreSized, Changes}

-- ---- one frame

frames_at : (frames : List (List HeldSlot)) (i : ℕ) (own : List HeldSlot) → i < length frames
    → own ≡ get_or frames i own → list_or (slice_get frames i) ≡ own
frames_at [] i own low is = absurd (omega arith)
frames_at (slots ∷ frames) zero own low is = sym is
frames_at (slots ∷ frames) (suc i) own low is = frames_at frames i own (omega arith) is

length_lengths : (frames : List (List HeldSlot)) → length (map length frames) ≡ length frames
length_lengths [] = refl
length_lengths (slots ∷ frames) = ap (λ (n : ℕ). suc n) (length_lengths frames)

count_is : (frames : List (List HeldSlot)) (i : ℕ)
    → count_or (slice_get (map length frames) i) ≡ length (list_or (slice_get frames i))
count_is [] i = refl
count_is (slots ∷ frames) zero = refl
count_is (slots ∷ frames) (suc i) = count_is frames i

-- the frame of a cell is there
pub there : (frames : List (List HeldSlot)) (size : ℕ) (cell : ℕ × ℕ) → Fits (map length frames) size cell
    → cell.0 < length frames
there frames size cell fits = subst (λ (n : ℕ). cell.0 < n) (length_lengths frames) fits.frame

-- and the cell ends in it
pub ends : (frames : List (List HeldSlot)) (size : ℕ) (cell : ℕ × ℕ) (own : List HeldSlot)
    → Fits (map length frames) size cell → own ≡ get_or frames cell.0 own
    → cell.1 + size / 8 ≤ length own
ends frames size cell own fits is =
    subst (λ (n : ℕ). cell.1 + size / 8 ≤ n) (count_is frames cell.0 ∙ ap (λ (s : List HeldSlot). length s) (frames_at frames cell.0 own (there frames size cell fits) is)) fits.end

pub own_sized : (frames : List (List HeldSlot)) (size : ℕ) (cell : ℕ × ℕ) (own : List HeldSlot)
    → Fits (map length frames) size cell → own ≡ get_or frames cell.0 own
    → AreSized frames → FrameSized abstract_sets (frame_of own)
own_sized frames size cell own fits is sized =
    subst (λ (s : List HeldSlot). FrameSized abstract_sets (frame_of s)) (frames_at frames cell.0 own (there frames size cell fits) is) (sized cell.0)

pub own_frame : (frames : List (List HeldSlot)) (size : ℕ) (cell : ℕ × ℕ) (own : List HeldSlot)
    → Fits (map length frames) size cell → own ≡ get_or frames cell.0 own
    → (running : List Bool) → frame_of own ≡ (memory_of running frames).frames cell.0
own_frame frames size cell own fits is running = ap frame_of (sym (frames_at frames cell.0 own (there frames size cell fits) is))

-- ---- one frame changed

set_lengths : (frames : List (List HeldSlot)) (i : ℕ) (slots : List HeldSlot)
    → length slots ≡ length (list_or (slice_get frames i)) → map length (slice_set frames i slots) ≡ map length frames
set_lengths [] i slots same = refl
set_lengths (own ∷ frames) zero slots same = ap (λ (n : ℕ). n ∷ map length frames) same
set_lengths (own ∷ frames) (suc i) slots same = ap (λ ns. length own ∷ ns) (set_lengths frames i slots same)

set_canonical : (frames : List (List HeldSlot)) (i : ℕ) (slots : List HeldSlot)
    → (map canonical (list_or (slice_get frames i)) ≡ list_or (slice_get frames i) → map canonical slots ≡ slots)
    → map (map canonical) frames ≡ frames → map (map canonical) (slice_set frames i slots) ≡ slice_set frames i slots
set_canonical [] i slots own is = refl
set_canonical (first ∷ frames) zero slots own is =
    let here : map canonical first ≡ first = cc in
    let left : map (map canonical) frames ≡ frames = cc in
    ap (λ x. x ∷ map (map canonical) frames) (own here) ∙ ap (λ xs. slots ∷ xs) left
set_canonical (first ∷ frames) (suc i) slots own is =
    let here : map canonical first ≡ first = cc in
    let left : map (map canonical) frames ≡ frames = cc in
    ap (λ x. x ∷ map (map canonical) (slice_set frames i slots)) here ∙ ap (λ xs. first ∷ xs) (set_canonical frames i slots own left)

pub set_changes : (law : FrameHeld) (frames : List (List HeldSlot)) (frame : ℕ) (own slots : List HeldSlot) (g : FrameMem abstract_sets → FrameMem abstract_sets)
    → frame < length frames → own ≡ get_or frames frame own → frame_of slots ≡ g (frame_of own) → length slots ≡ length own
    → (map canonical own ≡ own → map canonical slots ≡ slots)
    → (FrameSized abstract_sets (frame_of own) → FrameSized abstract_sets (g (frame_of own)))
    → Changes frames (slice_set frames frame slots) (λ m. with_frame abstract_sets m frame (g (m.frames frame)))
set_changes law frames frame own slots g low is stored count canon sized =
    let got = frames_at frames frame own low is in
    record {
      memory = λ running.
          law running frames frame slots low
          ∙ ap (with_frame abstract_sets (memory_of running frames) frame) (stored ∙ ap (λ (s : List HeldSlot). g (frame_of s)) (sym got));
      lengths = set_lengths frames frame slots (count ∙ ap (λ (s : List HeldSlot). length s) (sym got));
      canonical = set_canonical frames frame slots (λ here. canon (subst (λ (s : List HeldSlot). map canonical s ≡ s) got here));
      sized = λ all other.
          subst (FrameSized abstract_sets) (sym (ap (λ (m : Mem abstract_sets). m.frames other) (law [] frames frame slots low)))
          (by_test (other == frame)
          (λ here. rw here (subst (FrameSized abstract_sets) (sym stored) (sized (subst (λ (s : List HeldSlot). FrameSized abstract_sets (frame_of s)) got (all frame)))))
          (λ apart. rw apart (all other)));
    }

-- the same, where the frame before is told by its place
pub set_changes_or : (law : FrameHeld) (frames : List (List HeldSlot)) (frame : ℕ) (own slots : List HeldSlot) (g : FrameMem abstract_sets → FrameMem abstract_sets)
    → frame < length frames → own ≡ get_or frames frame own → frame_of slots ≡ g (frame_of (get_or frames frame own)) → length slots ≡ length (get_or frames frame own)
    → (map canonical (get_or frames frame own) ≡ get_or frames frame own → map canonical slots ≡ slots)
    → (FrameSized abstract_sets (frame_of own) → FrameSized abstract_sets (g (frame_of own)))
    → Changes frames (slice_set frames frame slots) (λ m. with_frame abstract_sets m frame (g (m.frames frame)))
set_changes_or law frames frame own slots g low is stored count canon sized =
    set_changes law frames frame own slots g low is (stored ∙ ap (λ (s : List HeldSlot). g (frame_of s)) (sym is)) (count ∙ ap (λ (s : List HeldSlot). length s) (sym is))
    (λ here. canon (subst (λ (s : List HeldSlot). map canonical s ≡ s) is here)) sized

-- ---- several cells

-- after stores to some of the possible cells, where those of rest are left
pub record MixedSo (old frames : List (List HeldSlot)) (cells rest : List (ℕ × ℕ)) (size : ℕ)
    (value : AbstractValue) : Type 0 where
  pub memory : (running : List Bool) → weak_all abstract_sets (memory_of running frames) rest size value ≡ weak_all abstract_sets (memory_of running old) cells size value
  pub lengths : map length frames ≡ map length old
  pub canonical : map (map canonical) old ≡ old → map (map canonical) frames ≡ frames
  pub sized : AreSized frames
  pub fit : AllFit (map length frames) size rest

module _ (old : List (List HeldSlot)) (cells : List (ℕ × ℕ)) (size : ℕ) (value : AbstractValue) where
  pub none_mixed : AllFit (map length old) size cells → AreSized old → MixedSo old old cells cells size value
  none_mixed fit sized = record { memory = λ running. refl; lengths = refl; canonical = λ is. is; sized = sized; fit = fit }

  pub mixed_more : (frames next : List (List HeldSlot)) (rest others : List (ℕ × ℕ)) (cell : ℕ × ℕ)
      → rest ≡ cell ∷ others → MixedSo old frames cells rest size value
      → Changes frames next (λ m. weak_at abstract_sets m cell size value) → MixedSo old next cells others size value
  mixed_more frames next rest others cell is so changes =
      let own = subst (λ (list : List (ℕ × ℕ)). MixedSo old frames cells list size value) is so in
      record {
        memory = λ running. ap (λ (m : Mem abstract_sets). weak_all abstract_sets m others size value) (changes.memory running) ∙ own.memory running;
        lengths = changes.lengths ∙ own.lengths;
        canonical = λ before. changes.canonical (own.canonical before);
        sized = changes.sized own.sized;
        fit = subst (λ (lengths : List ℕ). AllFit lengths size others) (sym changes.lengths) own.fit.1;
      }

  pub all_mixed : (frames : List (List HeldSlot)) (rest : List (ℕ × ℕ)) → rest ≡ []
      → MixedSo old frames cells rest size value
      → Changes old frames (λ m. weak_all abstract_sets m cells size value)
  all_mixed frames rest none so =
      let own = subst (λ (list : List (ℕ × ℕ)). MixedSo old frames cells list size value) none so in
      record { memory = own.memory; lengths = own.lengths; canonical = own.canonical; sized = λ before. own.sized }

-- ---- one cell or several

one_alone : (cells : List (ℕ × ℕ)) (x : ℕ × ℕ) → 1 ≤ length cells → length cells < 2 → get_or cells 0 x ∷ [] ≡ cells
one_alone [] x some few = absurd (omega arith)
one_alone (cell ∷ []) x some few = refl
one_alone (cell ∷ other ∷ cells) x some few = absurd (omega arith)

-- the one possible cell
pub alone_changes : (old new : List (List HeldSlot)) (cells : List (ℕ × ℕ)) (x : ℕ × ℕ) (size : ℕ) (value : AbstractValue) → 1 ≤ length cells → length cells < 2
    → Changes old new (λ m. strong_at abstract_sets m (get_or cells 0 x) size value) → Changes old new (λ m. stored abstract_sets m cells size value)
alone_changes old new cells x size value some few changes = record {
  memory = λ running. changes.memory running ∙ ap (λ (list : List (ℕ × ℕ)). stored abstract_sets (memory_of running old) list size value) (one_alone cells x some few);
  lengths = changes.lengths;
  canonical = changes.canonical;
  sized = changes.sized;
}

many_are_weak : (m : Mem abstract_sets) (cells : List (ℕ × ℕ)) (size : ℕ) (value : AbstractValue) → 2 ≤ length cells
    → weak_all abstract_sets m cells size value ≡ stored abstract_sets m cells size value
many_are_weak m [] size value some = absurd (omega arith)
many_are_weak m (cell ∷ []) size value some = absurd (omega arith)
many_are_weak m (cell ∷ other ∷ cells) size value some = refl

-- several possible cells
pub many_change : (old new : List (List HeldSlot)) (cells : List (ℕ × ℕ)) (size : ℕ) (value : AbstractValue)
    → 2 ≤ length cells
    → Changes old new (λ m. weak_all abstract_sets m cells size value) → Changes old new (λ m. stored abstract_sets m cells size value)
many_change old new cells size value some changes = record {
  memory = λ running. changes.memory running ∙ many_are_weak (memory_of running old) cells size value some;
  lengths = changes.lengths;
  canonical = changes.canonical;
  sized = changes.sized;
}

-- ---- parts

-- the parts of a memory stay parts of one
pub changed_kept : (parts : MemoryParts) (frames : List (List HeldSlot)) (f : Mem abstract_sets → Mem abstract_sets)
    → IsMemory parts → Changes parts.frames frames f
    → IsMemory (record { checked = parts.checked; running = parts.running; frames = frames })
changed_kept parts frames f is changes = record {
  running = is.running;
  frames = changes.lengths ∙ is.frames;
  canonical = changes.canonical is.canonical;
  sized = changes.sized is.sized;
}
