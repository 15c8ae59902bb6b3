-- Memories joined.
--   are_frames    the frames of a memory are frames of its rows
--   joined_parts  the frames joined one by one are those of the join
use Rattle.std.specs.Prelude.{slice_get}
use Rattle.std.proofs.Common.{◌≡◌, ◌∙◌, ap, subst, sym, ℕ, suc, List, [], ◌∷◌, map, length, refl}
use Rattle.alf_check.specs.declared.rows.FrameRow.{FrameRow}
use Rattle.alf_check.specs.Shapes.{shapes_of}
use Rattle.alf_check.specs.CheckedPrograms.{CheckedParts}
use Rattle.memory_pages.specs.Slots.{HeldSlot}
use Rattle.memory_pages.specs.Pages.{list_or}
use Rattle.memory_rules.specs.AbstractSets.{abstract_sets}
use Rattle.memory_rules.specs.AbstractSetLaws.{abstract_is_sets}
use Rattle.memory_rules.specs.Covers.{FrameSized}
use Rattle.memory_rules.specs.Frames.{joined as joined_frame}
use Rattle.memory_rules.specs.Memories.{Mem, MemSized, both}
use Rattle.memory_rules.specs.MemoryProofLaws.{join_sized}
use Rattle.memory_model.specs.HeldFrames.{frame_of}
use Rattle.memory_model.specs.HeldMemories.{joined_slot, joined_slots, joined_frames, JoinedHeld}
use Rattle.memory_model.specs.KeptMemories.{MemoryParts, memory_in, rows_of, bytes_in, canonical, IsMemory}
use Rattle.memory_model.specs.Made.{made}
use Rattle.memory_model.specs.ReadOffLaws.{length_off}
use Rattle.memory_model.specs.KeptMemoryLaws.{canonical_off, parts_are}
use Rattle.memory_model.specs.SeenOrders.{AreAlike, joined}
use Rattle.abstract_memory.specs.Rows.{AreFrames}

-- the frames of a memory are frames of its rows
pub are_frames : (rows : List FrameRow) (frames : List (List HeldSlot))
    → map length frames ≡ map bytes_in (shapes_of rows) → map (map canonical) frames ≡ frames
    → ((frame : ℕ) → FrameSized abstract_sets (frame_of (list_or (slice_get frames frame)))) → AreFrames rows frames
are_frames [] [] same is sized = tt
are_frames [] (slots ∷ frames) same is sized = cc
are_frames (row ∷ rows) [] same is sized = cc
are_frames (row ∷ rows) (slots ∷ frames) same is sized =
    let count : length slots ≡ bytes_in (record { owner = row.owner; bits = row.bits }) = cc in
    let left : map length frames ≡ map bytes_in (shapes_of rows) = cc in
    let first : map canonical slots ≡ slots = cc in
    let others : map (map canonical) frames ≡ frames = cc in
    (record { count = count; canonical = first; sized = sized 0 }, are_frames rows frames left others (λ frame. sized (suc frame)))

counts : (a b : List (List HeldSlot)) → map length a ≡ map length b → map length (joined_frames a b) ≡ map length a
counts [] b same = refl
counts (slots ∷ a) [] same = cc
counts (slots ∷ a) (others ∷ b) same =
    let left : map length a ≡ map length b = cc in
    ap (λ (n : ℕ). n ∷ map length (joined_frames a b)) (length_off (joined_slot slots others) 0 (length slots)) ∙ ap (λ ns. length slots ∷ ns) (counts a b left)

all_canonical : (a b : List (List HeldSlot)) → map (map canonical) (joined_frames a b) ≡ joined_frames a b
all_canonical [] b = refl
all_canonical (slots ∷ a) [] = refl
all_canonical (slots ∷ a) (others ∷ b) =
    ap (λ x. x ∷ map (map canonical) (joined_frames a b)) (canonical_off (joined_frame abstract_sets (frame_of slots) (frame_of others)) 0 (length slots))
    ∙ ap (λ xs. joined_slots slots others ∷ xs) (all_canonical a b)

module _ (a b : MemoryParts) (alike : AreAlike a b) (law : JoinedHeld) where
  same_counts : map length a.frames ≡ map length b.frames
  same_counts = alike.first.frames ∙ (ap (λ (c : CheckedParts). map bytes_in (rows_of c)) alike.checked ∙ sym alike.second.frames)

  abbrev after : MemoryParts
  after = record { checked = a.checked; running = a.running; frames = joined_frames a.frames b.frames }

  seen : memory_in after ≡ both abstract_sets (memory_in a) (memory_in b)
  seen = law a.running b.running a.frames b.frames same_counts

  kept : IsMemory after
  kept = record {
    running = alike.first.running;
    frames = counts a.frames b.frames same_counts ∙ alike.first.frames;
    canonical = all_canonical a.frames b.frames;
    sized = subst (λ (m : Mem abstract_sets). MemSized abstract_sets m) (sym seen)
        (join_sized abstract_sets abstract_is_sets (memory_in a) (memory_in b) alike.first.sized alike.second.sized);
  }

  -- the frames joined one by one are those of the join
  pub joined_parts : after ≡ joined a b
  joined_parts = sym (parts_are after kept) ∙ ap (made a.checked) seen
