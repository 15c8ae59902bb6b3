-- Functions that run and the slots of frames, as an abstract memory.
--   held_no_byte                  a byte without a store
--   memory_of running frames      the memory: which functions run, and the frames of these slots
--   blank_slots count             the slots of a frame that holds nothing
--   entered_frames rows function frames   the frames of the function hold nothing, the others what they held
--   joined_slots a b              two frames joined, slot by slot
--   joined_frames a b             frame by frame
--   FreshHeld, LeftHeld, EnteredHeld, FrameHeld, JoinedHeld   the memory is the one of the definitions: before each event, after a function is left or entered, after one frame is changed, and joined
use Rattle.std.specs.Prelude.{◌≡◌, ℕ, Bool, true, false, List, [], ◌∷◌, length, map, replicate, Option, Some, None, ◌/◌, ◌<◌, if◌then◌else◌, slice_get, slice_set}
use Rattle.alf_ops.specs.declared.history.FrameShape.{FrameShape}
use Rattle.alf_ops.specs.Histories.{is_owner, offsets}
use Rattle.memory_pages.specs.declared.byte.Byte.{Byte}
use Rattle.memory_pages.specs.Slots.{HeldSlot, table, bare}
use Rattle.memory_pages.specs.Pages.{list_or}
use Rattle.memory_rules.specs.Frames.{joined}
use Rattle.memory_rules.specs.AbstractSets.{abstract_sets}
use Rattle.memory_rules.specs.Memories.{Mem, fresh, left, entered, with_frame, both}
use Rattle.memory_model.specs.HeldFrames.{byte_held, cell_held, frame_of}

-- a byte without a store
abbrev pub held_no_byte : Byte
held_no_byte = record { value = None; u = true; p = false }

abbrev pub runs_or : Option Bool → Bool
runs_or None = false
runs_or (Some runs) = runs

-- the memory
abbrev pub memory_of : List Bool → List (List HeldSlot) → Mem abstract_sets
memory_of running frames = record {
  runs = λ function. runs_or (slice_get running function);
  frames = λ frame. frame_of (list_or (slice_get frames frame));
}

-- a frame that holds nothing
abbrev pub blank_slots : ℕ → List HeldSlot
blank_slots count = replicate count (bare held_no_byte)

abbrev pub entered_frame : ℕ → FrameShape → List HeldSlot → List HeldSlot
entered_frame function row slots = if is_owner row.owner function then blank_slots (row.bits / 8) else slots

-- the frames of the function hold nothing
abbrev pub entered_frames : List FrameShape → ℕ → List (List HeldSlot) → List (List HeldSlot)
entered_frames [] function frames = frames
entered_frames (row ∷ rows) function [] = []
entered_frames (row ∷ rows) function (slots ∷ frames) = entered_frame function row slots ∷ entered_frames rows function frames

-- the slot of a join
abbrev pub joined_slot : List HeldSlot → List HeldSlot → ℕ → HeldSlot
joined_slot a b place = record {
  byte = byte_held ((joined abstract_sets (frame_of a) (frame_of b)).bytes place);
  cells = table (λ size. cell_held ((joined abstract_sets (frame_of a) (frame_of b)).cells place size));
}

abbrev pub joined_slots : List HeldSlot → List HeldSlot → List HeldSlot
joined_slots a b = map (joined_slot a b) (offsets 0 (length a))

abbrev pub joined_frames : List (List HeldSlot) → List (List HeldSlot) → List (List HeldSlot)
joined_frames [] others = []
joined_frames (a ∷ frames) [] = []
joined_frames (a ∷ frames) (b ∷ others) = joined_slots a b ∷ joined_frames frames others

-- before each event
abbrev pub FreshHeld : Type 0
FreshHeld = (count : ℕ) (sizes : List ℕ) → memory_of (replicate count false) (map blank_slots sizes) ≡ fresh abstract_sets

-- after a function is left
abbrev pub LeftHeld : Type 0
LeftHeld = (running : List Bool) (frames : List (List HeldSlot)) (function : ℕ) → function < length running
    → memory_of (slice_set running function false) frames ≡ left abstract_sets (memory_of running frames) function

-- after a function is entered
abbrev pub EnteredHeld : Type 0
EnteredHeld = (rows : List FrameShape) (running : List Bool) (frames : List (List HeldSlot)) (function : ℕ) → function < length running
    → length frames ≡ length rows
    → memory_of (slice_set running function true) (entered_frames rows function frames) ≡ entered abstract_sets rows (memory_of running frames) function

-- after one frame is changed
abbrev pub FrameHeld : Type 0
FrameHeld = (running : List Bool) (frames : List (List HeldSlot)) (frame : ℕ) (slots : List HeldSlot) → frame < length frames
    → memory_of running (slice_set frames frame slots) ≡ with_frame abstract_sets (memory_of running frames) frame (frame_of slots)

-- joined
abbrev pub JoinedHeld : Type 0
JoinedHeld = (running other : List Bool) (a b : List (List HeldSlot)) → map length a ≡ map length b
    → memory_of running (joined_frames a b) ≡ both abstract_sets (memory_of running a) (memory_of other b)
