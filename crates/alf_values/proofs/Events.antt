-- The calls of `Frames`, over what is seen before and after.
--   shapes_seen            the frames' owners and sizes are seen
--   entered, left          after a function was entered, and left
--   loads                  a load gives the history's load
--   refused                a store is refused with the history's fault
--   kept_after, stores     after a store
--   filled, same_shapes    the frame that was written
use Rattle.std.specs.Prelude.{slice_get, slice_set}
use Rattle.std.specs.Vec.{with_items}
use Rattle.std.proofs.Common.{◌≡◌, ◌≢◌, sym, subst, ◌∙◌, ap, ℕ, suc, zero, true, false, List, [], ◌∷◌, Some, Ok, Err, refl, arith, ◌+◌, ◌/◌, ◌<◌, length}
use Rattle.std.proofs.lemmas.List.{with_items_is, length-map}
use Rattle.std.proofs.lemmas.Option.{slice_get_within}
use Rattle.alf_ops.specs.declared.history.Value.{Value}
use Rattle.alf_ops.specs.declared.history.RunFault.{RunFault}
use Rattle.alf_ops.specs.declared.history.RunEvent.{RunEvent}
use Rattle.alf_ops.specs.declared.history.RunEvent.TheVariants.{Enter, Leave, Store}
use Rattle.alf_ops.specs.Values.{size_of}
use Rattle.alf_ops.specs.Histories.{load, store}
use Rattle.alf_check.specs.Kept.{IsCellSize}
use Rattle.alf_values.specs.declared.slots.Slot.{Slot}
use Rattle.alf_values.specs.declared.cells.Frame.{Frame}
use Rattle.alf_values.specs.declared.cells.Activity.{Activity}
use Rattle.alf_values.specs.declared.cells.Cell.{Cell}
use Rattle.alf_values.specs.Slots.{written}
use Rattle.alf_values.specs.Memories.{RunMemory, shapes}
use Rattle.alf_values.specs.Standing.{StandsFor, IsStorable, StoresTo}
use Rattle.alf_values.specs.Cells.{mark_of, running_of, memory_of, AreKept, tested, loaded, shapes_in, IsFilled}
use Rattle.alf_values.proofs.Writes.{get_set_same, length-written}
use Rattle.alf_values.proofs.Standing.{Stands, from_seen, to_seen, left_stands, entered_stands, stored_stands, stored_kept}
use Rattle.alf_values.proofs.Addresses.{IsPlace, place_is, loaded_is, refused_is, stored_is}

-- the frames' owners and sizes are seen
pub shapes_seen : (frames : List Frame) (functions : List Activity)
    → shapes (memory_of frames functions) ≡ shapes_in frames
shapes_seen [] functions = refl
shapes_seen (frame ∷ frames) functions = ap (λ shapes. frame.shape ∷ shapes) (shapes_seen frames functions)

-- and they are the same whatever the functions' states
pub shapes_same : (frames : List Frame) (functions others : List Activity) (memory : RunMemory)
    → memory_of frames functions ≡ memory
    → shapes (memory_of frames others) ≡ shapes memory
shapes_same frames functions others memory seen = shapes_seen frames others ∙ (sym (shapes_seen frames functions) ∙ ap shapes seen)

module _ (frames : List Frame) (functions : List Activity) (memory : RunMemory) (seen : memory_of frames functions ≡ memory) where
  -- the parts stand for the histories that what is seen stands for
  parts_stand : (history : List RunEvent) → StandsFor memory history → Stands frames functions history
  parts_stand history stands = from_seen frames functions history (subst (λ (m : RunMemory). StandsFor m history) (sym seen) stands)

  within : (function : ℕ) → function < length memory.running → function < length functions
  within function low = let same : length (running_of functions) ≡ length memory.running = ap (λ (m : RunMemory). length m.running) seen in omega (arith, length-map functions (λ activity. activity.runs))

  pub entered : (function mark : ℕ) → AreKept frames functions → function < length memory.running
      → mark ≡ mark_of functions (Some function)
      → (history : List RunEvent) → StandsFor memory history
      → StandsFor (memory_of frames (slice_set functions function (record { runs = true; mark = mark + 1 }))) (Enter function ∷ history)
  entered function mark keeps low is history stands =
      to_seen frames (slice_set functions function (record { runs = true; mark = mark + 1 })) (Enter function ∷ history)
      (entered_stands frames functions function (record { runs = true; mark = mark + 1 }) history (within function low) refl (omega arith) keeps (parts_stand history stands))

  pub left : (function mark : ℕ) → function < length memory.running → mark ≡ mark_of functions (Some function)
      → (history : List RunEvent) → StandsFor memory history
      → StandsFor (memory_of frames (slice_set functions function (record { runs = false; mark = mark }))) (Leave function ∷ history)
  left function mark low is history stands =
      to_seen frames (slice_set functions function (record { runs = false; mark = mark })) (Leave function ∷ history)
      (left_stands frames functions function (record { runs = false; mark = mark }) history (within function low) refl is (parts_stand history stands))

  -- a load gives the history's load
  pub loads : (at : Value) (size : ℕ) → IsCellSize size → (history : List RunEvent) → StandsFor memory history
      → loaded frames functions size (tested frames (running_of functions) at size) ≡ load (shapes memory) history at size
  loads at size is history stands =
      subst (λ (m : RunMemory). loaded frames functions size (tested frames (running_of functions) at size) ≡ load (shapes m) history at size) seen
      (loaded_is frames functions history (parts_stand history stands) at size is)

  -- a store is refused with the history's fault
  pub refused : (at value : Value) (fault : RunFault)
      → tested frames (running_of functions) at (size_of value) ≡ Err fault
      → (history : List RunEvent) → StandsFor memory history → store (shapes memory) history at value ≡ Err fault
  refused at value fault is history stands =
      subst (λ (m : RunMemory). store (shapes m) history at value ≡ Err fault) seen (refused_is frames functions history (parts_stand history stands) at value fault is)

  module _ (new : List Frame) (at value : Value) (cell : Cell) (mark : ℕ)
      (is : tested frames (running_of functions) at (size_of value) ≡ Ok cell)
      (own : mark ≡ mark_of functions cell.owner)
      (here : (frame : Frame) → slice_get frames cell.frame ≡ Some frame → IsFilled new cell.frame frame.shape (written mark value frame.slots.items cell.offset 0 (size_of value / 8)))
      (others : (other : ℕ) → other ≢ cell.frame → slice_get new other ≡ slice_get frames other)
      (keeps : AreKept frames functions) where
    -- the frame that was written has its owner's mark
    written_here : (place : IsPlace frames (running_of functions) cell (size_of value))
        → IsFilled new cell.frame place.frame.shape (written (mark_of functions place.frame.shape.owner) value place.frame.slots.items cell.offset 0 (size_of value / 8))
    written_here place =
        let same : mark ≡ mark_of functions place.frame.shape.owner = own ∙ ap (λ owner. mark_of functions owner) place.owner in
        subst (λ (m : ℕ). IsFilled new cell.frame place.frame.shape (written m value place.frame.slots.items cell.offset 0 (size_of value / 8))) same
        (here place.frame place.known)

    -- each frame is kept as it must be
    pub kept_after : AreKept new functions
    kept_after =
        let place = place_is frames (running_of functions) at (size_of value) cell is in
        stored_kept frames new functions cell.frame cell.offset (size_of value) value place.frame place.known (written_here place) others keeps

    -- the memory stands for the history with the store
    pub stores : IsStorable value → (history : List RunEvent) → StandsFor memory history
        → StoresTo memory (memory_of new functions) history at value
    stores storable history stands =
        let place = place_is frames (running_of functions) at (size_of value) cell is in
        let before = parts_stand history stands in
        record {
          after = Store cell.frame cell.offset (size_of value) value ∷ history;
          stored = subst (λ (m : RunMemory). store (shapes m) history at value ≡ Ok (Store cell.frame cell.offset (size_of value) value ∷ history)) seen
              (stored_is frames functions history before at value cell is);
          stands = to_seen new functions (Store cell.frame cell.offset (size_of value) value ∷ history)
              (stored_stands frames new functions cell.frame cell.offset (size_of value) value place.frame place.known (written_here place) others keeps history storable.fits before);
        }

-- the frame that was written
pub filled : (frames : List Frame) (number : ℕ) (own frame : Frame) (mark : ℕ) (value : Value) (offset count : ℕ) (slots : List Slot)
    → slice_get frames number ≡ Some own → slots ≡ written mark value own.slots.items offset 0 count → slice_get frames number ≡ Some frame
    → IsFilled (slice_set frames number (record { shape = own.shape; slots = with_items own.slots slots })) number frame.shape (written mark value frame.slots.items offset 0 count)
filled frames number own frame mark value offset count slots known is at =
    let e : Some own ≡ Some frame = sym known ∙ at in
    let same : own ≡ frame = cc in
    let len : length slots ≡ own.slots.len = ap length is ∙ (length-written mark value own.slots.items offset 0 count ∙ sym own.slots.ok.0) in
    subst (λ (f : Frame). IsFilled (slice_set frames number (record { shape = own.shape; slots = with_items own.slots slots })) number f.shape (written mark value f.slots.items offset 0 count)) same
    (record {
      frame = record { shape = own.shape; slots = with_items own.slots slots };
      known = get_set_same frames number (record { shape = own.shape; slots = with_items own.slots slots }) (slice_get_within frames number own known);
      shape_is = refl;
      slots_are = with_items_is own.slots slots len ∙ is;
    })

-- a frame of the same shape in the place of one leaves the owners and sizes
pub same_shapes : (frames : List Frame) (number : ℕ) (own new : Frame) → slice_get frames number ≡ Some own
    → new.shape ≡ own.shape
    → shapes_in (slice_set frames number new) ≡ shapes_in frames
same_shapes [] number own new known same = refl
same_shapes (frame ∷ frames) zero own new known same =
    let e : frame ≡ own = cc in
    ap (λ shape. shape ∷ shapes_in frames) (same ∙ ap (λ (f : Frame). f.shape) (sym e))
same_shapes (frame ∷ frames) (suc number) own new known same = ap (λ shapes. frame.shape ∷ shapes) (same_shapes frames number own new known same)
