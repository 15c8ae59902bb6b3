-- Loads and stores by the test of their address.
--   addressed            the cell that passed the tests, as the history's address
--   IsPlace, place_is    where such a cell lies
--   address_is           the test gives the history's address, or its fault
--   loaded_is            a load gives the history's load
--   stored_is            a store in such a cell is the history's store
use Rattle.std.specs.Prelude.{slice_get}
use Rattle.std.specs.Option.{option_map}
use Rattle.std.proofs.Common.{◌≡◌, sym, subst, ◌∙◌, ap, ℕ, Bool, true, List, ◌∷◌, map, Option, Some, None, Result, Ok, Err, refl, arith, ◌+◌, ◌*◌, ◌/◌, ◌<◌, ◌≤◌}
use Rattle.std.proofs.lemmas.Bool.{leb-true}
use Rattle.std.proofs.lemmas.Option.{slice_get-map}
use Rattle.lists.specs.TestLaws.{by_test}
use Rattle.alf_ops.specs.declared.history.Value.{Value}
use Rattle.alf_ops.specs.declared.history.Value.TheVariants.{Int, Ptr}
use Rattle.alf_ops.specs.declared.history.RunFault.{RunFault}
use Rattle.alf_ops.specs.declared.history.RunFault.TheVariants.{Bounds, Dead}
use Rattle.alf_ops.specs.declared.history.RunEvent.{RunEvent}
use Rattle.alf_ops.specs.declared.history.RunEvent.TheVariants.{Store}
use Rattle.alf_ops.specs.Values.{size_of}
use Rattle.alf_ops.specs.Histories.{Address, origin, is_active, fits_in, address_in, address_of, load, store, stored}
use Rattle.alf_ops.specs.Histories as histories
use Rattle.alf_ops.specs.WholeCells.{IsCell}
use Rattle.alf_check.specs.Kept.{IsCellSize}
use Rattle.alf_values.specs.declared.cells.Frame.{Frame}
use Rattle.alf_values.specs.declared.cells.Activity.{Activity}
use Rattle.alf_values.specs.declared.cells.Cell.{Cell}
use Rattle.alf_values.specs.Contents.{cell_held}
use Rattle.alf_values.specs.Slots.{held}
use Rattle.alf_values.specs.Memories.{shapes, is_live}
use Rattle.alf_values.specs.Cells.{mark_of, running_of, held_frame, memory_of, tested_in, tested, slots_at, slots_or, loaded}
use Rattle.alf_values.proofs.Loads.{held_as_stored}
use Rattle.alf_values.proofs.Standing.{Stands}

-- the cell that passed the tests, as the history's address
abbrev pub addressed : Result Cell RunFault → Result Address RunFault
addressed (Ok cell) = Ok (record { frame = cell.frame; owner = cell.owner; offset = cell.offset })
addressed (Err fault) = Err fault

-- it lies in a frame that is active
pub record IsPlace (frames : List Frame) (running : List Bool) (cell : Cell) (size : ℕ) : Type 0 where
  pub frame : Frame
  pub known : slice_get frames cell.frame ≡ Some frame
  pub owner : cell.owner ≡ frame.shape.owner
  pub lives : is_live running frame.shape.owner ≡ true
  pub fits : cell.offset * 8 + size ≤ frame.shape.bits

pub place_is : (frames : List Frame) (running : List Bool) (at : Value) (size : ℕ) (cell : Cell)
    → tested frames running at size ≡ Ok cell → IsPlace frames running cell size
place_is frames running (Int own word) size cell is = cc
place_is frames running (Ptr number offset) size cell is = go (slice_get frames number) refl is
  where
    go : (got : Option Frame) → slice_get frames number ≡ got → tested_in got running number offset size ≡ Ok cell
        → IsPlace frames running cell size
    go None at is = cc
    go (Some frame) at is = by_test (is_live running frame.shape.owner)
        (λ lives. by_test (fits_in frame.shape.bits offset size)
        (λ fits.
        let e : Ok (record { frame = number; owner = frame.shape.owner; offset = offset }) ≡ Ok cell = rw (lives, fits) at is in
        let p : record { frame = number; owner = frame.shape.owner; offset = offset } ≡ cell = cc in
        subst (λ (c : Cell). IsPlace frames running c size) p
        (record { frame = frame; known = at; owner = refl; lives = lives; fits = leb-true (offset * 8 + size) frame.shape.bits fits }))
        (λ over. let e : Err Bounds ≡ Ok cell = rw (lives, over) at is in cc))
        (λ dead. let e : Err Dead ≡ Ok cell = rw dead at is in cc)

-- the owner and the size of a frame
shape_got : (frames : List Frame) (functions : List Activity) (number : ℕ)
    → slice_get (shapes (memory_of frames functions)) number ≡ option_map (λ frame. frame.shape) (slice_get frames number)
shape_got frames functions number =
    slice_get-map (λ frame. frame.shape) (map (held_frame functions) frames) number
    ∙ (ap (option_map (λ frame. frame.shape)) (slice_get-map (held_frame functions) frames number)
    ∙ twice (slice_get frames number))
  where
    twice : (got : Option Frame) → option_map (λ seen. seen.shape) (option_map (held_frame functions) got) ≡ option_map (λ frame. frame.shape) got
    twice None = refl
    twice (Some frame) = refl

module _ (frames : List Frame) (functions : List Activity) (history : List RunEvent) (stands : Stands frames functions history) where
  -- the test gives the history's address, or its fault
  pub address_is : (at : Value) (size : ℕ) → address_of (shapes (memory_of frames functions)) history at size ≡ addressed (tested frames (running_of functions) at size)
  address_is (Int own word) size = refl
  address_is (Ptr number offset) size =
      ap (λ got. address_in got history number offset size) (shape_got frames functions number) ∙ go (slice_get frames number) refl
    where
      go : (got : Option Frame) → slice_get frames number ≡ got
          → address_in (option_map (λ frame. frame.shape) got) history number offset size ≡ addressed (tested_in got (running_of functions) number offset size)
      go None is = refl
      go (Some frame) is =
          let same : is_active frame.shape.owner history ≡ is_live (running_of functions) frame.shape.owner = sym (stands.each number frame is).same in
          by_test (is_live (running_of functions) frame.shape.owner)
          (λ lives. by_test (fits_in frame.shape.bits offset size)
          (λ fits. rw (same, lives, fits) refl)
          (λ over. rw (same, lives, over) refl))
          (λ dead. rw (same, dead) refl)

  -- what a cell that passed the tests gives
  cell_loaded : (size : ℕ) (cell : Cell) → IsCell size → IsPlace frames (running_of functions) cell size
      → cell_held (held (slots_at frames cell.frame) (mark_of functions cell.owner)) cell.offset size
      ≡ histories.cell_in (origin cell.owner cell.frame history) cell.offset size
  cell_loaded size cell is place =
      held_as_stored cell.owner cell.frame history (held (slots_at frames cell.frame) (mark_of functions cell.owner)) cell.offset size stands.sound is
      (λ byte low high.
      let inside : byte < place.frame.shape.bits / 8 = omega (arith, place.fits, is.1) in
      rw (ap slots_or place.known, place.owner) ((stands.each cell.frame place.frame place.known).bytes place.lives byte inside))

  -- a load gives the history's load
  pub loaded_is : (at : Value) (size : ℕ) → IsCellSize size
      → loaded frames functions size (tested frames (running_of functions) at size) ≡ load (shapes (memory_of frames functions)) history at size
  loaded_is at size is =
      go (tested frames (running_of functions) at size) refl ∙ ap (histories.loaded history size) (sym (address_is at size))
    where
      go : (result : Result Cell RunFault) → tested frames (running_of functions) at size ≡ result
          → loaded frames functions size result ≡ histories.loaded history size (addressed result)
      go (Err fault) it = refl
      go (Ok cell) it = cell_loaded size cell (omega (arith, is.least), is.bytes) (place_is frames (running_of functions) at size cell it)

  -- a store is refused with the history's fault
  pub refused_is : (at value : Value) (fault : RunFault)
      → tested frames (running_of functions) at (size_of value) ≡ Err fault
      → store (shapes (memory_of frames functions)) history at value ≡ Err fault
  refused_is at value fault is = ap (stored history value) (address_is at (size_of value) ∙ ap addressed is)

  -- a store in a cell that passed the tests is the history's
  pub stored_is : (at value : Value) (cell : Cell) → tested frames (running_of functions) at (size_of value) ≡ Ok cell
      → store (shapes (memory_of frames functions)) history at value ≡ Ok (Store cell.frame cell.offset (size_of value) value ∷ history)
  stored_is at value cell is = ap (stored history value) (address_is at (size_of value) ∙ ap addressed is)
