-- Slots of a place before the cell of a store, changed or left.
--   there_is          there is a slot at a place of a frame
--   left_alone        where no cell has more bits the slot is left
--   dropped, marked   cells of more bits are dropped, or get x
use Rattle.std.specs.Prelude.{slice_get, slice_set}
use Rattle.std.proofs.Common.{◌≡◌, sym, subst, ◌∙◌, ap, ℕ, suc, zero, true, List, [], ◌∷◌, Some, None, refl, arith, ◌<◌, length}
use Rattle.memory_pages.specs.Slots.{HeldSlot, cell_of, without_wider, with_wider_marked}
use Rattle.memory_rules.specs.Frames.{with_x}
use Rattle.memory_rules.specs.AbstractSets.{abstract_sets}
use Rattle.memory_model.specs.HeldFrames.{is_cell_size, byte_seen, cell_in, frame_of}
use Rattle.memory_model.specs.SlotStores.{CellChange}
use Rattle.frame_memory.specs.Places.{CellsBySize, with_place, wider, Becomes}
use Rattle.frame_memory.proofs.SlotFrames.{put_becomes, same_becomes, none_wider, narrow_cells, marked_cells, byte_found, cells_found}

-- there is a slot at a place of a frame
pub there_is : {A : Type 0} (xs : List A) (place : ℕ) → place < length xs → slice_get xs place ≡ None → ⊥
there_is [] place low none = absurd (omega arith)
there_is (x ∷ xs) zero low none = cc
there_is (x ∷ xs) (suc place) low none = there_is xs place (omega arith) none

module _ (slots : List HeldSlot) (place : ℕ) (slot : HeldSlot) (than : ℕ) (found : slice_get slots place ≡ Some slot) where
  -- the slot is left
  pub left_alone : (others : CellChange) → others None ≡ None
      → ((width : ℕ) → is_cell_size width ≡ true → than < width → cell_of slot width ≡ None)
      → Becomes slots slots (with_place (frame_of slots) place ((frame_of slots).bytes place) (wider others than ((frame_of slots).cells place)))
  left_alone others keeps none = same_becomes slots place ((frame_of slots).bytes place) (wider others than ((frame_of slots).cells place)) refl
      (λ width. subst (λ (cells : CellsBySize). wider others than cells width ≡ cells width) (sym (cells_found slots place slot found)) (none_wider slot than others keeps none width))

  module _ (new : List HeldSlot) (low : place < length slots) where
    -- another slot is put, with the same byte
    put_wider : (others : CellChange) (changed : HeldSlot) → new ≡ slice_set slots place changed
        → changed.byte ≡ slot.byte
        → Becomes slots (slice_set slots place changed) (with_place (frame_of slots) place (byte_seen changed.byte) (cell_in (Some changed)))
        → ((width : ℕ) → cell_in (Some changed) width ≡ wider others than (cell_in (Some slot)) width)
        → Becomes slots new (with_place (frame_of slots) place ((frame_of slots).bytes place) (wider others than ((frame_of slots).cells place)))
    put_wider others changed put same_byte done cells =
        subst (λ ss. Becomes slots ss (with_place (frame_of slots) place ((frame_of slots).bytes place) (wider others than ((frame_of slots).cells place)))) (sym put)
        (subst (λ m. Becomes slots (slice_set slots place changed) m) same_frame done)
      where
        each_cell : cell_in (Some changed) ≡ wider others than (cell_in (Some slot))
        each_cell = λ i. λ width. cells width i

        same_cells : cell_in (Some changed) ≡ wider others than ((frame_of slots).cells place)
        same_cells = each_cell ∙ ap (λ (cs : CellsBySize). wider others than cs) (sym (cells_found slots place slot found))

        same_bytes : byte_seen changed.byte ≡ (frame_of slots).bytes place
        same_bytes = ap byte_seen same_byte ∙ sym (byte_found slots place slot found)

        same_frame : with_place (frame_of slots) place (byte_seen changed.byte) (cell_in (Some changed))
            ≡ with_place (frame_of slots) place ((frame_of slots).bytes place) (wider others than ((frame_of slots).cells place))
        same_frame = λ i. with_place (frame_of slots) place (same_bytes i) (same_cells i)

    -- cells of more bits are dropped
    pub dropped : new ≡ slice_set slots place (without_wider slot than)
        → Becomes slots new (with_place (frame_of slots) place ((frame_of slots).bytes place) (wider (λ cell. None) than ((frame_of slots).cells place)))
    dropped put = put_wider (λ cell. None) (without_wider slot than) put refl (put_becomes slots place (without_wider slot than) low refl) (λ width. narrow_cells slot than width)

    -- or get x
    pub marked : new ≡ slice_set slots place (with_wider_marked slot than)
        → Becomes slots new (with_place (frame_of slots) place ((frame_of slots).bytes place) (wider (with_x abstract_sets) than ((frame_of slots).cells place)))
    marked put = put_wider (with_x abstract_sets) (with_wider_marked slot than) put refl (put_becomes slots place (with_wider_marked slot than) low refl) (λ width. marked_cells slot than width)
