-- The sizes of what is joined.
--   room_in_words, first_room   a byte of the value is a byte of its words
--   byte_size       a byte of a frame has 8 bits
--   stands_alike    the cell as it stands may be joined with a value of its size
use Rattle.std.specs.Prelude.{IfSome}
use Rattle.std.proofs.Common.{◌≡◌, sym, subst, ℕ, true, Option, Some, None, arith, ◌+◌, ◌*◌, ◌≤◌}
use Rattle.strided_rules.specs.Strides.{Stride}
use Rattle.pointer_rules.specs.AbstractValues.{AbstractValue, AreAlike}
use Rattle.pointer_rules.specs.Covering.{IsValue}
use Rattle.memory_rules.specs.Frames.{Cell, FrameMem, stands}
use Rattle.memory_rules.specs.AbstractSets.{abstract_sets}
use Rattle.memory_rules.specs.AbstractSetLaws.{abstract_is_sets}
use Rattle.memory_rules.specs.Covers.{FrameSized}
use Rattle.memory_rules.specs.UpdateLaws.{stands_sized}
use Rattle.memory_model.specs.HeldFrames.{is_cell_size}
use Rattle.frame_memory.proofs.SlotFrames.{cell_bounds}

-- a byte of the value is a byte of its words
pub room_in_words : (value : AbstractValue) (size at : ℕ) → IsValue size value → 8 * at + 8 ≤ size
    → IfSome value.words (λ words. 8 * at + 8 ≤ words.size)
room_in_words value size at is room = go value.words is.sized.words
  where
    go : (part : Option Stride) → IfSome part (λ words. words.size ≡ size)
        → IfSome part (λ words. 8 * at + 8 ≤ words.size)
    go None sized = tt
    go (Some words) sized = omega (arith, sized, room)

-- and so is the first, of a cell
pub first_room : (value : AbstractValue) (size : ℕ) → IsValue size value → is_cell_size size ≡ true
    → IfSome value.words (λ words. 8 * 0 + 8 ≤ words.size)
first_room value size is sized =
    let bounds = cell_bounds size sized in
    room_in_words value size 0 is (omega (arith, bounds.0, bounds.1))

-- a byte of a frame has 8 bits
pub byte_size : (m : FrameMem abstract_sets) → FrameSized abstract_sets m → (byte : ℕ)
    → IfSome (m.bytes byte).value (λ word. word.size ≡ 8)
byte_size m sized byte = go (m.bytes byte).value (sized.bytes byte)
  where
    go : (part : Option Stride) → IfSome part (λ word. abstract_sets.sized word 8) → IfSome part (λ word. word.size ≡ 8)
    go None of_size = tt
    go (Some word) of_size = of_size.size

-- the cell as it stands may be joined with a value of its size
pub stands_alike : (m : FrameMem abstract_sets) → FrameSized abstract_sets m → (offset size : ℕ) (value : AbstractValue)
    → IsValue size value
    → (cell : Cell AbstractValue) → cell ≡ stands abstract_sets m offset size → IfSome cell.value (λ set. AreAlike set value)
stands_alike m sized offset size value is cell same =
    go cell.value (subst (λ (c : Cell AbstractValue). IfSome c.value (λ set. IsValue size set)) (sym same) (stands_sized abstract_sets abstract_is_sets m sized offset size))
  where
    go : (part : Option AbstractValue) → IfSome part (λ set. IsValue size set) → IfSome part (λ set. AreAlike set value)
    go None of_size = tt
    go (Some set) of_size = record { size = size; first = (of_size.is, of_size.sized); second = (is.is, is.sized) }
