-- Laws of only cells.
--   only_cell                                so it is where the address is one pointer, to a cell that fits an active frame
--   pointer_cell    and so of a pointer that is written so
use Rattle.std.specs.Prelude.{◌<◌, ◌^◌}
use Rattle.std.proofs.Common.{◌≡◌, ℕ, Bool, List, Result, Ok, Err, refl, sym, ap, ◌∙◌, arith}
use Rattle.alf_ops.specs.declared.history.Value.{Value}
use Rattle.alf_ops.specs.declared.history.Value.TheVariants.{Ptr}
use Rattle.alf_ops.specs.declared.history.RunFault.{RunFault}
use Rattle.alf_ops.specs.declared.history.FrameShape.{FrameShape}
use Rattle.domain_core.specs.WordSets.{IsWordSize, IsOfSize}
use Rattle.strided_rules.specs.Strides.{Stride, one_word}
use Rattle.strided_rules.specs.Domains.{stride_sets}
use Rattle.strided_rules.specs.StrideLaws.{stride_is_sets}
use Rattle.pointer_rules.specs.AbstractValues.{AbstractValue, Places, alone}
use Rattle.pointer_rules.specs.Covering.{IsValue}
use Rattle.pointer_rules.specs.RuleLaws.{alone_is, alone_only}
use Rattle.memory_rules.specs.Covers.{IsCellSize}
use Rattle.memory_rules.specs.Addresses.{tested}
use Rattle.memory_rules.specs.AddressSharp.{cells_told}
use Rattle.memory_rules.specs.AddressSharpLaws.{one_cell}
use Rattle.abstract_memory.specs.OnlyCells.{IsOnlyOffset, IsOnlyPlace, IsOnlyCell, pointer_to}

ok_or_err : (cell : ℕ × ℕ) (fault : RunFault) → (let r : Result (ℕ × ℕ) RunFault = Ok cell in r) ≡ Err fault → ⊥
ok_or_err cell fault e = cc

-- where the address is one pointer, to a cell that fits an active frame
pub only_cell : (rows : List FrameShape) (runs : ℕ → Bool) (at : AbstractValue) (size : ℕ) (cell : ℕ × ℕ)
    → IsValue 32 at → IsCellSize size
    → IsOnlyPlace at cell → tested rows runs (Ptr cell.0 cell.1) size ≡ Ok cell → IsOnlyCell rows runs at size cell
only_cell rows runs at size cell of_at is only there = record {
  cells = one_cell rows runs at (Ptr cell.0 cell.1) size is of_at only ∙ ap cells_told there;
  faults = λ fault told. ok_or_err cell fault (sym there ∙ ap (λ (p : Value). tested rows runs p size) (sym (only.1 told.0 told.1)) ∙ told.2);
}

has_32 : IsWordSize 32
has_32 = record { least = omega arith; most = omega arith }

offset_sized : (offset : ℕ) → offset < 2 ^ 32 → IsOfSize stride_sets 32 (one_word 32 offset)
offset_sized offset small = stride_is_sets.single_size 32 offset has_32 small

pub pointer_value : (frame offset : ℕ) → offset < 2 ^ 32 → IsValue 32 (pointer_to frame offset)
pointer_value frame offset small = alone_is 32 (Places frame (one_word 32 offset)) (offset_sized offset small, refl)

pub pointer_alone : (frame : ℕ) (offsets : Stride) (offset : ℕ) → IsOnlyOffset offsets offset
    → IsOnlyPlace (alone (Places frame offsets)) (frame, offset)
pointer_alone frame offsets offset only =
    let one = alone_only (Places frame offsets) (Ptr frame offset) (refl, only) in
    (one.is, one.one)

-- and so of a pointer that is written so
pub pointer_cell : (rows : List FrameShape) (runs : ℕ → Bool) (frame offset size : ℕ) → offset < 2 ^ 32
    → IsCellSize size
    → tested rows runs (Ptr frame offset) size ≡ Ok (frame, offset) → IsOnlyCell rows runs (pointer_to frame offset) size (frame, offset)
pointer_cell rows runs frame offset size small is there =
    only_cell rows runs (pointer_to frame offset) size (frame, offset) (pointer_value frame offset small) is
    (pointer_alone frame (one_word 32 offset) offset (stride_is_sets.single_only 32 offset has_32 small)) there
