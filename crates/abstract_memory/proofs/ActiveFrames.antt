-- Frames that are active, by their bits.
--   shape_at                   the shape of a row
--   tested_none, tested_some   the test of a pointer into the frame
use Rattle.std.proofs.Common.{◌≡◌, ℕ, Bool, [], Option, Some, None, Ok, Err, refl, ap}
use Rattle.std.specs.Prelude.{if◌then◌else◌}
use Rattle.lists.specs.TestLaws.{by_test}
use Rattle.alf_ops.specs.declared.history.RunFault.TheVariants.{Dead, Bounds}
use Rattle.alf_ops.specs.declared.history.FrameShape.{FrameShape}
use Rattle.alf_ops.specs.Histories.{fits_in}
use Rattle.memory_rules.specs.Memories.{is_on}
use Rattle.memory_rules.specs.Addresses.{tested_in}
use Rattle.abstract_memory.specs.Running.{bits_on}

pub tested_none : (found : Option FrameShape) (runs : ℕ → Bool) (frame offset size : ℕ) → None ≡ bits_on found runs
    → tested_in found runs frame offset size ≡ Err Dead
tested_none None runs frame offset size none = refl
tested_none (Some row) runs frame offset size none = by_test (is_on runs row.owner)
    (λ on. let bad : None ≡ Some row.bits = rw on at none in cc)
    (λ off. rw off refl)

pub tested_some : (found : Option FrameShape) (runs : ℕ → Bool) (frame offset size bits : ℕ)
    → Some bits ≡ bits_on found runs
    → tested_in found runs frame offset size ≡ (if fits_in bits offset size then Ok (frame, offset) else Err Bounds)
tested_some None runs frame offset size bits some = cc
tested_some (Some row) runs frame offset size bits some = by_test (is_on runs row.owner)
    (λ on.
    let same : Some bits ≡ Some row.bits = rw on at some in
    let bits_same : row.bits ≡ bits = cc in
    rw on (ap (λ (b : ℕ). if fits_in b offset size then Ok (frame, offset) else Err Bounds) bits_same))
    (λ off. let bad : Some bits ≡ None = rw off at some in cc)
