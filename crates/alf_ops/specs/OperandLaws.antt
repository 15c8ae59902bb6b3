-- Operands one after the other, and place by place.
--   FitsAt Fits size arg   there is a size and an argument that fits it, or neither
--   operands_end           where there is no operand i, no operands are left from i on
--   operands_go_on         else operand i is the first of those that are left
use Rattle.std.specs.Prelude.{slice_get, Option, ⊤}
use Rattle.std.proofs.Common.{◌≡◌, ℕ, zero, suc, List, [], ◌∷◌, Some, None, drop, IsSome, refl, ◌+◌, add-one, arith}
use Rattle.std.proofs.lemmas.Grind.{common_steps}
use Rattle.alf_ops.specs.declared.operator.Op.{Op}
use Rattle.alf_ops.specs.Table.{result_size, operand_size, operand_sizes}

-- there is a size and an argument that fits it, or neither
abbrev pub FitsAt : {A B : Type 0} → (A → B → Type 0) → Option A → Option B → Type 0
FitsAt Fits None None = ⊤
FitsAt Fits None (Some arg) = ⊥
FitsAt Fits (Some size) None = ⊥
FitsAt Fits (Some size) (Some arg) = Fits size arg

drop_end : (sizes : List ℕ) (i : ℕ) → slice_get sizes i ≡ None → drop i sizes ≡ []
drop_end [] zero none = refl
drop_end [] (suc i) none = refl
drop_end (size ∷ sizes) zero none = cc
drop_end (size ∷ sizes) (suc i) none = drop_end sizes i none

drop_next : (sizes : List ℕ) (i size : ℕ) → slice_get sizes i ≡ Some size → drop i sizes ≡ size ∷ drop (suc i) sizes
drop_next [] zero size found = cc
drop_next [] (suc i) size found = cc
drop_next (first ∷ sizes) zero size found = cc
drop_next (first ∷ sizes) (suc i) size found = drop_next sizes i size found

-- where there is no operand i, no operands are left from i on
pub operands_end : (op : Op) (sizes : List ℕ) (i : ℕ) → IsSome (result_size op sizes) → operand_size op sizes i ≡ None
    → drop i (operand_sizes op sizes) ≡ []
operands_end op sizes i typed none = drop_end (operand_sizes op sizes) i (grind (arith, common_steps))

-- else operand i is the first of those that are left
pub operands_go_on : (op : Op) (sizes : List ℕ) (i size : ℕ) → operand_size op sizes i ≡ Some size
    → drop i (operand_sizes op sizes) ≡ size ∷ drop (i + 1) (operand_sizes op sizes)
operands_go_on op sizes i size found = rw add-one (drop_next (operand_sizes op sizes) i size (grind (arith, common_steps)))
