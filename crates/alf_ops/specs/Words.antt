-- The words that operators give.
--   value op sizes args     the word that the operator gives
--   divides op              the operator divides
--   DividesByZero op args   it divides, by 0
--   FitsWord size arg       the argument is below 2 to the size
--   EachFits sizes args     there is one argument that fits for each size
use Rattle.std.specs.Prelude.{◌≡◌, ℕ, Bool, true, false, List, ◌^◌, ◌<◌, slice_index, IsTrue}
use Rattle.std.specs.List.{AllZip}
use Rattle.alf_ops.specs.TwosComplement.{word}
use Rattle.alf_ops.specs.Table.{formula, size_of_result}
use Rattle.alf_ops.specs.declared.operator.Op.{Op}
use Rattle.alf_ops.specs.declared.operator.Op.TheVariants.{UDiv, SDiv, UMod, SMod}

-- the word that the operator gives
abbrev pub value : Op → List ℕ → List ℕ → ℕ
value op sizes args =
    word (size_of_result op sizes)
    (formula op (slice_index sizes 0) (slice_index sizes 1) (slice_index sizes 2) (slice_index args 0) (slice_index args 1) (slice_index args 2))

-- the operator divides
abbrev pub divides : Op → Bool
divides UDiv = true
divides SDiv = true
divides UMod = true
divides SMod = true
divides _ = false

-- the operator divides, by 0
abbrev pub DividesByZero : Op → List ℕ → Type 0
DividesByZero op args = IsTrue (divides op) × (slice_index args 1 ≡ 0)

-- the argument is below 2 to the size
abbrev pub FitsWord : ℕ → ℕ → Type 0
FitsWord size arg = arg < 2 ^ size

-- there is one argument that fits for each size
abbrev pub EachFits : List ℕ → List ℕ → Type 0
EachFits sizes args = AllZip FitsWord sizes args
