-- The lowered program of a unit has no fault.
use Rattle.std.proofs.Common.{◌≡◌, ◌+◌, ℕ, Bool, slice_get, Some}
use Rattle.c_unit.specs.Units.{UnitTree}
use Rattle.c_rules.specs.UnitsStand.{UnitStands}
use Rattle.c_meaning.specs.Objects.{Function, Program, program_of, function_at}
use Rattle.lowering_layout.specs.Spelled.{HasNames}
use Rattle.lowering_checks.specs.Functions.{IsMeasured}
use Rattle.lowering_checks.specs.Returns.{is_given}

-- ---- functions in order

module _ (unit : UnitTree) (names : HasNames (program_of unit)) (stands : UnitStands unit) (measured : IsMeasured unit names) where
  abbrev program : Program
  program = program_of unit

  abbrev lowest : ℕ → ℕ
  lowest k = 0 + k

  -- ---- calls

  record IsCallOf (k : ℕ) (has : Bool) : Type 0 where
    function : Function
    at : slice_get program.functions k ≡ Some function
    given : has ≡ is_given (function_at program k).result
