-- A unit that is counted is measured.
--   HasFewLabels unit   no function has 2 to 64 labels or more
use Rattle.std.proofs.Common.{◌<◌, ◌^◌}
use Rattle.c_unit.specs.Units.{UnitTree}
use Rattle.c_meaning.specs.Objects.{Function, functions_of}
use Rattle.c_lowered.specs.Statements.{labels_in_all}
use Rattle.lowering_layout.specs.Lists.{EachOf}
use Rattle.lowering_layout.specs.Spelled.{HasNames}

-- no function has 2 to 64 labels or more
abbrev pub HasFewLabels : UnitTree → Type 0
HasFewLabels unit = EachOf (λ (function : Function). labels_in_all function.body < 2 ^ 64) (functions_of unit)
