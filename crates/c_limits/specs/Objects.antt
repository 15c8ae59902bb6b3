-- Sizes of objects of a counted unit.
use Rattle.std.proofs.Common.{◌≤◌}
use Rattle.c_unit.specs.Units.{Word, UnitTree}
use Rattle.c_meaning.specs.Objects.{Object}
use Rattle.c_rules.specs.SpelledUnits.{IsCounted}

abbrev pub IsSmall : Object → Type 0
IsSmall o = o.bits ≤ 262144
