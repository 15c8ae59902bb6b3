-- Rules that count.
use Rattle.std.proofs.Common.{[]}
use Rattle.c_unit.specs.Tree.{Expression}
use Rattle.c_unit.specs.Units.{Word}
use Rattle.c_limits.specs.Depths.{Within}

abbrev pub Shallow : Expression → Type 0
Shallow e = Within [] 10 e
