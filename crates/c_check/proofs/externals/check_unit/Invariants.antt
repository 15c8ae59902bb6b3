-- What is left has the faults of all.
use Rattle.std.proofs.Common.{◌≤◌, length, map}
use Rattle.c_unit.specs.Tree.{external_of}
use Rattle.c_unit.specs.Units.{unit_of}
use Rattle.c_check.proofs.Going.{IsUnderWay}
use Rattle.c_check.proofs.externals.check_unit.Given as goal

abbrev pub invariant-externals : goal.invariant-externals
invariant-externals l =
    IsUnderWay (unit_of l.unit).words l.functions.names (unit_of l.unit).externals (map external_of l.rest) l.count l.scopes × (l.count ≤ length l.functions.names)

abbrev pub decreases-externals : goal.decreases-externals
decreases-externals l = length l.rest
