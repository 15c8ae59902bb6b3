-- The types so far.
use Rattle.std.proofs.Common.{◌≡◌, take}
use Rattle.c_rules.specs.Units.{types_of}
use Rattle.c_faults.proofs.params.types_of.Given as goal

abbrev pub invariant-loop-param : goal.invariant-loop-param
invariant-loop-param l = l.types.items ≡ types_of (take l.param-index l.params)
