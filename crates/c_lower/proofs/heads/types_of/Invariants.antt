-- The types so far, with those of what is left, are all.
use Rattle.std.proofs.Common.{◌≡◌, ◌++◌, drop}
use Rattle.c_rules.specs.Units.{types_of}
use Rattle.c_lower.proofs.heads.types_of.Given as goal

abbrev pub invariant-loop-parameter : goal.invariant-loop-parameter
invariant-loop-parameter l = l.types.items ++ types_of (drop l.parameter-index l.parameters) ≡ types_of l.parameters
