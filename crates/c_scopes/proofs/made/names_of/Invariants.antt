-- What is noted, with the definitions that are left, are all.
use Rattle.std.proofs.Common.{◌≡◌, ◌++◌, map, drop}
use Rattle.c_unit.specs.Tree.{external_of}
use Rattle.c_rules.specs.Units.{definitions}
use Rattle.c_scopes.proofs.made.names_of.Given as goal

abbrev pub invariant-loop-external : goal.invariant-loop-external
invariant-loop-external l = l.names.items ++ definitions (map external_of (drop l.external-index l.externals)) ≡ definitions (map external_of l.externals)
