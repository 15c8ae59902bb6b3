-- The first fault of what is left is that of all.
use Rattle.std.proofs.Common.{◌≡◌, map, drop}
use Rattle.c_unit.specs.Tree.{expression_of}
use Rattle.c_rules.specs.Faults.{earliest}
use Rattle.c_rules.specs.Calls.{argument_faults}
use Rattle.c_faults.proofs.arguments.check_arguments.Given as goal

abbrev pub invariant-loop-argument : goal.invariant-loop-argument
invariant-loop-argument l =
    earliest (argument_faults l.scopes.words l.scopes.scopes (map expression_of (drop l.argument-index l.arguments)) l.params)
    ≡ earliest (argument_faults l.scopes.words l.scopes.scopes (map expression_of l.arguments) l.initial.params)
