use Rattle.std.proofs.Common.{◌≡◌, map, drop}
use Rattle.alf_program.specs.Tree.{allocation_of, expression_of}
use Rattle.alf_faults.specs.Sizes.{arguments_fit}
use Rattle.alf_faults.proofs.size_rules.arguments_fit.Given as goal

abbrev pub invariant-loop-arg : goal.invariant-loop-arg
invariant-loop-arg l =
    arguments_fit (map allocation_of l.frames) (map expression_of (drop l.arg-index l.args)) ≡ arguments_fit (map allocation_of l.initial.frames) (map expression_of l.args)
