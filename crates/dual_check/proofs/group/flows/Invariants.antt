use Rattle.std.proofs.Common.{◌≡◌, map}
use Rattle.std.specs.List.{range_with_len}
use Rattle.dual_check.specs.declared.constraint.Constraint.TheVariants.{Flow}
use Rattle.dual_check.proofs.group.flows.Given as goal

abbrev pub invariant-loop-node : goal.invariant-loop-node
invariant-loop-node l = l.out.items ≡ map (λ n. Flow n) (range_with_len 0 l.node)
