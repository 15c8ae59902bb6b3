use Rattle.std.proofs.Common.{◌≡◌, ◌++◌, false, get_or}
use Rattle.std.specs.List.{flat_map, range_with_len}
use Rattle.dual_check.specs.Terms.{fault_if}
use Rattle.dual_check.proofs.outline_columns.push_faults.Given as goal

abbrev pub invariant-loop-node : goal.invariant-loop-node
invariant-loop-node l = l.out.items ≡ l.initial.out.items ++ flat_map (λ n. fault_if l.end n (get_or l.marks n false)) (range_with_len 0 l.node)
