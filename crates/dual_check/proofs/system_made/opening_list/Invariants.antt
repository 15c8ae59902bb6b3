use Rattle.std.proofs.Common.{◌≡◌}
use Rattle.dual_check.specs.Openings.{openings_of}
use Rattle.dual_check.proofs.system_made.opening_list.Given as goal

abbrev pub invariant-loop-node : goal.invariant-loop-node
invariant-loop-node l = l.out.items ≡ openings_of l.columns l.constraints l.node
