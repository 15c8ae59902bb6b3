-- What is left has the faults of all, and leads to the same scopes.
use Rattle.std.proofs.Common.{length}
use Rattle.c_faults.proofs.GlobalUnderWay.{IsUnderWay}
use Rattle.c_faults.proofs.params.declare_params.Given as goal

abbrev pub invariant-params : goal.invariant-params
invariant-params l = IsUnderWay l.params l.rest l.initial.scopes l.scopes

abbrev pub decreases-params : goal.decreases-params
decreases-params l = length l.rest
