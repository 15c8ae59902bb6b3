-- What is left has the faults of all, and leads to the same scopes.
use Rattle.std.proofs.Common.{length, map}
use Rattle.c_unit.specs.Tree.{declarator_of}
use Rattle.c_faults.proofs.GlobalUnderWay.{AreUnderWay}
use Rattle.c_faults.proofs.declarators.check_declarators.Given as goal

abbrev pub invariant-declarators : goal.invariant-declarators
invariant-declarators l = AreUnderWay l.first l.given (map declarator_of l.declarators) (map declarator_of l.rest) l.initial.scopes l.scopes

abbrev pub decreases-declarators : goal.decreases-declarators
decreases-declarators l = length l.rest
