-- What is left has the faults of all, and leads to the same scopes.
use Rattle.std.proofs.Common.{length, map}
use Rattle.c_unit.specs.Tree.{local_of}
use Rattle.c_faults.proofs.LocalUnderWay.{IsUnderWay}
use Rattle.c_faults.proofs.locals.check_locals.Given as goal

abbrev pub invariant-locals : goal.invariant-locals
invariant-locals l = IsUnderWay l.functions.names l.kind (map local_of l.locals) (map local_of l.rest) l.initial.scopes l.scopes

abbrev pub decreases-locals : goal.decreases-locals
decreases-locals l = length l.rest
