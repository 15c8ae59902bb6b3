-- What is left in a row has the faults of all.
use Rattle.std.proofs.Common.{drop}
use Rattle.c_check.proofs.UnderWay.{IsUnderWay}
use Rattle.c_check.proofs.body_statements.+statements.Given as goal

abbrev pub invariant-check_row-loop-statement : goal.invariant-check_row-loop-statement
invariant-check_row-loop-statement l =
    IsUnderWay l.functions.names l.place l.row (drop l.statement-index l.row) l.initial.scopes l.scopes l.initial.labels l.labels
