-- What is left are the oldest names.
use Rattle.std.proofs.Common.{length}
use Rattle.c_scopes.proofs.Shortened.{IsShortened}
use Rattle.c_scopes.proofs.scopes.shorten.Given as goal

abbrev pub invariant-loop-row : goal.invariant-loop-row
invariant-loop-row l = IsShortened l.count l.initial.row l.row

abbrev pub decreases-loop-row : goal.decreases-loop-row
decreases-loop-row l = length l.row.names
