-- The rows so far are freed, and the others stand.
use Rattle.simplex_tableau.specs.Stepped.{IsDone}
use Rattle.simplex_tableau.proofs.rows.free_others.Given as goal

abbrev pub invariant-loop-index : goal.invariant-loop-index
invariant-loop-index l = IsDone l.place l.by l.row l.index l.initial.rows l.rows
