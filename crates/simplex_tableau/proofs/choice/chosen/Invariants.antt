-- The best so far, with those of what is left, is the best of all.
use Rattle.std.proofs.Common.{◌≡◌, None, length}
use Rattle.simplex_tableau.specs.Choosing.{choose}
use Rattle.simplex_tableau.proofs.choice.chosen.Given as goal

abbrev pub invariant-loop-term : goal.invariant-loop-term
invariant-loop-term l = choose l.best l.rest l.costs ≡ choose None l.row l.objective

abbrev pub decreases-loop-term : goal.decreases-loop-term
decreases-loop-term l = length l.rest
