use Rattle.std.proofs.Common.{◌≡◌, ◌++◌, length}
use Rattle.simplex_tableau.specs.Reducing.{divided_terms}
use Rattle.simplex_tableau.proofs.reducing.divided.Given as goal

abbrev pub invariant-loop-term : goal.invariant-loop-term
invariant-loop-term l = l.out.items ++ divided_terms l.by l.rest ≡ divided_terms l.by l.terms

abbrev pub decreases-loop-term : goal.decreases-loop-term
decreases-loop-term l = length l.rest
