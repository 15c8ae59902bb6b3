-- What was turned, and then the rest, is all.
use Rattle.std.proofs.Common.{◌≡◌, ◌++◌, length}
use Rattle.simplex_rules.specs.Tableaus.{turned}
use Rattle.simplex_tableau.specs.FirstTerms.{AreSmall}
use Rattle.simplex_tableau.proofs.lines.turned.Given as goal

abbrev pub invariant-loop-term : goal.invariant-loop-term
invariant-loop-term l = record {
  all : l.out.items ++ turned l.rest ≡ turned l.terms;
  small : AreSmall l.rest;
}

abbrev pub decreases-loop-term : goal.decreases-loop-term
decreases-loop-term l = length l.rest
