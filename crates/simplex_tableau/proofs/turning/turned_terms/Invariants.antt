-- What is made, and then the rest, is all turned; and all fit where the rest does.
use Rattle.std.proofs.Common.{◌≡◌, ◌++◌, length}
use Rattle.simplex_rules.specs.Tableaus.{turned}
use Rattle.simplex_tableau.specs.Turning.{turned_fits}
use Rattle.simplex_tableau.proofs.turning.turned_terms.Given as goal

abbrev pub invariant-loop-term : goal.invariant-loop-term
invariant-loop-term l = record {
  made : l.out.items ++ turned l.rest ≡ turned l.terms;
  fit : turned_fits l.rest ≡ turned_fits l.terms;
}

abbrev pub decreases-loop-term : goal.decreases-loop-term
decreases-loop-term l = length l.rest
