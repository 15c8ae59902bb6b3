-- The lines that were put and those of the rest are those of all.
use Rattle.std.proofs.Common.{◌≡◌, ◌+◌, length}
use Rattle.fact_words.specs.Canonical.{scopes_marks}
use Rattle.fact_words.specs.Printing.{all_put}
use Rattle.fact_words.proofs.printer.put_scopes.Given as goal

abbrev pub invariant-loop-scope : goal.invariant-loop-scope
invariant-loop-scope l = (l.number + length l.rest ≡ length l.scopes) × (all_put l.out.items (scopes_marks l.number l.rest) ≡ all_put l.initial.out.items (scopes_marks 0 l.scopes))

abbrev pub decreases-loop-scope : goal.decreases-loop-scope
decreases-loop-scope l = length l.rest
