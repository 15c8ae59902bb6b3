-- The numbers that were noted, and the first ones of what is left, are the first ones of all.
use Rattle.std.proofs.Common.{◌≡◌, ◌==◌, ◌<◌, ◌+◌, ℕ, None, length, get_or}
use Rattle.dual_check.specs.Openings.{or_later, place_of}
use Rattle.dual_check.proofs.firsts.first_columns.Given as goal

abbrev pub invariant-loop-column : goal.invariant-loop-column
invariant-loop-column l = record {
  count : l.number + length l.rest ≡ length l.columns;
  long : length l.slots ≡ l.nodes;
  made : (n : ℕ) → n < l.nodes → or_later (get_or l.slots n None) (place_of (λ d. n == d.from) l.number l.rest) ≡ place_of (λ d. n == d.from) 0 l.columns;
}

abbrev pub decreases-loop-column : goal.decreases-loop-column
decreases-loop-column l = length l.rest
