-- The numbers that were noted, and the first ones of what is left, are the first ones of all.
use Rattle.std.proofs.Common.{◌≡◌, ◌<◌, ◌+◌, ℕ, None, length, get_or}
use Rattle.dual_check.specs.Constraints.{is_limit_of}
use Rattle.dual_check.specs.Openings.{or_later, place_of}
use Rattle.dual_check.proofs.firsts.first_limits.Given as goal

abbrev pub invariant-loop-constraint : goal.invariant-loop-constraint
invariant-loop-constraint l = record {
  count : l.number + length l.rest ≡ length l.constraints;
  long : length l.slots ≡ l.nodes;
  made : (n : ℕ) → n < l.nodes → or_later (get_or l.slots n None) (place_of (λ j. is_limit_of n j) l.number l.rest) ≡ place_of (λ j. is_limit_of n j) 0 l.constraints;
}

abbrev pub decreases-loop-constraint : goal.decreases-loop-constraint
decreases-loop-constraint l = length l.rest
