-- The numbers that were put into the lists, and those of the columns that are left, are all.
use Rattle.std.proofs.Common.{◌≡◌, ◌+◌, ◌++◌, ℕ, [], length, get_or}
use Rattle.dual_check.specs.Places.{touching_of}
use Rattle.dual_check.specs.Terms.{AreFrom}
use Rattle.dual_check.proofs.touching.touching.Given as goal

abbrev pub invariant-loop-column : goal.invariant-loop-column
invariant-loop-column l = record {
  count : l.number + length l.rest ≡ length l.columns;
  long : length l.slots ≡ l.nodes + 1;
  nodes : AreFrom l.nodes l.rest;
  made : (n : ℕ) → get_or l.slots n [] ++ touching_of n l.number l.rest ≡ touching_of n 0 l.columns;
}

abbrev pub decreases-loop-column : goal.decreases-loop-column
decreases-loop-column l = length l.rest
