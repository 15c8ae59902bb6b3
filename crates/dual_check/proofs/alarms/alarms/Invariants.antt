-- The nodes that are marked, and those with an alarm in what is left, are those with one in all.
use Rattle.std.proofs.Common.{◌≡◌, ◌<◌, ℕ, false, length, get_or}
use Rattle.std.specs.Prelude.{◌||◌}
use Rattle.ipet_rows.specs.Columns.{has_alarm}
use Rattle.dual_check.proofs.alarms.alarms.Given as goal

abbrev pub invariant-loop-fact : goal.invariant-loop-fact
invariant-loop-fact l = record {
  long : length l.slots ≡ l.nodes;
  made : (n : ℕ) → n < l.nodes → (get_or l.slots n false || has_alarm l.rest n) ≡ has_alarm l.facts n;
}

abbrev pub decreases-loop-fact : goal.decreases-loop-fact
decreases-loop-fact l = length l.rest
