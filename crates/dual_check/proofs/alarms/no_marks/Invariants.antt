use Rattle.std.proofs.Common.{◌≡◌, ℕ, false, length, get_or}
use Rattle.dual_check.proofs.alarms.no_marks.Given as goal

abbrev pub invariant-loop-node : goal.invariant-loop-node
invariant-loop-node l = record {
  count : length l.marks.items ≡ l.node;
  none : (n : ℕ) → get_or l.marks.items n false ≡ false;
}
