use Rattle.std.proofs.Common.{◌≡◌, ℕ, None, length, get_or}
use Rattle.dual_check.proofs.firsts.no_numbers.Given as goal

abbrev pub invariant-loop-node : goal.invariant-loop-node
invariant-loop-node l = record {
  count : length l.firsts.items ≡ l.node;
  none : (n : ℕ) → get_or l.firsts.items n None ≡ None;
}
