-- What the loop over the nodes keeps.
use Rattle.std.proofs.Common.{◌≡◌, ◌<◌, ◌*◌, ◌==◌, ◌||◌, ℕ, length, take}
use Rattle.recorder_rules.specs.BitWords.{is_marked}
use Rattle.pair_recorder.specs.Paths.{met, paired_in}
use Rattle.pair_recorder.proofs.collecting.collect_scope.Given as goal

abbrev pub invariant-loop-seen : goal.invariant-loop-seen
invariant-loop-seen l = record {
  wide : length l.marks.items ≡ l.width;
  marks : (a : ℕ) → a < l.count → is_marked l.marks.items 0 a ≡ met a l.scope (take l.seen-index l.entries);
  rows : (a b : ℕ) → a < l.count → b < l.count → is_marked l.rows (a * l.width) b ≡ (is_marked l.fn.rows (a * l.width) b || paired_in (λ t. t == l.scope) a b (take l.seen-index l.entries));
}
