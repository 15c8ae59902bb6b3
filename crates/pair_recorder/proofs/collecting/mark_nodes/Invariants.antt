-- What the loop over the nodes keeps.
use Rattle.std.proofs.Common.{◌≡◌, ◌<◌, ◌||◌, ℕ, take}
use Rattle.recorder_rules.specs.BitWords.{is_marked}
use Rattle.pair_recorder.specs.Paths.{entered}
use Rattle.pair_recorder.proofs.collecting.mark_nodes.Given as goal

abbrev pub invariant-loop-seen : goal.invariant-loop-seen
invariant-loop-seen l = (a : ℕ) → a < l.count → is_marked l.marks 0 a ≡ (is_marked l.fn.marks 0 a || entered a (take l.seen-index l.entries))
