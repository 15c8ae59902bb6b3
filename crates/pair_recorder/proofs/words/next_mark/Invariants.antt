-- What the walk over the words keeps.
use Rattle.std.proofs.Common.{◌≡◌, ◌-◌, ◌*◌, ◌<◌, ◌≤◌, ℕ, false, length}
use Rattle.recorder_rules.specs.BitWords.{is_marked}
use Rattle.pair_recorder.proofs.words.next_mark.Given as goal

abbrev pub invariant-loop-place : goal.invariant-loop-place
invariant-loop-place l = (l.start ≤ l.place) × (l.place ≤ 64 * length l.marks) × ((x : ℕ) → l.start ≤ x → x < l.place → is_marked l.marks 0 x ≡ false)

abbrev pub decreases-loop-place : goal.decreases-loop-place
decreases-loop-place l = 64 * length l.marks - l.place
