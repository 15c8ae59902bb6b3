-- What the walk along the rows keeps.
use Rattle.std.proofs.Common.{◌-◌, length}
use Rattle.recorder_rules.specs.BitWords.{IsRowwise}
use Rattle.pair_recorder.proofs.marked.clear_marked.Given as goal

abbrev pub invariant-loop-place : goal.invariant-loop-place
invariant-loop-place l = IsRowwise l.count (length l.marks) l.marks (λ i. 0) l.fn.words l.words l.place

abbrev pub decreases-loop-place : goal.decreases-loop-place
decreases-loop-place l = l.count - l.place
