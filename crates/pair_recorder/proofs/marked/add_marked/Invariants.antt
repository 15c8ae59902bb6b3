-- What the walk along the rows keeps.
use Rattle.std.proofs.Common.{◌-◌, length, bit_or, get_or}
use Rattle.recorder_rules.specs.BitWords.{IsRowwise}
use Rattle.pair_recorder.proofs.marked.add_marked.Given as goal

abbrev pub invariant-loop-place : goal.invariant-loop-place
invariant-loop-place l = IsRowwise l.count (length l.marks) l.marks (λ i. bit_or (get_or l.fn.into i 0) (get_or l.from i 0)) l.fn.into l.into l.place

abbrev pub decreases-loop-place : goal.decreases-loop-place
decreases-loop-place l = l.count - l.place
