use Rattle.std.proofs.Common.{length, ◌-◌, ◌≡◌, ◌≤◌}
use Rattle.base_tests.proofs.streams.put.Given as goal

-- the piece keeps its length
abbrev pub invariant-loop-count : goal.invariant-loop-count
invariant-loop-count l = (length l.piece ≡ length l.initial.piece) × (l.count ≤ length l.initial.piece)

abbrev pub decreases-loop-count : goal.decreases-loop-count
decreases-loop-count l = length l.initial.piece - l.count
