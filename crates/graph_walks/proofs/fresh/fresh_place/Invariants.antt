-- What the loop of `fresh_place` keeps.
use Rattle.std.proofs.Common.{◌<◌, ◌≤◌, ℕ, get_or}
use Rattle.graph_walks.specs.MarkedNodes.{IsMarked}
use Rattle.graph_walks.proofs.fresh.fresh_place.Given as goal

abbrev pub invariant-loop-place : goal.invariant-loop-place
invariant-loop-place l = (k : ℕ) → l.first ≤ k → k < l.place → IsMarked l.marks (get_or l.row k 0)
