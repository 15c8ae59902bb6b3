-- What the loop keeps.
use Rattle.std.proofs.Common.{◌<◌, ◌≤◌, ℕ}
use Rattle.std.specs.Prelude.{slice_index}
use Rattle.dual_check.specs.Openings.{costs_of}
use Rattle.fact_tests.proofs.ready.are_cheap.Given as goal

abbrev pub invariant-loop-node : goal.invariant-loop-node
invariant-loop-node l = (k : ℕ) → k < l.node → slice_index (costs_of l.outline) k ≤ 65535
