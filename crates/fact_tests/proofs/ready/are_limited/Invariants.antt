-- What the loop keeps.
use Rattle.std.proofs.Common.{◌<◌, ℕ}
use Rattle.simplex_rules.specs.OutlineOpenings.{IsLimited}
use Rattle.fact_tests.proofs.ready.are_limited.Given as goal

abbrev pub invariant-loop-node : goal.invariant-loop-node
invariant-loop-node l = (k : ℕ) → k < l.node → IsLimited l.facts k
