use Rattle.std.proofs.Common.{◌<◌, ℕ}
use Rattle.run_replays.specs.Replays.{IsInside}
use Rattle.run_replays.proofs.values.outside.Given as goal

abbrev pub invariant-loop-k : goal.invariant-loop-k
invariant-loop-k l = (j : ℕ) → j < l.k → IsInside l.rows l.values j
