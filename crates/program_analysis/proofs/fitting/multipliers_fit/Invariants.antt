-- What the loop keeps.
use Rattle.std.proofs.Common.{◌<◌, ℕ, ℤ, get_or}
use Rattle.flow_facts.specs.Writable.{IsLong}
use Rattle.program_analysis.proofs.fitting.multipliers_fit.Given as goal

abbrev pub invariant-loop-multiplier : goal.invariant-loop-multiplier
invariant-loop-multiplier l = (k : ℕ) (d : ℤ) → k < l.multiplier-index → IsLong (get_or l.multipliers k d)
