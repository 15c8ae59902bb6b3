-- What the loop over the scopes keeps.
use Rattle.std.proofs.Common.{◌≡◌, ◌<◌, ℕ, length, drop}
use Rattle.recorder_rules.specs.TotalRules.{span_at, spread_at}
use Rattle.recorder_rules.specs.TallyRules.{key_at}
use Rattle.flow_recorders.proofs.Walking.{after_each}
use Rattle.flow_recorders.proofs.walked.collect_scopes.Given as goal

abbrev pub invariant-loop-scope : goal.invariant-loop-scope
invariant-loop-scope l = (j : ℕ) → j < length l.fn.spreads
    → after_each (key_at l.chains j) (spread_at l.spreads j) (span_at l.spans j) (drop l.scope-index l.scopes) ≡ after_each (key_at l.chains j) (spread_at l.fn.spreads j) (span_at l.spans j) l.scopes
