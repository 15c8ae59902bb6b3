-- What the loop over the scopes keeps.
use Rattle.std.specs.Prelude.{◌↔◌, ◌⊎◌, IsTrue}
use Rattle.std.specs.List.{list_any}
use Rattle.std.proofs.Common.{◌≡◌, ◌<◌, ℕ, length, drop}
use Rattle.recorder_rules.specs.TotalRules.{span_at}
use Rattle.recorder_rules.specs.TallyRules.{key_at, is_at}
use Rattle.flow_recorders.specs.Walked.{HasWide}
use Rattle.flow_recorders.proofs.Walking.{reset_each}
use Rattle.flow_recorders.proofs.walked.reset_all.Given as goal

abbrev pub invariant-loop-scope : goal.invariant-loop-scope
invariant-loop-scope l = record {
  same_length : length l.spans ≡ length l.fn.spans;
  reset : (j : ℕ) → j < length l.fn.spans → reset_each (key_at l.chains j) (span_at l.spans j) (drop l.scope-index l.scopes) ≡ reset_each (key_at l.chains j) (span_at l.fn.spans j) l.scopes;
  wide : (IsTrue l.was_wide ⊎ HasWide l.chains (λ key. list_any (λ k. is_at key k) (drop l.scope-index l.scopes)) l.spans) ↔ HasWide l.chains (λ key. list_any (λ k. is_at key k) l.scopes) l.fn.spans;
}
