-- What the walk up the parents keeps.
use Rattle.std.proofs.Common.{◌≡◌, ◌<◌, ◌==◌, length, ◌-◌}
use Rattle.std.specs.List.{list_any}
use Rattle.domain_core.specs.Outlines.{scopes_from}
use Rattle.domain_core.proofs.chain.leads_to.Given as goal

abbrev pub invariant-loop-step : goal.invariant-loop-step
invariant-loop-step l = record {
  low : l.at < length l.scopes;
  same : list_any (λ s. l.target == s) (scopes_from l.scopes (length l.scopes) l.from) ≡ list_any (λ s. l.target == s) (scopes_from l.scopes (length l.scopes - l._step) l.at);
}
