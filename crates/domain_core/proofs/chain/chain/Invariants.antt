-- What the walk up the parents keeps.
use Rattle.std.proofs.Common.{◌≡◌, ◌<◌, ◌++◌, length, ◌-◌}
use Rattle.domain_core.specs.Outlines.{scopes_from}
use Rattle.domain_core.proofs.chain.chain.Given as goal

abbrev pub invariant-loop-step : goal.invariant-loop-step
invariant-loop-step l = record {
  low : l.at < length l.scopes;
  same : l.found.items ++ scopes_from l.scopes (length l.scopes - l._step) l.at ≡ scopes_from l.scopes (length l.scopes) l.from;
}
