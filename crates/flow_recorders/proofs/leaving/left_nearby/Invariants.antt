-- What the walk up the scopes keeps.
use Rattle.std.proofs.Common.{◌≡◌, ◌<◌, ◌-◌, ◌++◌, ◌==◌, ℕ, true, false, length, get_or}
use Rattle.std.specs.List.{list_any}
use Rattle.domain_core.specs.Outlines.{shape_of, scopes_from, LeadsTo}
use Rattle.flow_recorders.specs.Climbs.{near}
use Rattle.flow_recorders.proofs.leaving.left_nearby.Given as goal

abbrev pub invariant-loop-step : goal.invariant-loop-step
invariant-loop-step l = record {
  low : l.scope < length l.outline.scopes;
  whole : l.left.items ++ scopes_from l.outline.scopes (length l.outline.scopes - l.step) l.scope ≡ scopes_from l.outline.scopes (length l.outline.scopes) (get_or (shape_of l.outline).own l.from 0);
  apart : (t : ℕ) → list_any (λ n. t == n) l.left.items ≡ true → near l.own l.around t ≡ false;
  below : (t : ℕ) → list_any (λ n. t == n) l.left.items ≡ true → LeadsTo l.outline.scopes l.scope t;
}
