-- What the walk up the scopes keeps.
use Rattle.std.proofs.Common.{◌≡◌, ◌<◌, ◌-◌, ◌==◌, ◌||◌, ◌&&◌, ℕ, length, get_or}
use Rattle.std.specs.List.{list_any}
use Rattle.domain_core.specs.Outlines.{shape_of, scopes_from, header_of}
use Rattle.pair_recorder.proofs.ending.add_all_headed.Given as goal

abbrev pub invariant-loop-step : goal.invariant-loop-step
invariant-loop-step l = record {
  low : l.scope < length l.outline.scopes;
  found : (t : ℕ) → (list_any (λ s. t == s) l.ended.items || list_any (λ s. (t == s) && (header_of l.outline.scopes s == l.to)) (scopes_from l.outline.scopes (length l.outline.scopes - l.step) l.scope))
      ≡ (list_any (λ s. t == s) l.fn.ended.items || list_any (λ s. (t == s) && (header_of l.outline.scopes s == l.to)) (scopes_from l.outline.scopes (length l.outline.scopes) (get_or (shape_of l.outline).own l.from 0)));
}
