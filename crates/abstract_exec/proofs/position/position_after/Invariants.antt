-- What the walk along the scopes keeps.
use Rattle.std.proofs.Common.{◌≡◌, ◌<◌, ◌++◌, ℕ, Contains, length}
use Rattle.domain_core.specs.Outlines.{shape_of, scopes_around}
use Rattle.worklist_rules.specs.Positions.{ranks_and_turns, entered, turn_in}
use Rattle.abstract_exec.proofs.position.position_after.Given as goal

abbrev pub invariant-loop-scope : goal.invariant-loop-scope
invariant-loop-scope l = record {
  low : (t : ℕ) → Contains l.rest t → t < length l.outline.scopes;
  same : l.made.items ++ ranks_and_turns (shape_of l.outline) (λ t. entered (shape_of l.outline) l.to t (turn_in l.scopes l.position t)) l.rest
      ≡ ranks_and_turns (shape_of l.outline) (λ t. entered (shape_of l.outline) l.to t (turn_in l.scopes l.position t)) (scopes_around (shape_of l.outline) l.to);
}

abbrev pub decreases-loop-scope : goal.decreases-loop-scope
decreases-loop-scope l = length l.rest
