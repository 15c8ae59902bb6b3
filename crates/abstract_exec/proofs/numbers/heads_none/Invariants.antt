-- What the walk up the parents keeps: a scope further out was passed, or is still ahead.
use Rattle.std.proofs.Common.{◌≡◌, ◌<◌, ◌⊎◌, ℕ, false, length}
use Rattle.domain_core.specs.Outlines.{LeadsTo, shape_of}
use Rattle.domain_core.specs.Executions.{is_header}
use Rattle.abstract_exec.proofs.numbers.heads_none.Given as goal

abbrev pub invariant-loop-step : goal.invariant-loop-step
invariant-loop-step l = record {
  low : l.at < length l.outline.scopes;
  ahead : (t : ℕ) → LeadsTo l.outline.scopes t l.scope
      → (is_header (shape_of l.outline) t l.node ≡ false) ⊎ LeadsTo l.outline.scopes t l.at;
}
