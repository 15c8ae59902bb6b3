-- What the loop keeps.
use Rattle.std.proofs.Common.{◌≡◌, ℕ, Some}
use Rattle.domain_core.specs.Outlines.{header_of}
use Rattle.recorder_rules.specs.Generated.{generated}
use Rattle.flow_recorders.proofs.begun.each_header.Given as goal

abbrev pub invariant-loop-t : goal.invariant-loop-t
invariant-loop-t l = l.keys.items ≡ generated l.t (λ (k : ℕ). Some (header_of l.outline.scopes k))
