-- What the loop over the scopes keeps: none of those before is the one looked for.
use Rattle.std.proofs.Common.{◌≡◌, ◌==◌, false, take}
use Rattle.std.specs.List.{list_any}
use Rattle.pair_recorder.proofs.seen.is_within.Given as goal

abbrev pub invariant-loop-scope : goal.invariant-loop-scope
invariant-loop-scope l = list_any (λ s. l.seen.scope == s) (take l.scope-index l.scopes) ≡ false
