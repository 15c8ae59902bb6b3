-- What the loop over the nodes keeps.
use Rattle.std.proofs.Common.{◌≡◌, take}
use Rattle.pair_recorder.specs.Paths.{scopes_in}
use Rattle.pair_recorder.proofs.entries.scopes_of.Given as goal

abbrev pub invariant-loop-seen : goal.invariant-loop-seen
invariant-loop-seen l = l.scopes.items ≡ scopes_in (take l.seen-index l.entries)
