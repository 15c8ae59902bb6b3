use Rattle.std.proofs.Common.{◌≡◌, length}
use Rattle.flow_base.specs.Held.{content_of, pairs_of}
use Rattle.flow_base.proofs.sure.content.Given as goal

abbrev pub invariant-loop-first : goal.invariant-loop-first
invariant-loop-first l = content_of (pairs_of l.rest) l.name ≡ content_of (pairs_of l.files) l.name

abbrev pub decreases-loop-first : goal.decreases-loop-first
decreases-loop-first l = length l.rest
