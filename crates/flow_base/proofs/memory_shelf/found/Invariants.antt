use Rattle.std.proofs.Common.{◌≡◌, length}
use Rattle.flow_base.specs.Held.{found_in, pairs_of}
use Rattle.flow_base.proofs.memory_shelf.found.Given as goal

abbrev pub invariant-loop-first : goal.invariant-loop-first
invariant-loop-first l = found_in (pairs_of l.rest) l.name ≡ found_in (pairs_of l.files) l.name

abbrev pub decreases-loop-first : goal.decreases-loop-first
decreases-loop-first l = length l.rest
