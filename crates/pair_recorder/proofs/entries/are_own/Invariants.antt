-- What the loop over the nodes keeps.
use Rattle.std.proofs.Common.{take}
use Rattle.domain_core.specs.Outlines.{shape_of}
use Rattle.pair_recorder.specs.Paths.{AreOwn}
use Rattle.pair_recorder.proofs.entries.are_own.Given as goal

abbrev pub invariant-loop-seen : goal.invariant-loop-seen
invariant-loop-seen l = AreOwn (shape_of l.outline) (take l.seen-index l.entries)
