-- What `store_strongly` keeps: what begins before the place is stored.
use Rattle.memory_rules.specs.Frames.{strong}
use Rattle.memory_rules.specs.AbstractSets.{abstract_sets}
use Rattle.memory_model.specs.HeldFrames.{frame_of}
use Rattle.frame_memory.specs.Places.{Becomes, below}
use Rattle.frame_memory.proofs.strong.store_strongly.Given as goal

abbrev pub invariant-loop-place : goal.invariant-loop-place
invariant-loop-place l =
    Becomes l.initial.slots l.slots (below l.place (strong abstract_sets (frame_of l.initial.slots) l.offset l.size l.value) (frame_of l.initial.slots))
