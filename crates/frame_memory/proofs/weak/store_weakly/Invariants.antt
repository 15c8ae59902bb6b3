-- What `store_weakly` keeps: what begins before the place is stored.
use Rattle.memory_model.specs.HeldFrames.{frame_of}
use Rattle.frame_memory.specs.StandingCells.{seen}
use Rattle.frame_memory.specs.Places.{Becomes, below, weakly}
use Rattle.frame_memory.proofs.weak.store_weakly.Given as goal

abbrev pub invariant-loop-place : goal.invariant-loop-place
invariant-loop-place l =
    Becomes l.initial.slots l.slots (below l.place (weakly (frame_of l.initial.slots) l.offset l.size (seen l.cell) l.value) (frame_of l.initial.slots))
