-- What is left to show of `new`: facts of the proof files, applied.
use Rattle.alf_values.proofs.Blank.{new_kept, new_stands, new_made}
use Rattle.alf_values.proofs.memory.Frames.new.Goals as goal

pub invariant_of-result : goal.invariant_of-result
invariant_of-result c =
    new_kept c.in_ok-frames.frames.items c.in_ok-functions.functions.items c.frames.result.now c.func_count.result c.in_ok-frames.ensures c.in_ok-functions.ensures

pub returns-clause-made : goal.returns-clause-made
returns-clause-made c =
    new_made c.in_ok-frames.frames.items c.in_ok-functions.functions.items c.frames.result.now c.func_count.result c.in_ok-frames.ensures c.in_ok-functions.ensures _ c.frames.ensures.frames c.func_count.ensures

pub returns-clause-stands : goal.returns-clause-stands
returns-clause-stands c =
    new_stands c.in_ok-frames.frames.items c.in_ok-functions.functions.items c.frames.result.now c.func_count.result c.in_ok-frames.ensures c.in_ok-functions.ensures
