-- What is left to show of `store_in`: facts of the proof files, applied.
use Rattle.memory_rules.specs.AbstractSets.{abstract_sets}
use Rattle.memory_rules.specs.AbstractSetLaws.{abstract_is_sets}
use Rattle.memory_rules.specs.Frames.{FrameMem, strong}
use Rattle.memory_rules.specs.UpdateLaws.{strong_sized}
use Rattle.memory_model.specs.HeldFrames.{frame_of}
use Rattle.abstract_memory.proofs.Changing.{there, set_changes_or}
use Rattle.abstract_memory.proofs.stores.store_in.Goals as goal

pub returns : goal.returns
returns c =
    set_changes_or c.held_memories_are_those_of_the_rules.ensures.frame c.args.frames.now c.args.cell.0 c.index-frames-frame.result c.store_strongly.new.slots
    (λ (f : FrameMem abstract_sets). strong abstract_sets f c.args.cell.1 c.args.size c.args.value.now)
    (there c.args.frames.now c.args.size c.args.cell c.requires.fits) c.index-frames-frame.is
    c.in_ok-store_strongly.ensures.stored c.in_ok-store_strongly.ensures.length c.in_ok-store_strongly.ensures.canonical
    (λ sized. strong_sized abstract_sets abstract_is_sets (frame_of c.index-frames-frame.result) c.args.cell.1 c.args.size c.args.value.now c.requires.size sized c.requires.value)
