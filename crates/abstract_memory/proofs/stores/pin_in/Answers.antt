-- What is left to show of `pin_in`: facts of the proof files, applied.
use Rattle.pointer_rules.specs.AbstractValues.{Words, alone}
use Rattle.memory_rules.specs.AbstractSets.{abstract_sets}
use Rattle.memory_rules.specs.AbstractSetLaws.{abstract_is_sets}
use Rattle.memory_rules.specs.Frames.{FrameMem, pinned}
use Rattle.memory_rules.specs.UpdateLaws.{pinned_sized}
use Rattle.memory_model.specs.HeldFrames.{frame_of}
use Rattle.abstract_memory.proofs.Changing.{there, set_changes_or}
use Rattle.abstract_memory.proofs.stores.pin_in.Goals as goal

pub returns : goal.returns
returns c =
    set_changes_or c.held_memories_are_those_of_the_rules.ensures.frame c.args.frames.now c.args.cell.0 c.index-frames-frame.result c.pin.new.slots
    (λ (f : FrameMem abstract_sets). pinned abstract_sets f c.args.cell.1 c.args.size (alone (Words c.args.words)))
    (there c.args.frames.now c.args.size c.args.cell c.requires.fits) c.index-frames-frame.is
    c.in_ok-pin.ensures.pinned c.in_ok-pin.ensures.length c.in_ok-pin.ensures.canonical
    (λ sized. pinned_sized abstract_sets abstract_is_sets (frame_of c.index-frames-frame.result) c.args.cell.1 c.args.size (alone (Words c.args.words)) sized c.requires.words)
