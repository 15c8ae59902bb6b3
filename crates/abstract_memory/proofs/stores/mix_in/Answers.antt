-- What is left to show of `mix_in`: facts of the proof files, applied.
use Rattle.std.proofs.Common.{subst, List}
use Rattle.memory_pages.specs.Slots.{HeldSlot}
use Rattle.memory_rules.specs.AbstractSets.{abstract_sets}
use Rattle.memory_rules.specs.AbstractSetLaws.{abstract_is_sets}
use Rattle.memory_rules.specs.Covers.{FrameSized}
use Rattle.memory_rules.specs.Frames.{FrameMem, weak}
use Rattle.memory_rules.specs.UpdateLaws.{weak_sized}
use Rattle.memory_model.specs.HeldFrames.{frame_of}
use Rattle.abstract_memory.proofs.Changing.{there, own_sized, set_changes_or}
use Rattle.abstract_memory.proofs.stores.mix_in.Goals as goal

pub store_weakly-requires-clause-sized : goal.store_weakly-requires-clause-sized
store_weakly-requires-clause-sized c =
    subst (λ (s : List HeldSlot). FrameSized abstract_sets (frame_of s)) c.index-frames-frame.is
    (own_sized c.args.frames.now c.args.size c.args.cell c.index-frames-frame.result c.requires.fits c.index-frames-frame.is c.requires.sized)

pub returns : goal.returns
returns c =
    set_changes_or c.held_memories_are_those_of_the_rules.ensures.frame c.args.frames.now c.args.cell.0 c.index-frames-frame.result c.store_weakly.new.slots
    (λ (f : FrameMem abstract_sets). weak abstract_sets f c.args.cell.1 c.args.size c.args.value.now)
    (there c.args.frames.now c.args.size c.args.cell c.requires.fits) c.index-frames-frame.is
    c.in_ok-store_weakly.ensures.stored c.in_ok-store_weakly.ensures.length c.in_ok-store_weakly.ensures.canonical
    (λ sized. weak_sized abstract_sets abstract_is_sets (frame_of c.index-frames-frame.result) c.args.cell.1 c.args.size c.args.value.now c.requires.size sized c.requires.value)
