use Rattle.transfer_tests.proofs.SlotLaws.{bare_slots}
use Rattle.transfer_tests.proofs.frames.bare.Goals as goal

pub returns : goal.returns
returns c = bare_slots c.held_memories_are_those_of_the_rules.ensures.fresh c.args.count c.in_ok-slots.slots c.in_ok-slots.ensures
