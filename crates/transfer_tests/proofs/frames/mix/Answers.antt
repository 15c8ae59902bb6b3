use Rattle.std.proofs.Common.{refl}
use Rattle.transfer_tests.proofs.SlotLaws.{mixed_slots}
use Rattle.transfer_tests.proofs.frames.mix.Goals as goal

pub returns-in_ok-store_weakly : goal.returns-in_ok-store_weakly
returns-in_ok-store_weakly c =
    mixed_slots c.args.count c.args.slots.now c.store_weakly.new.slots c.args.offset c.args.size c.args.value.now c.requires
    c.in_ok-store_weakly.ensures.length c.in_ok-store_weakly.ensures.canonical (c.if-is_cell.ensures refl) (c.if-is_value.ensures refl) c.in_ok-store_weakly.ensures.stored
