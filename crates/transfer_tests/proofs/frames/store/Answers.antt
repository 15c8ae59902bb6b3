use Rattle.std.proofs.Common.{refl}
use Rattle.transfer_tests.proofs.SlotLaws.{stored_slots}
use Rattle.transfer_tests.proofs.frames.store.Goals as goal

pub returns-in_ok-store_strongly : goal.returns-in_ok-store_strongly
returns-in_ok-store_strongly c =
    stored_slots c.args.count c.args.slots.now c.store_strongly.new.slots c.args.offset c.args.size c.args.value.now c.requires
    c.in_ok-store_strongly.ensures.length c.in_ok-store_strongly.ensures.canonical (c.if-is_cell.ensures refl) (c.if-is_value.ensures refl) c.in_ok-store_strongly.ensures.stored
