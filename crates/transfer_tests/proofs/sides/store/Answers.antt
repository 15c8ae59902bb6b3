use Rattle.transfer_tests.proofs.SideLaws.{stored_first}
use Rattle.transfer_tests.proofs.sides.store.Goals as goal

pub returns-then-is_value-2 : goal.returns-then-is_value-2
returns-then-is_value-2 c =
    stored_first c.args.sides.now.functions c.args.sides.now.a c.args.sides.now.b c.store.new.self c.args.at.now c.args.value.now c.args.size c.requires
    c.in_ok-told.ensures.checked c.in_ok-told.ensures.kept c.in_ok-told.ensures.stored
