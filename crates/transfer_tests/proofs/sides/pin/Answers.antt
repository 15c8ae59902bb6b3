use Rattle.std.proofs.Common.{ap}
use Rattle.memory_rules.specs.AbstractSets.{abstract_sets}
use Rattle.memory_rules.specs.Memories.{Mem}
use Rattle.transfer_tests.proofs.SideLaws.{first_changed}
use Rattle.transfer_tests.proofs.sides.pin.Goals as goal

pub returns-in_ok-pin : goal.returns-in_ok-pin
returns-in_ok-pin c =
    first_changed c.args.sides.now.functions c.args.sides.now.a c.args.sides.now.b c.pin.new.self c.requires c.in_ok-pin.ensures.checked c.in_ok-pin.ensures.kept
    (ap (λ (m : Mem abstract_sets). m.runs) c.in_ok-pin.ensures.pinned)
