use Rattle.transfer_tests.proofs.SideLaws.{both_left}
use Rattle.transfer_tests.proofs.sides.leave.Goals as goal

pub returns-then-func-sides : goal.returns-then-func-sides
returns-then-func-sides c =
    both_left c.args.sides.now.functions c.args.sides.now.a c.args.sides.now.b c.leave.new.self c.leave-then-func-sides.new.self c.args.func c.requires
    c.leave.ensures.checked c.leave-then-func-sides.ensures.checked (c.leave.ensures.kept c.requires.alike.first) (c.leave-then-func-sides.ensures.kept c.requires.alike.second)
    c.leave.ensures.left c.leave-then-func-sides.ensures.left
