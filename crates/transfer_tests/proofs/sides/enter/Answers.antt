use Rattle.transfer_tests.proofs.SideLaws.{both_entered}
use Rattle.transfer_tests.proofs.sides.enter.Goals as goal

pub returns-in_ok-enter-2 : goal.returns-in_ok-enter-2
returns-in_ok-enter-2 c =
    both_entered c.args.sides.now.functions c.args.sides.now.a c.args.sides.now.b c.enter.new.self c.enter-then-func-sides.new.self c.args.func c.requires
    c.in_ok-enter.ensures.checked c.in_ok-enter-2.ensures.checked c.in_ok-enter.ensures.kept c.in_ok-enter-2.ensures.kept
    c.in_ok-enter.ensures.entered c.in_ok-enter-2.ensures.entered
