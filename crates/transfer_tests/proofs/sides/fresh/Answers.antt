use Rattle.transfer_tests.proofs.SideLaws.{both_fresh}
use Rattle.transfer_tests.proofs.sides.fresh.Goals as goal

pub returns : goal.returns
returns c =
    both_fresh c.func_count-functions.result c.args.checked.now c.in_ok-a.a c.in_ok-b.b c.func_count-functions.ensures c.in_ok-a.ensures.checked c.in_ok-b.ensures.checked c.in_ok-a.ensures.kept c.in_ok-b.ensures.kept
    c.in_ok-a.ensures.fresh c.in_ok-b.ensures.fresh
