use Rattle.transfer_tests.proofs.SideLaws.{first_joined}
use Rattle.transfer_tests.proofs.sides.join.Goals as goal

pub returns : goal.returns
returns c = first_joined c.args.sides.now.functions c.args.sides.now.a c.args.sides.now.b c.in_ok-whole.whole c.requires c.in_ok-whole.ensures
