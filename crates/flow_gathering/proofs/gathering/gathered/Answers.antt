-- What is left to show of `gathered`.
use Rattle.std.proofs.Common.{refl}
use Rattle.flow_gathering.proofs.Sizes.{pool_sized}
use Rattle.flow_gathering.proofs.gathering.gathered.Goals as goal

pub returns-clause-sized : goal.returns-clause-sized
returns-clause-sized g c = pool_sized g.S.Stepper.machine c.args.pool.now c.args.pool.now.outline c.in_ok-found.found c.requires.kept.kept refl c.in_ok-found.ensures
