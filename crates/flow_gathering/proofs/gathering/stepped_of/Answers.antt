-- What is left to show of `stepped_of`.
use Rattle.flow_gathering.specs.TakeLaws.{taken_more}
use Rattle.flow_gathering.proofs.gathering.stepped_of.Goals as goal

pub loop-n-preserved : goal.loop-n-preserved
loop-n-preserved g c = taken_more c.args.pool.now.stepped c.loop-n.stepped.items c.push.new.self.items c.loop-n.n c.stepped.result c.in_ok-push.ensures.items c.loop-n.invariant c.stepped.ensures
