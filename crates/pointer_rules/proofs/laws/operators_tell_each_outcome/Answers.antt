use Rattle.pointer_rules.specs.ApplyLaws.{applied_is, applied_tells, applied_only}
use Rattle.pointer_rules.proofs.laws.operators_tell_each_outcome.Goals as goal

pub returns-clause-sized : goal.returns-clause-sized
returns-clause-sized c = applied_is

pub returns-clause-covering : goal.returns-clause-covering
returns-clause-covering c = applied_tells

pub returns-clause-sharp : goal.returns-clause-sharp
returns-clause-sharp c = applied_only
