-- What is left to show of `around`.
use Rattle.recorder_rules.specs.Generated.{generated}
use Rattle.flow_recorders.proofs.ends.Ends.around.Goals as goal

pub loop-i-init : goal.loop-i-init
unfolding generated
loop-i-init c = c.in_ok-found.ensures.items
