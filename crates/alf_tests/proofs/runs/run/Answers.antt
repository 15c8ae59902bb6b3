use Rattle.std.proofs.Common.{[]}
use Rattle.alf_check.specs.CheckedPrograms.{seen}
use Rattle.alf_runs.specs.Starts.{start}
use Rattle.alf_tests.proofs.runs.run.Goals as goal

pub loop-init : goal.loop-init
loop-init c = record { moment = start (seen c.args.checked.now) [] []; stands = c.in_ok-machine.ensures.stands }
