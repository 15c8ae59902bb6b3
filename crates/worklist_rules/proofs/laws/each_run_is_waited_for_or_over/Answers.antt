use Rattle.worklist_rules.specs.Events.{opened}
use Rattle.worklist_rules.specs.EventLaws.{start_kept, events_kept}
use Rattle.worklist_rules.specs.RunLaws.{each_run, each_run_is_over}
use Rattle.worklist_rules.proofs.laws.each_run_is_waited_for_or_over.Goals as goal

pub returns-clause-waited : goal.returns-clause-waited
returns-clause-waited g c = λ stepper o events w stepper_kept suited along happen.
    let machine = g.S.Stepper.machine in
    let kept = start_kept machine g.S.State.Lattice.order g.R.Lattice.order g.R.Recorder.recording stepper o (g.met.S.Stepper.is_machine stepper stepper_kept) g.met.R.Recorder.is_recording stepper_kept suited along in
    each_run machine g.R.Recorder.recording w
    (events_kept machine g.S.State.Lattice.order g.R.Lattice.order g.R.Recorder.recording events (opened machine g.R.Recorder.recording stepper o) w g.met.S.State.Lattice.is_order g.met.S.Stepper.is_machine g.met.R.Lattice.is_order g.met.R.Recorder.is_recording kept happen).handled

pub returns-clause-over : goal.returns-clause-over
returns-clause-over g c = λ stepper o events w stepper_kept suited along happen none.
    let machine = g.S.Stepper.machine in
    let kept = start_kept machine g.S.State.Lattice.order g.R.Lattice.order g.R.Recorder.recording stepper o (g.met.S.Stepper.is_machine stepper stepper_kept) g.met.R.Recorder.is_recording stepper_kept suited along in
    each_run_is_over machine g.R.Recorder.recording w
    (events_kept machine g.S.State.Lattice.order g.R.Lattice.order g.R.Recorder.recording events (opened machine g.R.Recorder.recording stepper o) w g.met.S.State.Lattice.is_order g.met.S.Stepper.is_machine g.met.R.Lattice.is_order g.met.R.Recorder.is_recording kept happen).handled
    none
