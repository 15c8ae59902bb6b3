use Rattle.worklist_rules.specs.Events.{opened}
use Rattle.worklist_rules.specs.EventLaws.{start_kept, events_kept}
use Rattle.worklist_rules.specs.SummedLaws.{each_is_summed}
use Rattle.worklist_rules.proofs.laws.each_is_summed.Goals as goal

pub returns-clause-kept : goal.returns-clause-kept
returns-clause-kept g c = λ w kept none. each_is_summed g.S.Stepper.machine g.R.Recorder.recording w kept.handled none

pub returns-clause-events : goal.returns-clause-events
returns-clause-events g c = λ stepper o events w stepper_kept suited along happen none.
    let machine = g.S.Stepper.machine in
    let kept = start_kept machine g.S.State.Lattice.order g.R.Lattice.order g.R.Recorder.recording stepper o (g.met.S.Stepper.is_machine stepper stepper_kept) g.met.R.Recorder.is_recording stepper_kept suited along in
    each_is_summed machine g.R.Recorder.recording w
    (events_kept machine g.S.State.Lattice.order g.R.Lattice.order g.R.Recorder.recording events (opened machine g.R.Recorder.recording stepper o) w g.met.S.State.Lattice.is_order g.met.S.Stepper.is_machine g.met.R.Lattice.is_order g.met.R.Recorder.is_recording kept happen).handled
    none
