use Rattle.std.proofs.Common.{refl}
use Rattle.worklist_rules.specs.Events.{opened}
use Rattle.worklist_rules.specs.EventLaws.{start_kept}
use Rattle.worklist_rules.specs.SharpLaws.{sharp_start, sharp_events}
use Rattle.worklist_rules.proofs.laws.a_sharp_pool_follows_its_run.Goals as goal

pub returns : goal.returns
returns g c = λ stepper o events w run stepper_kept suited along is_run alone happen.
    let machine = g.S.Stepper.machine in
    let states = g.S.State.Lattice.order in
    let recorders = g.R.Lattice.order in
    let z = g.R.Recorder.recording in
    let machine_laws = g.met.S.Stepper.is_machine stepper stepper_kept in
    let kept = start_kept machine states recorders z stepper o machine_laws g.met.R.Recorder.is_recording stepper_kept suited along in
    sharp_events machine states recorders z events stepper (opened machine z stepper o) w run refl g.met.S.State.Lattice.is_order g.met.S.Stepper.is_machine g.met.R.Lattice.is_order g.met.R.Recorder.is_recording kept is_run
    (sharp_start machine states recorders z stepper o run machine_laws g.met.R.Recorder.is_recording suited is_run alone)
    happen
