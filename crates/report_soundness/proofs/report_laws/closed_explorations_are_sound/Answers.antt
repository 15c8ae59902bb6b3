use Rattle.report_soundness.specs.SoundLaws.{sound_report}
use Rattle.report_soundness.specs.EventLaws.{sound_events}
use Rattle.report_soundness.proofs.report_laws.closed_explorations_are_sound.Goals as goal

pub returns-clause-kept : goal.returns-clause-kept
returns-clause-kept g c = λ w kept none. sound_report g.S.Stepper.machine w kept.suited.kept kept.handled none

pub returns-clause-events : goal.returns-clause-events
returns-clause-events g c = λ stepper o events w stepper_kept ok along happen none.
    sound_events g.S.Stepper.machine g.S.State.Lattice.order events stepper o w g.met.S.State.Lattice.is_order g.met.S.Stepper.is_machine stepper_kept ok along happen none
