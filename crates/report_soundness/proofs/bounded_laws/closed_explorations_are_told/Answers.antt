-- Reports of closed explorations are told ones.
use Rattle.report_soundness.specs.BoundedLaws.{sound_runs, events_told}
use Rattle.report_soundness.proofs.BoundedLemmas.{kept_told}
use Rattle.report_soundness.proofs.bounded_laws.closed_explorations_are_told.Goals as goal

pub returns-clause-kept : goal.returns-clause-kept
returns-clause-kept g c = λ w kept empty run. kept_told g.S.Stepper.machine w kept empty run

pub returns-clause-runs : goal.returns-clause-runs
returns-clause-runs g c = λ stepper o report sound run is. sound_runs (g.S.Stepper.machine stepper).system o report sound run is

pub returns-clause-events : goal.returns-clause-events
returns-clause-events g c = λ stepper o events w stepper_kept ok along happen empty run.
    events_told g.S.Stepper.machine g.S.State.Lattice.order events stepper o w
    g.met.S.State.Lattice.is_order g.met.S.Stepper.is_machine stepper_kept ok along happen empty run
