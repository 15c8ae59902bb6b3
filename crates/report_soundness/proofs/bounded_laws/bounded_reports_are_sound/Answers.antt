-- Reports with a path bound are sound.
use Rattle.report_soundness.specs.BoundedLaws.{bounded_sound, run_at_bound}
use Rattle.report_soundness.proofs.BoundedLemmas.{lone_bound}
use Rattle.report_soundness.proofs.bounded_laws.bounded_reports_are_sound.Goals as goal

pub returns-clause-sound : goal.returns-clause-sound
returns-clause-sound g c = λ stepper o given report pivots along is sound told above.
    bounded_sound (g.S.Stepper.machine stepper) o given report pivots along is sound told above

pub returns-clause-reached : goal.returns-clause-reached
returns-clause-reached g c = λ stepper o report sound within d trace fault starts passes cost.
    run_at_bound (g.S.Stepper.machine stepper).system o report sound within d trace fault starts passes cost

pub returns-clause-alone : goal.returns-clause-alone
returns-clause-alone g c = λ stepper o given report pivots trace told sound within run.
    lone_bound (g.S.Stepper.machine stepper).system o given report pivots trace told sound within run
