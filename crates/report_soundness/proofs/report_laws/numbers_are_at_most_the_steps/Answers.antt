use Rattle.report_soundness.proofs.NumberLaws.{orderly_events}
use Rattle.report_soundness.proofs.report_laws.numbers_are_at_most_the_steps.Goals as goal

pub returns : goal.returns
returns g c = λ stepper o events w happen. orderly_events g.S.Stepper.machine g.S.State.Lattice.order events stepper o w happen
