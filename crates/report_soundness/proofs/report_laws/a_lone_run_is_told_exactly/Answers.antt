use Rattle.report_soundness.specs.LoneLaws.{lone_report}
use Rattle.report_soundness.proofs.report_laws.a_lone_run_is_told_exactly.Goals as goal

pub returns : goal.returns
returns g c = λ stepper o events w stepper_kept ok along happen none start trace fault starts alone passes.
    lone_report g.S.Stepper.machine g.S.State.Lattice.order events stepper o w g.met.S.State.Lattice.is_order g.met.S.Stepper.is_machine stepper_kept ok along happen none start trace fault starts alone passes
