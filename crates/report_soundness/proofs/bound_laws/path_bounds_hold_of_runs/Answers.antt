-- The path bound and the runs of a system.
use Rattle.report_soundness.specs.RunLaws.{bound_above}
use Rattle.report_soundness.proofs.RunLemmas.{bound_within, bound_exact}
use Rattle.report_soundness.proofs.bound_laws.path_bounds_hold_of_runs.Goals as goal

pub returns-clause-above : goal.returns-clause-above
returns-clause-above g c = λ stepper o report v along sound fit above. bound_above (g.S.Stepper.machine stepper) o report v along sound fit above

pub returns-clause-within : goal.returns-clause-within
returns-clause-within g c = λ o found v most. bound_within o found v most

pub returns-clause-exact : goal.returns-clause-exact
returns-clause-exact g c = λ stepper o found trace v run above most. bound_exact (g.S.Stepper.machine stepper).system o found trace v run above most
