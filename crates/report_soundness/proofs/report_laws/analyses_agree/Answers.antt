use Rattle.report_soundness.proofs.AgreeLaws.{one_report, longer_report}
use Rattle.report_soundness.proofs.report_laws.analyses_agree.Goals as goal

pub returns-clause-one : goal.returns-clause-one
returns-clause-one g c = λ turns old new other events others first second.
    one_report g.S.Stepper.machine g.S.State.Lattice.order c.args.policy turns old new other events others first second

pub returns-clause-longer : goal.returns-clause-longer
returns-clause-longer g c = λ turns more old new other events others enough first none second.
    longer_report g.S.Stepper.machine g.S.State.Lattice.order c.args.policy turns more old new other events others enough first none second
