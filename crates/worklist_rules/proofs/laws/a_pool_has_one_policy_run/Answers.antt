use Rattle.worklist_rules.specs.PolicyLaws.{run_unique, run_happens, run_within, closed_longer}
use Rattle.worklist_rules.proofs.laws.a_pool_has_one_policy_run.Goals as goal

pub returns-clause-one : goal.returns-clause-one
returns-clause-one g c = λ turns old new other events others first second.
    run_unique g.S.Stepper.machine g.S.State.Lattice.order g.R.Lattice.order g.R.Recorder.recording c.args.policy turns events others old new other first second

pub returns-clause-happens : goal.returns-clause-happens
returns-clause-happens g c = λ turns old new events run.
    run_happens g.S.Stepper.machine g.S.State.Lattice.order g.R.Lattice.order g.R.Recorder.recording c.args.policy turns events old new run

pub returns-clause-within : goal.returns-clause-within
returns-clause-within g c = λ turns old new events low run.
    run_within g.S.Stepper.machine g.S.State.Lattice.order g.R.Lattice.order g.R.Recorder.recording c.args.policy turns events old new low run

pub returns-clause-longer : goal.returns-clause-longer
returns-clause-longer g c = λ turns more old new events enough run none.
    closed_longer g.S.Stepper.machine g.S.State.Lattice.order g.R.Lattice.order g.R.Recorder.recording c.args.policy turns more events old new enough run none
