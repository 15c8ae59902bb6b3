-- What a verdict promises of runs.
use Rattle.dual_check.proofs.RunsBounded.{run_bounded}
use Rattle.dual_check.proofs.laws.verdicts_bound_each_run.Goals as goal

pub returns : goal.returns
returns c = λ o ok facts fault k past run fits met v bound holds. run_bounded o ok facts fault k past run fits met v bound holds
