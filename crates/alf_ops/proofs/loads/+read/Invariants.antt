use Rattle.alf_ops.proofs.loads.+read.Given as goal

abbrev pub decreases-read : goal.decreases-read
decreases-read l = l.count
