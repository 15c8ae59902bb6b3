use Rattle.std.proofs.Common.{length}
use Rattle.step_statements.proofs.evaluating.+evaluate_arguments.Given as goal

abbrev pub decreases-evaluate_arguments : goal.decreases-evaluate_arguments
decreases-evaluate_arguments l = length l.terms.now
