use Rattle.program_analysis.proofs.ExactLemmas.{told_exactly}
use Rattle.program_analysis.proofs.laws.parts_alone_are_told_exactly.Goals as goal

pub returns : goal.returns
returns c = told_exactly c.a_run_has_one_end.ensures.one
