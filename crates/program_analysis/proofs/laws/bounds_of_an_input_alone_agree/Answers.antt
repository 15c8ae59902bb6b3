use Rattle.program_analysis.proofs.AlikeBoundLemmas.{lone_bounds}
use Rattle.program_analysis.proofs.laws.bounds_of_an_input_alone_agree.Goals as goal

pub returns : goal.returns
returns c = lone_bounds c.told_bounds_are_right.ensures c.parts_fit.ensures
