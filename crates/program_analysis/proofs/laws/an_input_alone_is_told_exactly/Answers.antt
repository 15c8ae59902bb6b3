use Rattle.program_analysis.proofs.LoneAnalysisLaws.{lone_exact}
use Rattle.program_analysis.proofs.laws.an_input_alone_is_told_exactly.Goals as goal

pub returns : goal.returns
returns c = lone_exact c.parts_fit.ensures c.parts_alone_are_told_exactly.ensures
