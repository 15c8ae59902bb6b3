use Rattle.program_analysis.proofs.AnalysisLemmas.{one_analysis, longer_analysis, one_event_list, alike_outlines}
use Rattle.program_analysis.proofs.laws.parts_have_one_analysis.Goals as goal

pub returns : goal.returns
returns c = record { one = one_analysis; longer = longer_analysis; events = one_event_list; alike = alike_outlines c.a_graph_has_one_ranking.ensures.shape }
