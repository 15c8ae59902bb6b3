use Rattle.program_analysis.proofs.ProgramAnalysisLaws.{one_analysis, longer_analysis, one_event_list}
use Rattle.program_analysis.proofs.laws.a_program_has_one_analysis.Goals as goal

pub returns : goal.returns
returns c = record {
  one = one_analysis c.parts_have_one_analysis.ensures.one c.parts_have_one_analysis.ensures.alike;
  longer = longer_analysis c.parts_have_one_analysis.ensures.longer;
  events = one_event_list c.parts_have_one_analysis.ensures.events c.parts_have_one_analysis.ensures.alike;
  alike = c.parts_have_one_analysis.ensures.alike;
}
