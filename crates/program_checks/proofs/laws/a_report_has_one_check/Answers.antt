use Rattle.program_checks.proofs.CheckingLaws.{one_check}
use Rattle.program_checks.proofs.laws.a_report_has_one_check.Goals as goal

pub returns : goal.returns
returns c = one_check c.a_program_has_one_analysis.ensures.alike
