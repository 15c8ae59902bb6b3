use Rattle.report_soundness.proofs.WritableLaws.{bound_fits, few_writable}
use Rattle.report_soundness.proofs.report_laws.told_reports_are_writable.Goals as goal

pub returns-clause-room : goal.returns-clause-room
returns-clause-room c = λ o found k costs orderly few. bound_fits o found k orderly costs few

pub returns-clause-writable : goal.returns-clause-writable
returns-clause-writable c = λ o found k ok costs names orderly few. few_writable o found k ok costs names orderly few
