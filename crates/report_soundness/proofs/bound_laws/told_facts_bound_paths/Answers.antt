-- What the facts of a told report have.
use Rattle.report_soundness.specs.BoundToldLaws.{told_fit, told_limited, summed_totals, told_within}
use Rattle.report_soundness.proofs.BoundToldLemmas.{told_about}
use Rattle.report_soundness.proofs.bound_laws.told_facts_bound_paths.Goals as goal

pub returns-clause-about : goal.returns-clause-about
returns-clause-about c = λ o found. told_about o found

pub returns-clause-fit : goal.returns-clause-fit
returns-clause-fit c = λ o found. told_fit o found

pub returns-clause-limited : goal.returns-clause-limited
returns-clause-limited c = λ o found have. told_limited o found have

pub returns-clause-totals : goal.returns-clause-totals
returns-clause-totals c = λ o found past sums. summed_totals o found past sums

pub returns-clause-most : goal.returns-clause-most
returns-clause-most c = λ o found. told_within o found
