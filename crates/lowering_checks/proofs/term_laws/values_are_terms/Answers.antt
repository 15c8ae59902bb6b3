-- What is left to show of `values_are_terms`.
use Rattle.lowering_checks.proofs.ValueLaws.{value_term, address_term_of}
use Rattle.lowering_checks.proofs.term_laws.values_are_terms.Goals as goal

pub returns-clause-values : goal.returns-clause-values
returns-clause-values c = value_term

pub returns-clause-addresses : goal.returns-clause-addresses
returns-clause-addresses c = address_term_of
