-- What is left to show of `terms_are_weights`.
use Rattle.std.proofs.Common.{arith}
use Rattle.std.specs.Prelude.{length}
use Rattle.ipet_rows.specs.PathSparseLaws.{coefficient_is, terms_within, terms_ascend, terms_count}
use Rattle.ipet_rows.proofs.path_laws.terms_are_weights.Goals as goal

pub returns-clause-coefficient : goal.returns-clause-coefficient
returns-clause-coefficient c = λ f columns e. coefficient_is f 0 columns e e (omega arith)

pub returns-clause-within : goal.returns-clause-within
returns-clause-within c = λ f columns. terms_within f 0 (length columns) columns (omega arith)

pub returns-clause-ascending : goal.returns-clause-ascending
returns-clause-ascending c = λ f columns. terms_ascend f 0 columns

pub returns-clause-some : goal.returns-clause-some
returns-clause-some c = λ f columns. terms_count f 0 columns
