-- What is left to show of `statements_count_what_they_declare`.
use Rattle.c_limits.proofs.StatementLaws.{standing_fits}
use Rattle.c_limits.proofs.count_laws.statements_count_what_they_declare.Goals as goal

pub returns : goal.returns
returns c = standing_fits
