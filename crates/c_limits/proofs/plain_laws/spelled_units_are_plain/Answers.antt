-- What is left to show of `spelled_units_are_plain`.
use Rattle.c_limits.proofs.PlainUnits.{spelled_are_plain}
use Rattle.c_limits.proofs.plain_laws.spelled_units_are_plain.Goals as goal

pub returns : goal.returns
returns c = spelled_are_plain
