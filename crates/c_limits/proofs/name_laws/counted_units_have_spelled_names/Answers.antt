-- What is left to show of `counted_units_have_spelled_names`.
use Rattle.c_limits.proofs.NameUnits.{names_spelled}
use Rattle.c_limits.proofs.name_laws.counted_units_have_spelled_names.Goals as goal

pub returns : goal.returns
returns c = names_spelled
