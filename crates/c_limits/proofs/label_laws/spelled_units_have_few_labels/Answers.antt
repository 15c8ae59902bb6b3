-- What is left to show of `spelled_units_have_few_labels`.
use Rattle.c_limits.proofs.LabelUnits.{few_labels}
use Rattle.c_limits.proofs.label_laws.spelled_units_have_few_labels.Goals as goal

pub returns : goal.returns
returns c = few_labels
