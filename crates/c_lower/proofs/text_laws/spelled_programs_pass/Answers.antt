-- What is left to show of `spelled_programs_pass`.
use Rattle.c_lower.proofs.Labels.{few_labels}
use Rattle.c_lower.proofs.text_laws.spelled_programs_pass.Goals as goal

pub returns : goal.returns
returns c = record {
  written = λ unit root ranks program spelled short. c.lowered_programs_pass.ensures.written unit root ranks program spelled (few_labels c.spelled_units_have_few_labels.ensures unit spelled short);
  passes = λ unit root ranks program spelled short. c.lowered_programs_pass.ensures.passes unit root ranks program spelled (few_labels c.spelled_units_have_few_labels.ensures unit spelled short);
}
