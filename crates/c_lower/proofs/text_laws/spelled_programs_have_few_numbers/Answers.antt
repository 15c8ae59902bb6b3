-- What is left to show of `spelled_programs_have_few_numbers`.
use Rattle.std.proofs.Common.{[]}
use Rattle.c_rules.specs.UnitsStandLaws.{unit_stands}
use Rattle.c_meaning.specs.Objects.{program_of}
use Rattle.c_lower.proofs.Labels.{few_labels, few_numbers}
use Rattle.c_lower.proofs.text_laws.spelled_programs_have_few_numbers.Goals as goal

pub returns : goal.returns
returns c = λ unit root ranks program spelled short.
    let counted = c.spelled_units_are_counted.ensures unit spelled in
    let names = c.counted_units_have_spelled_names.ensures unit counted (unit_stands unit program.no_faults) in
    few_numbers (program_of unit) (record { scope = []; made = [] }) unit.externals (few_labels c.spelled_units_have_few_labels.ensures unit spelled short) names.few_calls
