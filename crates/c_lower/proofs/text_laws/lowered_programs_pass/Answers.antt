-- What is left to show of `lowered_programs_pass`.
use Rattle.c_rules.specs.UnitsStandLaws.{unit_stands}
use Rattle.lowering_layout.specs.CheckedLaws.{program_has_names}
use Rattle.c_lower.proofs.MeasuredLaws.{is_measured}
use Rattle.c_lower.proofs.text_laws.lowered_programs_pass.Goals as goal

pub returns-clause-written : goal.returns-clause-written
returns-clause-written c unit root ranks program spelled labels =
    let counted = c.spelled_units_are_counted.ensures unit spelled in
    let stands = unit_stands unit program.no_faults in
    let names = program_has_names unit root ranks program (c.counted_units_have_spelled_names.ensures unit counted stands) in
    c.measured_programs_pass.ensures.written unit root ranks program names (is_measured unit names c.counted_units_have_few_frames.ensures counted stands labels)

pub returns-clause-passes : goal.returns-clause-passes
returns-clause-passes c unit root ranks program spelled labels =
    let counted = c.spelled_units_are_counted.ensures unit spelled in
    let stands = unit_stands unit program.no_faults in
    let names = program_has_names unit root ranks program (c.counted_units_have_spelled_names.ensures unit counted stands) in
    c.measured_programs_pass.ensures.passes unit root ranks program names (is_measured unit names c.counted_units_have_few_frames.ensures counted stands labels)
