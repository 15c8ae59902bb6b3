-- What is left to show of `spelled_programs_have_the_outcome_of_their_unit`.
use Rattle.c_rules.specs.UnitsStandLaws.{unit_stands}
use Rattle.c_lower.specs.Lowering.{SpelledProgramsAreRight, SpelledStartsAreRight}
use Rattle.c_lower.proofs.Plain.{unit_plain}
use Rattle.c_lower.proofs.program_laws.spelled_programs_have_the_outcome_of_their_unit.Goals as goal

pub returns : goal.returns
returns c = record { cells = cells; starts = starts }
  where
    cells : SpelledProgramsAreRight
    cells unit name ranks program rows words given spelled short is lowered are =
        c.each_program_has_the_outcome_of_its_unit.ensures.cells unit name ranks program rows words given is
        (c.counted_units_have_spelled_names.ensures unit (c.spelled_units_are_counted.ensures unit spelled) (unit_stands unit is.no_faults))
        (unit_plain c.spelled_units_are_plain.ensures c.spelled_units_have_few_labels.ensures unit spelled short) lowered are

    starts : SpelledStartsAreRight
    starts unit name ranks program rows numbers spelled short is lowered keep within =
        c.each_program_has_the_outcome_of_its_unit.ensures.starts unit name ranks program rows numbers is
        (c.counted_units_have_spelled_names.ensures unit (c.spelled_units_are_counted.ensures unit spelled) (unit_stands unit is.no_faults))
        (unit_plain c.spelled_units_are_plain.ensures c.spelled_units_have_few_labels.ensures unit spelled short) lowered keep within
