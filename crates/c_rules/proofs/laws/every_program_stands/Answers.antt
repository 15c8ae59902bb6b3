-- What is left to show of `every_program_stands`.
use Rattle.c_rules.specs.UnitsStandLaws.{unit_stands}
use Rattle.c_rules.proofs.laws.every_program_stands.Goals as goal

pub returns : goal.returns
returns c unit root ranks program = unit_stands unit program.no_faults
