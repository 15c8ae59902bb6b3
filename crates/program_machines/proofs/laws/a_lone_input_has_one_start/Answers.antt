use Rattle.program_machines.specs.StartLaws.{alone}
use Rattle.program_machines.proofs.laws.a_lone_input_has_one_start.Goals as goal

pub returns : goal.returns
returns c = alone
