use Rattle.transfer_rules.specs.PartMachineLaws.{is_part_machine, is_part_along}
use Rattle.transfer_rules.proofs.machine_laws.parts_are_a_machine.Goals as goal

pub returns : goal.returns
returns c = record {
  machine = λ checked graph rows kept. is_part_machine checked graph rows kept;
  along = λ checked graph rows o kept edges count. is_part_along checked graph rows kept o edges count;
}
