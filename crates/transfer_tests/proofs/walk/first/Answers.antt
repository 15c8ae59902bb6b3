use Rattle.std.proofs.Common.{sym, subst}
use Rattle.memory_model.specs.KeptMemories.{MemoryParts}
use Rattle.transfer_rules.specs.PartMachineLaws.{is_part_machine}
use Rattle.abstract_step.specs.Steppers.{stepped_by}
use Rattle.transfer_tests.proofs.walk.first.Goals as goal

pub returns : goal.returns
returns c =
    let s = c.args.stepper.now in
    subst (λ (memory : MemoryParts). (stepped_by s).fits 0 memory) (sym c.in_ok-memory.ensures) (is_part_machine s.checked s.graph s.rows c.kept.ensures).first_fits
