use Rattle.memory_model.specs.KeptMemories.{memory_in, rows_of}
use Rattle.transfer_rules.specs.Evaluating.{pointer_value}
use Rattle.transfer_rules.specs.StandingLaws.{pointer_is}
use Rattle.step_statements.proofs.FoundLaws.{load_told}
use Rattle.step_statements.proofs.evaluating.load_cell.Goals as goal

pub returns : goal.returns
returns c =
    load_told (rows_of c.args.memory.now.checked) (memory_in c.args.memory.now) c.args.size (pointer_value c.args.frame c.args.offset) c.load_cell.result
    (pointer_is c.args.frame c.args.offset c.ranges.offset.fits) c.load_cell.ensures.value c.load_cell.ensures.faults
