use Rattle.memory_model.specs.KeptMemories.{memory_in, rows_of}
use Rattle.transfer_rules.specs.Evaluating.{pointer_value}
use Rattle.transfer_rules.specs.StandingLaws.{pointer_is}
use Rattle.step_statements.proofs.FoundLaws.{store_told}
use Rattle.step_statements.proofs.storing.store_at.Goals as goal

pub returns-clause-stored : goal.returns-clause-stored
returns-clause-stored c =
    store_told (rows_of c.args.memory.now.checked) (memory_in c.args.memory.now) (memory_in c.store_cell.new.self) c.width-size.result (pointer_value c.args.frame c.args.offset) c.args.value.now
    c.store_cell.result (pointer_is c.args.frame c.args.offset c.ranges.offset.fits) c.width-size.ensures c.store_cell.ensures.stored c.store_cell.ensures.goes_on c.store_cell.ensures.faults
