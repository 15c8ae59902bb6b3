use Rattle.memory_model.specs.KeptMemories.{memory_in, rows_of}
use Rattle.step_statements.proofs.FoundLaws.{store_told}
use Rattle.step_statements.proofs.storing.store_through.Goals as goal

pub returns-clause-stored : goal.returns-clause-stored
returns-clause-stored c =
    store_told (rows_of c.args.memory.now.checked) (memory_in c.args.memory.now) (memory_in c.store.new.self) c.width-size.result c.args.at.now c.args.value.now c.store.result
    c.requires.address c.width-size.ensures c.store.ensures.stored c.store.ensures.goes_on c.store.ensures.faults
