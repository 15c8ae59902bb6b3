use Rattle.std.proofs.Common.{◌<◌, ◌^◌, refl, rules}
use Rattle.memory_model.specs.KeptMemories.{memory_in, rows_of}
use Rattle.transfer_rules.specs.Evaluating.{pointer_value}
use Rattle.step_statements.proofs.RoomLaws.{filled_is}
use Rattle.step_statements.proofs.filling.fill.Goals as goal

pub returns-clause-filled : goal.returns-clause-filled
returns-clause-filled c =
    let small : c.args.offset < 2 ^ 32 = search rules in
    filled_is (rows_of c.args.memory.now.checked) (memory_in c.args.memory.now) (memory_in c.store_at.new.memory) c.args.frame c.args.offset (pointer_value c.args.frame c.args.offset) c.args.value.now
    c.in_ok-store_at.field-0 small c.requires.value c.requires.cell refl c.in_ok-store_at.ensures.stored
