use Rattle.std.proofs.Common.{List, sym, ap, subst, ◌∙◌}
use Rattle.alf_check.specs.declared.rows.InitRow.{InitRow}
use Rattle.alf_check.specs.CheckedPrograms.{CheckedParts, seen}
use Rattle.memory_model.specs.KeptMemories.{memory_in, rows_of}
use Rattle.transfer_rules.specs.Filling.{with_inits}
use Rattle.step_statements.specs.Rooms.{HaveRoom}
use Rattle.step_statements.proofs.CallLaws.{plain_room, plain_is}
use Rattle.step_statements.proofs.entering.enter_plainly.Goals as goal

pub put_inits-requires-clause-room : goal.put_inits-requires-clause-room
put_inits-requires-clause-room c =
    subst (HaveRoom c.enter.new.self) (sym c.deref.ensures.value)
    (plain_room (seen c.args.checked.now) c.keeps.ensures c.args.func c.func-row.result.now c.func-row.ensures c.enter.new.self (memory_in c.args.memory.now) (rows_of c.args.memory.now.checked)
    (ap seen (c.in_ok-enter.ensures.checked ∙ c.requires.program)) c.in_ok-enter.ensures.entered)

pub returns-clause-entered : goal.returns-clause-entered
returns-clause-entered c =
    plain_is (seen c.args.checked.now) c.keeps.ensures c.args.func c.func-row.result.now c.func-row.ensures (memory_in c.args.memory.now) (memory_in c.enter.new.self) (memory_in c.put_inits.new.memory)
    (rows_of c.args.memory.now.checked) (ap (λ (p : CheckedParts). rows_of p) c.requires.program) c.in_ok-enter.ensures.entered
    (c.in_ok-put_inits.ensures.filled ∙ ap (λ (inits : List InitRow). with_inits inits (memory_in c.enter.new.self)) c.deref.ensures.value)
