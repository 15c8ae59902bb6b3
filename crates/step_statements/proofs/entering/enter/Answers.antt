use Rattle.std.proofs.Common.{ℕ, List, sym, ap, subst, ◌∙◌}
use Rattle.alf_check.specs.CheckedPrograms.{seen}
use Rattle.memory_model.specs.KeptMemories.{memory_in, rows_of}
use Rattle.transfer_rules.specs.Filling.{with_arguments}
use Rattle.step_statements.specs.Rooms.{HaveRoom}
use Rattle.step_statements.specs.Arguments.{HaveFrames}
use Rattle.step_statements.proofs.CallLaws.{entered_frames, entered_room}
use Rattle.step_statements.proofs.entering.enter.Goals as goal

pub put_arguments-requires-clause-frames : goal.put_arguments-requires-clause-frames
put_arguments-requires-clause-frames c =
    subst (λ (args : List ℕ). HaveFrames c.enter.new.self args c.args.values.now) (sym c.deref.ensures.value)
    (entered_frames (seen c.args.checked.now) c.keeps.ensures c.args.func c.func-row.result.now c.func-row.ensures c.enter.new.self (memory_in c.args.memory.now) (rows_of c.args.memory.now.checked) c.args.values.now
    (ap seen (c.in_ok-enter.ensures.checked ∙ c.requires.program)) c.in_ok-enter.ensures.entered c.requires.call)

pub put_inits-requires-clause-room : goal.put_inits-requires-clause-room
put_inits-requires-clause-room c =
    subst (HaveRoom c.put_arguments.new.memory) (sym c.deref-2.ensures.value)
    (entered_room (seen c.args.checked.now) c.keeps.ensures c.args.func c.func-row.result.now c.func-row.ensures c.put_arguments.new.memory (memory_in c.args.memory.now) (rows_of c.args.memory.now.checked) c.args.values.now
    (ap seen (c.in_ok-put_arguments.ensures.checked ∙ c.in_ok-enter.ensures.checked ∙ c.requires.program))
    (c.in_ok-put_arguments.ensures.filled ∙ ap (λ (args : List ℕ). with_arguments args c.args.values.now (memory_in c.enter.new.self)) c.deref.ensures.value
    ∙ ap (with_arguments c.func-row.result.now.args.items c.args.values.now) c.in_ok-enter.ensures.entered))
