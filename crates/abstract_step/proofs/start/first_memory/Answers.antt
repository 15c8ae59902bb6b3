use Rattle.std.proofs.Common.{◌∙◌, ℕ, [], ap}
use Rattle.alf_check.specs.CheckedPrograms.{seen}
use Rattle.memory_model.specs.KeptMemories.{memory_in}
use Rattle.transfer_rules.specs.Filling.{entered_with}
use Rattle.abstract_step.proofs.InputLaws.{inputs_room}
use Rattle.abstract_step.proofs.start.first_memory.Goals as goal

pub put_inputs-requires-clause-room : goal.put_inputs-requires-clause-room
put_inputs-requires-clause-room c =
    inputs_room (seen c.args.checked.now) c.put_inits.new.memory c.enter_plainly.new.memory c.args.rows.now c.keeps.ensures c.requires
    (ap seen (c.in_ok-enter_plainly.ensures.checked ∙ c.in_ok-put_inits.ensures.checked ∙ c.in_ok-memory.ensures.checked)) c.in_ok-put_inits.ensures.kept
    (c.in_ok-enter_plainly.ensures.entered ∙ ap (λ (f : ℕ). entered_with (seen c.args.checked.now) f [] (memory_in c.put_inits.new.memory)) c.root.ensures.root)
