use Rattle.std.proofs.Common.{List, [], ◌∷◌, ℕ, subst}
use Rattle.alf_ops.specs.declared.history.RunEvent.{RunEvent}
use Rattle.alf_ops.specs.declared.history.RunEvent.TheVariants.{Enter}
use Rattle.alf_check.specs.CheckedPrograms.{seen}
use Rattle.alf_values.specs.Standing.{StandsFor}
use Rattle.alf_runs.specs.Entering.{args_at, entered}
use Rattle.alf_runs.specs.Steps.{frames_of}
use Rattle.alf_interp.specs.Filling.{ArgumentsHaveRoom}
use Rattle.alf_interp.proofs.Rooms.{input_words, puts_started}
use Rattle.alf_interp.proofs.machine.first_frames.Goals as goal

pub put_inputs-requires : goal.put_inputs-requires
put_inputs-requires c = record { words = input_words (seen c.args.checked.now) c.args.rows.now c.args.words.now c.requires.rows.each c.requires.words }

pub returns-clause-stands : goal.returns-clause-stands
returns-clause-stands c =
    let program = seen c.args.checked.now in
    let second = c.put_inits.new.frames in
    let third = c.enter.new.frames in
    let Enters = λ (f : ℕ). (h : List RunEvent) → StandsFor second h → ArgumentsHaveRoom (frames_of program) (Enter f ∷ h) (args_at program f) [] → StandsFor third (entered program f [] h) in
    puts_started program c.args.rows.now c.args.words.now c.in_ok-frames.frames second third c.put_inputs.new.frames c.inits.result.now
    c.keeps.ensures c.requires.rows.each c.inits.ensures.inits c.in_ok-frames.ensures.made.shapes_are c.in-Ok.ensures.made.shapes_are
    c.in_ok-frames.ensures.stands c.put_inits.ensures.puts (subst Enters c.root.ensures.root c.in-Ok.ensures.entered) c.put_inputs.ensures.puts
