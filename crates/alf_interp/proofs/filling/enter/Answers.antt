use Rattle.std.proofs.Common.{◌∙◌}
use Rattle.alf_check.specs.CheckedPrograms.{seen}
use Rattle.alf_interp.proofs.Rooms.{puts_entered}
use Rattle.alf_interp.proofs.filling.enter.Goals as goal

pub returns-clause-entered : goal.returns-clause-entered
returns-clause-entered c = λ history stands room.
    let row = c.func-row.ensures in
    puts_entered (seen c.args.checked.now) c.args.func row.function c.args.values.now history
    c.enter.new.self c.put_arguments.new.frames c.put_inits.new.frames c.deref.result.now c.deref-2.result.now
    row.at row.keeps.inits (c.in-Ok.ensures.shapes ∙ c.requires.made.shapes_are) c.put_arguments.ensures.shapes
    (c.deref.ensures.value ∙ row.args) (c.deref-2.ensures.value ∙ row.inits)
    (c.in-Ok.ensures.stands history stands) c.put_arguments.ensures.puts c.put_inits.ensures.puts room
