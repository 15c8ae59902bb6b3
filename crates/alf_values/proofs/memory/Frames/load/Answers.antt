-- What is left to show of `load`: facts of the proof files, applied.
use Rattle.std.proofs.Common.{◌∙◌}
use Rattle.alf_values.proofs.Events.{loads}
use Rattle.alf_values.proofs.memory.Frames.load.Goals as goal

pub returns : goal.returns
returns c = λ history stands.
    rw (c.deref-3.ensures.value, c.deref-4.ensures.value, c.cell_at-tested.ensures, c.deref.ensures.value, c.deref-2.ensures.value) at c.load_from.ensures
    ∙ loads c.self.inside.frames.items c.self.inside.functions.items c.args.self.now c.self.view_is c.args.at c.args.size c.requires history stands
