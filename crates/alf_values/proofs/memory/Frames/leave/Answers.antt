-- What is left to show of `leave`: facts of the proof files, applied.
use Rattle.std.proofs.Common.{◌≡◌, ◌∙◌, ap, Some}
use Rattle.alf_values.specs.Cells.{mark_of}
use Rattle.alf_values.proofs.Events.{left}
use Rattle.alf_values.proofs.memory.Frames.leave.Goals as goal

pub returns-clause-stands : goal.returns-clause-stands
returns-clause-stands c =
    let mark : c.mark_in-mark.result ≡ mark_of c.self.inside.functions.items (Some c.args.func) =
    c.mark_in-mark.ensures ∙ ap (λ functions. mark_of functions (Some c.args.func)) c.deref.ensures.value in
    left c.self.inside.frames.items c.self.inside.functions.items c.args.self.now c.self.view_is c.args.func c.mark_in-mark.result c.requires mark
