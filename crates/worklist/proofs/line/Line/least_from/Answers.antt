use Rattle.std.proofs.Common.{◌∙◌}
use Rattle.worklist.proofs.Ends.{least_from_seam}
use Rattle.worklist.proofs.line.Line.least_from.Goals as goal

pub returns-clause-least : goal.returns-clause-least
returns-clause-least g c =
    least_from_seam g.X.Keyed.key_of c.part_at.new.earlier.items c.part_at.new.later.items c.args.self.now c.args.place _ (c.in_ok-part_at.ensures.same ∙ c.self.view_is) c.in_ok-part_at.ensures.parted
    (rw c.deref.ensures.value at c.least_later.ensures)
