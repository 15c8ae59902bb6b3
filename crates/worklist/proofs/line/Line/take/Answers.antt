use Rattle.std.proofs.Common.{◌∙◌, ap, sym, Some}
use Rattle.worklist.proofs.Ends.{taken}
use Rattle.worklist.proofs.line.Line.take.Goals as goal

pub returns-clause-element : goal.returns-clause-element
returns-clause-element g c =
    (taken g.X.Keyed.key_of c.part_at.new.earlier.items c.part_at.new.later.items c.pop.new.self.items c.in-Some.entry c.args.self.now c.args.place (c.in_ok-part_at.ensures.same ∙ c.self.view_is) c.in_ok-part_at.ensures.parted c.in-Some.ensures.items).0
    ∙ ap (λ x. Some x) (sym c.into_inner.ensures)

pub returns-clause-others : goal.returns-clause-others
returns-clause-others g c =
    (taken g.X.Keyed.key_of c.part_at.new.earlier.items c.part_at.new.later.items c.pop.new.self.items c.in-Some.entry c.args.self.now c.args.place (c.in_ok-part_at.ensures.same ∙ c.self.view_is) c.in_ok-part_at.ensures.parted c.in-Some.ensures.items).1
