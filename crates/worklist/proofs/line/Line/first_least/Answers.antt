use Rattle.std.proofs.Common.{◌∙◌, ap, sym, subst, map, ℕ, List}
use Rattle.worklist.specs.Least.{IsFirstLeast}
use Rattle.worklist.proofs.Ends.{keys_line}
use Rattle.worklist.proofs.line.Line.first_least.Goals as goal

pub returns : goal.returns
returns g c =
    subst (λ (keys : List (List ℕ)). IsFirstLeast keys c.first_of.result)
    (sym (keys_line g.X.Keyed.key_of c.self.inside.earlier.items c.self.inside.later.items) ∙ ap (map g.X.Keyed.key_of) c.self.view_is)
    (rw (c.deref.ensures.value, c.deref-2.ensures.value) at c.first_of.ensures)
