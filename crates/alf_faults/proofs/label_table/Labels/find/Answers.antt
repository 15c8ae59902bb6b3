use Rattle.std.proofs.Common.{List, ap, map, ◌∙◌}
use Rattle.alf_program.specs.declared.program.Item.{Item}
use Rattle.alf_program.specs.Tree.{item_of}
use Rattle.alf_faults.specs.Places.{label_place, is_label_named}
use Rattle.alf_faults.proofs.Standing.{place_within_of}
use Rattle.alf_faults.proofs.label_table.Labels.find.Goals as goal

pub returns : goal.returns
returns c =
    let first =
    c.copied.ensures ∙ c.get.ensures.value ∙ c.self.invariant c.args.name.now
    ∙ ap (λ (items : List Item). label_place (map item_of items) c.args.name.now) c.self.view_is in
    record { first = first; within = place_within_of item_of (is_label_named c.args.name.now) c.args.self.now c.copied.result first }
