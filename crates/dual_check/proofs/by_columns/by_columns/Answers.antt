-- The lists that were written are those that are handed out.
use Rattle.std.proofs.Common.{rules, ◌≡◌, ◌∙◌, length, drop}
use Rattle.std.proofs.lemmas.List.{take_at}
use Rattle.dual_check.proofs.Turned.{turned_all}
use Rattle.dual_check.proofs.by_columns.by_columns.Goals as goal

pub returns : goal.returns
returns c =
    let slots = c.loop-row.slots in
    let long : length slots ≡ c.in_ok-lists.lists.len = search rules in
    take_at slots (drop (length slots) c.in_ok-lists.lists.items) c.in_ok-lists.lists.len long
    ∙ turned_all c.args.count c.loop-row.number c.args.rows.now c.loop-row.rest.now slots c.loop-row.invariant.count c.in_default.ensures.cases c.loop-row.invariant.put
