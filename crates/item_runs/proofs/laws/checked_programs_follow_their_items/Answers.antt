use Rattle.item_runs.specs.CheckedItems.{with_items}
use Rattle.item_runs.proofs.Checked.{each_is_cut}
use Rattle.item_runs.proofs.laws.checked_programs_follow_their_items.Goals as goal

pub returns : goal.returns
returns c =
    let cuts = c.blocks_do_what_their_items_do.ensures.blocks in
    let parts = c.no_fault_is_by_parts.ensures in
    record {
      cut = each_is_cut cuts parts;
      follow = λ program kept t history outcome. c.runs_follow_items.ensures (with_items program kept.checked.whole) t history outcome (each_is_cut cuts parts program kept);
    }
