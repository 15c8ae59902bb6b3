use Rattle.std.proofs.Common.{◌≡◌, rules, w64, FitsSigned, Some, sym, ◌∙◌}
use Rattle.std.proofs.lemmas.Int.{to_z-of_z}
use Rattle.toml.specs.View.{table_view}
use Rattle.cost_table.specs.Costs.{is_cost_key, cost_members}
use Rattle.cost_table.proofs.Seen.{only_keys_all}
use Rattle.cost_table.proofs.CostEntries.{entry_some}
use Rattle.cost_table.proofs.cost_entry.cost_members.Goals as goal

pub returns : goal.returns
returns c =
    let block : FitsSigned w64 c.in_ok-block.block = search rules in
    let cost : FitsSigned w64 c.in_ok-cost.cost = search rules in
    let told : cost_members (table_view c.args.table.now) ≡ Some (c.in_ok-function.function.now, record { block = c.in_ok-block.block; cost = c.in_ok-cost.cost }) = entry_some (table_view c.args.table.now) c.in_ok-function.function.now (record { block = c.in_ok-block.block; cost = c.in_ok-cost.cost })
    (only_keys_all is_cost_key c.args.table.now.entries ∙ search rules)
    (sym (rw c.in_ok-function.was at c.text_at.ensures))
    (sym (rw c.in_ok-block.was at c.number_at.ensures))
    (sym (rw c.in_ok-cost.was at c.number_at-2.ensures))
    in
    rw told (simp to_z-of_z)
