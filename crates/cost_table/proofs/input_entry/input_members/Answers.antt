use Rattle.std.proofs.Common.{◌≡◌, rules, w64, FitsSigned, Some, sym, ◌∙◌}
use Rattle.std.proofs.lemmas.Int.{to_z-of_z}
use Rattle.toml.specs.View.{table_view}
use Rattle.cost_table.specs.Inputs.{is_input_key, input_members}
use Rattle.cost_table.proofs.Seen.{only_keys_all}
use Rattle.cost_table.proofs.InputEntries.{entry_some}
use Rattle.cost_table.proofs.input_entry.input_members.Goals as goal

pub returns : goal.returns
returns c =
    let offset : FitsSigned w64 c.in_ok-offset.offset = search rules in
    let size : FitsSigned w64 c.in_ok-size.size = search rules in
    let low : FitsSigned w64 c.in_ok-low.low = search rules in
    let high : FitsSigned w64 c.in_ok-high.high = search rules in
    let count : FitsSigned w64 c.in_ok-count.count = search rules in
    let told : input_members (table_view c.args.table.now) ≡ Some (c.in_ok-frame.frame.now, record { offset = c.in_ok-offset.offset; size = c.in_ok-size.size; low = c.in_ok-low.low; high = c.in_ok-high.high; count = c.in_ok-count.count }) = entry_some (table_view c.args.table.now) c.in_ok-frame.frame.now (record { offset = c.in_ok-offset.offset; size = c.in_ok-size.size; low = c.in_ok-low.low; high = c.in_ok-high.high; count = c.in_ok-count.count })
    (only_keys_all is_input_key c.args.table.now.entries ∙ search rules)
    (sym (rw c.in_ok-frame.was at c.text_at.ensures))
    (sym (rw c.in_ok-offset.was at c.number_at.ensures))
    (sym (rw c.in_ok-size.was at c.number_at-2.ensures))
    (sym (rw c.in_ok-low.was at c.number_at-3.ensures))
    (sym (rw c.in_ok-high.was at c.number_at-4.ensures))
    (sym (rw c.in_ok-count.was at c.number_or.ensures))
    in
    rw told (simp to_z-of_z)
