use Rattle.std.proofs.Common.{◌≡◌, rules, w64, FitsSigned, Some, sym, ◌∙◌}
use Rattle.std.proofs.lemmas.Int.{to_z-of_z}
use Rattle.toml.specs.View.{table_view}
use Rattle.cost_table.specs.TaskFiles.{is_task_key, task_members}
use Rattle.cost_table.proofs.Seen.{only_keys_all}
use Rattle.cost_table.proofs.TaskEntries.{entry_some}
use Rattle.cost_table.proofs.task_entry.task_members.Goals as goal

pub returns : goal.returns
returns c =
    let cost : FitsSigned w64 c.in_ok-cost.cost = search rules in
    let period : FitsSigned w64 c.in_ok-period.period = search rules in
    let deadline : FitsSigned w64 c.in_ok-deadline.deadline = search rules in
    let priority : FitsSigned w64 c.in_ok-priority.priority = search rules in
    let told : task_members (table_view c.args.table.now) ≡ Some (c.in_ok-name.name.now, record { cost = c.in_ok-cost.cost; period = c.in_ok-period.period; deadline = c.in_ok-deadline.deadline; priority = c.in_ok-priority.priority }) = entry_some (table_view c.args.table.now) c.in_ok-name.name.now (record { cost = c.in_ok-cost.cost; period = c.in_ok-period.period; deadline = c.in_ok-deadline.deadline; priority = c.in_ok-priority.priority })
    (only_keys_all is_task_key c.args.table.now.entries ∙ search rules)
    (sym (rw c.in_ok-name.was at c.text_at.ensures))
    (sym (rw c.in_ok-cost.was at c.number_at.ensures))
    (sym (rw c.in_ok-period.was at c.number_at-2.ensures))
    (sym (rw c.in_ok-deadline.was at c.number_at-3.ensures))
    (sym (rw c.in_ok-priority.was at c.number_at-4.ensures))
    in
    rw told (simp to_z-of_z)
