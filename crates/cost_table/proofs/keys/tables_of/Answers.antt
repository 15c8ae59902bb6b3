use Rattle.std.proofs.Common.{◌≡◌, Some, true, false, sym}
use Rattle.toml.specs.Data.{as_array}
use Rattle.toml.specs.View.{view, items_view}
use Rattle.cost_table.proofs.Seen.{told_tables}
use Rattle.cost_table.proofs.keys.tables_of.Goals as goal

pub returns-then-are_tables : goal.returns-then-are_tables
returns-then-are_tables c =
    let e : as_array (view c.args.value.now) ≡ Some (items_view c.in_ok-values.values.now.items) = sym (rw c.in_ok-values.was at c.as_array.ensures) in
    rw (told_tables (view c.args.value.now) c.in_ok-values.values.now.items true e (cc (c.as_slice.ensures.value)), c.as_slice-then-are_tables.ensures.value)

pub returns-else-are_tables : goal.returns-else-are_tables
returns-else-are_tables c =
    let e : as_array (view c.args.value.now) ≡ Some (items_view c.in_ok-values.values.now.items) = sym (rw c.in_ok-values.was at c.as_array.ensures) in
    rw (told_tables (view c.args.value.now) c.in_ok-values.values.now.items false e (cc (c.as_slice.ensures.value)))
