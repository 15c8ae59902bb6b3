use Rattle.std.proofs.Common.{◌≡◌, Some, sym}
use Rattle.toml.specs.Data.{as_array}
use Rattle.toml.specs.View.{view, items_view}
use Rattle.cost_table.proofs.ValueLists.{numbers_told}
use Rattle.cost_table.proofs.run_values.numbers_in.Goals as goal

pub returns-in-Some : goal.returns-in-Some
returns-in-Some c =
    let e : as_array (view c.args.value.now) ≡ Some (items_view c.in-Some.values.now.items) = sym (rw c.in-Some.is at c.as_array.ensures) in
    rw (numbers_told (view c.args.value.now) c.in-Some.values.now.items e, ← c.as_slice.ensures.value) c.numbers_of.ensures
