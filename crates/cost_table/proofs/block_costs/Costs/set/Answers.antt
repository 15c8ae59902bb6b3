use Rattle.std.proofs.Common.{◌≡◌, ◌<◌, ℕ, Vec, Global, Some, length, refl, slice_get, sym, subst, set}
use Rattle.std.proofs.lemmas.List.{length-map}
use Rattle.std.proofs.lemmas.Option.{slice_get_read}
use Rattle.cost_table.specs.CostTables.{CostTable, with_cost}
use Rattle.cost_table.proofs.Costing.{rows_of, with_set}
use Rattle.std.specs.Vec.{with_item}
use Rattle.cost_table.proofs.block_costs.Costs.set.Goals as goal

pub returns : goal.returns
returns c =
    let low : c.args.func < length c.self.inside.rows.items = subst (λ (n : ℕ). c.args.func < n) (length-map c.self.inside.rows.items (λ (row : Vec ℕ Global). row.items)) (subst (λ (table : CostTable). c.args.func < length table.rows) (sym c.self.view_is) c.requires.func) in
    let at : slice_get c.self.inside.rows.items c.args.func ≡ Some c.index_mut-row.result.now = slice_get_read c.self.inside.rows.items (length c.self.inside.rows.items) c.args.func c.index_mut-row.result.now refl low c.index_mut-row.ensures.value in
    subst (λ (table : CostTable). ◌≡◌ {A = CostTable} (record { rows = rows_of (set c.self.inside.rows.items c.args.func (with_item c.index_mut-row.result.now c.args.block c.args.cost)); others = c.self.inside.others }) (with_cost table c.args.func c.args.block c.args.cost)) c.self.view_is
    (with_set c.self.inside.rows.items c.self.inside.others c.args.func c.args.block c.args.cost c.index_mut-row.result.now at)
