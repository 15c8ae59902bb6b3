use Rattle.std.proofs.Common.{◌≡◌, ◌++◌, ◌∷◌, [], Some, ℤ, FitsSigned, w64, rules, sym, subst}
use Rattle.std.proofs.lemmas.Int.{to_z-of_z}
use Rattle.toml.specs.View.{view}
use Rattle.alf_check.specs.CheckedPrograms.{seen}
use Rattle.cost_table.specs.Costs.{IsCostTable, cost_of}
use Rattle.cost_table.proofs.CostEntries.{table_more}
use Rattle.cost_table.proofs.cost_rows.add_cost.Goals as goal

pub returns-clause-more : goal.returns-clause-more
returns-clause-more c = λ default before is.
    let number : FitsSigned w64 c.in-Some.told.cost = search rules in
    subst (IsCostTable (seen c.args.checked.now) default (before ++ view c.args.value.now ∷ [])) (sym c.set.ensures)
    (table_more (seen c.args.checked.now) default before (view c.args.value.now) (c.in-Some.name.now, c.in-Some.told) c.in-Some-block_named.func c.in-Some-block_named.block c.in-Some-cost_of.cost c.args.costs.now (sym c.in-Some.ensures) (subst (λ (z : ℤ). cost_of z ≡ Some c.in-Some-cost_of.cost) (to_z-of_z w64 c.in-Some.told.cost number) (sym c.in-Some-cost_of.ensures)) c.in-Some-block_named.ensures.some is)
