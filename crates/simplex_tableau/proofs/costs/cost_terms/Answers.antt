-- One column more.
use Rattle.std.proofs.Common.{rules, ◌≡◌, ◌<◌, ◌+◌, ◌++◌, length, pos, neg_ℤ}
use Rattle.ipet_rows.specs.Programs.{cost_at}
use Rattle.dual_check.specs.Terms.{term_if}
use Rattle.simplex_tableau.specs.FirstTerms.{first_costs}
use Rattle.simplex_tableau.proofs.RowStepLemmas.{costs_more}
use Rattle.simplex_tableau.proofs.costs.cost_terms.Goals as goal

pub loop-column-preserved : goal.loop-column-preserved
loop-column-preserved c =
    let below : c.loop-column.column < length c.args.rows.now.program.costs = search (rules) in
    let made : c.push_cost.new.out.items ≡ c.loop-column.out.items ++ term_if (c.loop-column.column + 2) (neg_ℤ (pos (cost_at c.args.rows.now.program.costs c.loop-column.column))) = search (rules) in
    costs_more c.args.rows.now.program.costs c.loop-column.column c.loop-column.out.items c.push_cost.new.out.items (first_costs c.args.rows.now.program.costs) below made c.loop-column.invariant
