use Rattle.std.proofs.Common.{map, subst, take, arith}
use Rattle.std.proofs.lemmas.List.{length-map, take_all}
use Rattle.toml.specs.View.{view}
use Rattle.alf_check.specs.CheckedPrograms.{seen}
use Rattle.cost_table.specs.Costs.{IsCostTable, cost_judging}
use Rattle.cost_table.proofs.Steps.{all_right}
use Rattle.cost_table.proofs.CostSteps.{costs_more}
use Rattle.cost_table.proofs.cost_rows.all_costs.Goals as goal

pub loop-place-preserved : goal.loop-place-preserved
loop-place-preserved c = (
  c.loop-place.invariant.0,
  costs_more (seen c.args.checked.now) c.args.default (map view c.args.values.now) c.loop-place.place c.loop-place.costs c.add_cost.new.costs (view c.nth.result.now) c.loop-place.invariant.1 c.nth.ensures c.in_default-add_cost.ensures.right (c.in_default-add_cost.ensures.more c.args.default (take c.loop-place.place (map view c.args.values.now)) c.loop-place.invariant.1.is),
)

pub returns-in-Err-clause-first : goal.returns-in-Err-clause-first
returns-in-Err-clause-first c = λ other. record {
  place = c.loop-place.place;
  datum = view c.nth.result.now;
  stands = c.nth.ensures;
  before = c.loop-place.invariant.1.below;
  wrong = c.in-Err.ensures.wrong other;
}

pub returns-clause-right : goal.returns-clause-right
returns-clause-right c =
    let long = length-map c.args.values.now view in
    all_right (cost_judging (seen c.args.checked.now)) (map view c.args.values.now) c.loop-place.place (omega (arith, long, c.loop-place.invariant.0, c.loop-place.invariant.1.within)) c.loop-place.invariant.1.below

pub returns-clause-all : goal.returns-clause-all
returns-clause-all c =
    let long = length-map c.args.values.now view in
    subst (λ entries. IsCostTable (seen c.args.checked.now) c.args.default entries c.loop-place.costs) (take_all c.loop-place.place (map view c.args.values.now) (omega (arith, long, c.loop-place.invariant.0, c.loop-place.invariant.1.within))) c.loop-place.invariant.1.is
