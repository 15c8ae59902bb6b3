use Rattle.std.proofs.Common.{◌∙◌, map, subst, arith}
use Rattle.std.proofs.lemmas.List.{length-map}
use Rattle.toml.specs.View.{view}
use Rattle.cost_table.specs.TaskFiles.{IsWrongTask, entry_tasks, task_judging}
use Rattle.cost_table.proofs.Steps.{all_made, all_right}
use Rattle.cost_table.proofs.TaskEntries.{tasks_more}
use Rattle.cost_table.proofs.task_list.all_tasks.Goals as goal

pub loop-place-preserved : goal.loop-place-preserved
loop-place-preserved c = (
  c.loop-place.invariant.0,
  tasks_more (map view c.args.values.now) c.loop-place.place c.loop-place.tasks.items c.add_task.new.tasks.items (view c.nth.result.now) c.loop-place.invariant.1 c.nth.ensures c.in_default.ensures.right c.in_default.ensures.more,
)

pub returns-in-Err-clause-first : goal.returns-in-Err-clause-first
returns-in-Err-clause-first c = λ other. record {
  place = c.loop-place.place;
  datum = view c.nth.result.now;
  stands = c.nth.ensures;
  before = c.loop-place.invariant.1.below;
  wrong = subst (λ earlier. IsWrongTask earlier c.loop-place.place (view c.nth.result.now) c.in-Err.fault) c.loop-place.invariant.1.tasks_are (c.in-Err.ensures.wrong other);
}

pub returns-clause-right : goal.returns-clause-right
returns-clause-right c =
    let long = length-map c.args.values.now view in
    all_right task_judging (map view c.args.values.now) c.loop-place.place (omega (arith, long, c.loop-place.invariant.0, c.loop-place.invariant.1.within)) c.loop-place.invariant.1.below

pub returns-clause-all : goal.returns-clause-all
returns-clause-all c =
    let long = length-map c.args.values.now view in
    c.loop-place.invariant.1.tasks_are ∙ all_made entry_tasks (map view c.args.values.now) c.loop-place.place (omega (arith, long, c.loop-place.invariant.0, c.loop-place.invariant.1.within))
