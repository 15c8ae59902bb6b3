use Rattle.std.proofs.Common.{◌∙◌, map, subst, arith}
use Rattle.std.proofs.lemmas.List.{length-map}
use Rattle.toml.specs.View.{view}
use Rattle.alf_check.specs.CheckedPrograms.{seen}
use Rattle.cost_table.specs.Inputs.{IsWrongInput, entry_rows, input_judging}
use Rattle.cost_table.proofs.Steps.{all_made, all_right, one_more}
use Rattle.cost_table.proofs.input_rows.all_rows.Goals as goal

pub loop-place-preserved : goal.loop-place-preserved
loop-place-preserved c = (
  c.loop-place.invariant.0,
  one_more (seen c.args.checked.now) (map view c.args.values.now) c.loop-place.place c.loop-place.rows.items c.add_entry.new.rows.items c.loop-place.marks c.add_entry.new.marks (view c.nth.result.now) c.loop-place.invariant.1 c.nth.ensures c.in_default-add_entry.ensures.right c.in_default-add_entry.ensures.more c.in_default-add_entry.ensures.keep c.in_default-add_entry.ensures.same_length c.in_default-add_entry.ensures.marked,
)

pub returns-in-Err-clause-first : goal.returns-in-Err-clause-first
returns-in-Err-clause-first c = λ other. record {
  place = c.loop-place.place;
  datum = view c.nth.result.now;
  stands = c.nth.ensures;
  before = c.loop-place.invariant.1.below;
  wrong = subst (λ earlier. IsWrongInput (seen c.args.checked.now) earlier c.loop-place.place (view c.nth.result.now) c.in-Err.fault) c.loop-place.invariant.1.rows_are (c.in-Err.ensures.wrong other);
}

pub returns-clause-right : goal.returns-clause-right
returns-clause-right c =
    let long = length-map c.args.values.now view in
    all_right (input_judging (seen c.args.checked.now)) (map view c.args.values.now) c.loop-place.place (omega (arith, long, c.loop-place.invariant.0, c.loop-place.invariant.1.within)) c.loop-place.invariant.1.below

pub returns-clause-all : goal.returns-clause-all
returns-clause-all c =
    let long = length-map c.args.values.now view in
    c.loop-place.invariant.1.rows_are ∙ all_made (entry_rows (seen c.args.checked.now)) (map view c.args.values.now) c.loop-place.place (omega (arith, long, c.loop-place.invariant.0, c.loop-place.invariant.1.within))
