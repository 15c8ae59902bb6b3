-- What is left to show of `path_bound`.
use Rattle.std.proofs.Common.{subst}
use Rattle.dual_check.specs.Systems.{System}
use Rattle.dual_check.specs.Small.{IsSmall}
use Rattle.simplex_rules.specs.OpeningPlaces.{ended}
use Rattle.path_lp.proofs.BoundLaws.{handed_count, value_most, value_fits, system_bounds, system_duals, system_held, greatest_at}
use Rattle.path_lp.proofs.bounds.path_bound.Goals as goal

pub value-bound-requires-clause-multipliers : goal.value-bound-requires-clause-multipliers
value-bound-requires-clause-multipliers c =
    let s = c.in_ok-rows.rows in
    let d = c.in_ok-solved.solved.duals in
    handed_count s.program (ended s.program s.openings c.args.pivots).tableau d.scale d.multipliers.items c.in_ok-solved.ensures.rule.duals

pub value-bound-requires-clause-room : goal.value-bound-requires-clause-room
value-bound-requires-clause-room c =
    let d = c.in_ok-solved.solved.duals in
    let told = c.in_ok-solved.ensures in
    let o = c.args.outline.now in
    value_fits c.in_ok-rows.rows o c.args.report.now.facts.items d.scale d.multipliers.items c.in_ok-rows.ensures told.dual.above told.most c.requires.room

pub returns-clause-holds : goal.returns-clause-holds
returns-clause-holds c =
    let o = c.args.outline.now in
    let facts = c.args.report.now.facts.items in
    let v = c.value-bound.result in
    let points = system_bounds c.in_ok-rows.rows o facts v c.in_ok-rows.ensures c.value-bound.ensures.bounds in
    record { points = points; runs = λ fault k past run fits met. (c.verdicts_bound_each_run.ensures o c.kept.ensures facts fault k past run fits met v v points).0 }

pub returns-clause-duals : goal.returns-clause-duals
returns-clause-duals c =
    let d = c.in_ok-solved.solved.duals in
    system_duals c.in_ok-rows.rows c.args.outline.now c.args.report.now.facts.items c.args.pivots d.scale d.multipliers.items c.in_ok-rows.ensures
    c.in_ok-solved.ensures.rule.duals

pub returns-clause-held : goal.returns-clause-held
returns-clause-held c =
    let s = c.in_ok-rows.rows in
    let d = c.in_ok-solved.solved.duals in
    let told = c.in_ok-solved.ensures in
    system_held s c.args.outline.now c.args.report.now.facts.items (ended s.program s.openings c.args.pivots).tableau d.scale d.multipliers.items c.in_ok-rows.ensures
    told.rule.duals told.dual.above told.holds

pub returns-clause-least : goal.returns-clause-least
returns-clause-least c =
    let o = c.args.outline.now in
    let facts = c.args.report.now.facts.items in
    let d = c.in_ok-solved.solved.duals in
    let told = c.in_ok-solved.ensures in
    greatest_at c.in_ok-rows.rows o facts d.scale d.multipliers.items c.in_ok-solved.solved.end c.value-bound.result c.word.result c.in_ok-rows.ensures
    c.kept-2.ensures.within told.dual c.value-bound.ensures.told c.word.ensures told.least

pub returns-clause-most : goal.returns-clause-most
returns-clause-most c =
    let d = c.in_ok-solved.solved.duals in
    let told = c.in_ok-solved.ensures in
    rw c.value-bound.ensures.told
    (value_most c.in_ok-rows.rows c.args.outline.now c.args.report.now.facts.items d.scale d.multipliers.items c.in_ok-rows.ensures told.dual.above told.most)

pub returns-clause-small : goal.returns-clause-small
returns-clause-small c = subst (λ (s : System). IsSmall s.program) c.in_ok-rows.ensures c.kept-2.ensures.small
