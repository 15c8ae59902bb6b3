-- What was made keeps what every program keeps.
use Rattle.std.proofs.Common.{◌≡◌, ◌<◌, ◌^◌, ◌∙◌, ℕ, List, ap, refl, subst, arith, length, map}
use Rattle.std.proofs.lemmas.List.{length-map}
use Rattle.domain_core.specs.declared.outline.NodeRow.{NodeRow}
use Rattle.domain_core.specs.Outlines.{shape_of}
use Rattle.ipet_rows.specs.Programs.{Row, cost_at}
use Rattle.dual_check.specs.Systems.{AreColumns}
use Rattle.dual_check.specs.Openings.{openings_of}
use Rattle.dual_check.proofs.Kept.{rows_of_columns, system_kept}
use Rattle.dual_check.proofs.system_made.system.Goals as goal

pub by_columns-requires-clause-rows : goal.by_columns-requires-clause-rows
by_columns-requires-clause-rows c =
    rows_of_columns (shape_of c.args.outline.now) c.args.columns.now c.args.constraints.now c.deref-2.result.now (length c.args.columns.now) (c.deref-2.ensures.value ∙ c.in_ok-rows.ensures.rows) refl

pub invariant_of-result : goal.invariant_of-result
invariant_of-result c =
    let few = c.kept.ensures.few_nodes in
    let own : length (map (λ (row : NodeRow). row.scope) c.args.outline.now.nodes) ≡ length c.args.outline.now.nodes = length-map c.args.outline.now.nodes (λ (row : NodeRow). row.scope) in
    let openings = c.in_ok-openings.ensures ∙ ap (λ (n : ℕ). openings_of c.args.columns.now c.args.constraints.now n) c.node_count.ensures in
    let lists : AreColumns (length c.args.columns.now) c.in_ok-rows.rows.items c.in_ok-lists.lists.items =
    subst (λ (rs : List Row). AreColumns (length c.args.columns.now) rs c.in_ok-lists.lists.items) c.deref-2.ensures.value c.in_ok-lists.ensures in
    let prices : (e : ℕ) → cost_at c.in_ok-costs.costs.items e < 2 ^ 32 = subst (λ (cs : List ℕ). (e : ℕ) → cost_at cs e < 2 ^ 32) c.deref.ensures.value c.costs_fit.ensures in
    system_kept c.args.outline.now c.args.columns.now c.args.constraints.now c.in_ok-costs.costs.items c.in_ok-rows.rows.items c.in_ok-openings.openings.items c.in_ok-lists.lists.items
    c.in_ok-costs.ensures c.in_ok-rows.ensures.rows openings lists c.requires.columns c.requires.constraints (omega (arith, few, own)) prices c.in_ok-rows.ensures.fits
