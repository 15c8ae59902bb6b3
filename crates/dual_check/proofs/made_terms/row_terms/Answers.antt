-- The walk's beginning, a step, and its end.
use Rattle.std.proofs.Common.{rules, ◌≡◌, ◌++◌, ◌∙◌, ℕ, ℤ, List, [], get_or, length, subst, sym, ap, refl, arith}
use Rattle.domain_core.specs.Outlines.{shape_of}
use Rattle.ipet_rows.specs.PathSparseLaws.{weight_at}
use Rattle.dual_check.specs.Constraints.{weighing_of}
use Rattle.dual_check.specs.Terms.{term_if}
use Rattle.dual_check.proofs.Sought.{IsSought, sought_first, sought_next, sought_all}
use Rattle.dual_check.proofs.made_terms.row_terms.Goals as goal

pub loop-place-init : goal.loop-place-init
loop-place-init c =
    let lists = c.args.touching.now in
    let first = c.numbers_at-first.ensures ∙ ap (λ (n : ℕ). get_or lists n []) c.node.ensures in
    let second = c.numbers_at-second.ensures ∙ ap (λ (n : ℕ). get_or lists n []) c.second_node.ensures in
    let third = c.numbers_at-third.ensures ∙ ap (λ (n : ℕ). get_or lists n []) c.third_node.ensures in
    let begun = sought_first (shape_of c.args.outline.now) c.args.constraint c.args.columns.now lists c.numbers_at-first.result.now c.numbers_at-second.result.now c.numbers_at-third.result.now
    (length c.args.columns.now) c.next_of-place.result c.requires.touching first second third c.next_of-place.ensures in
    let g = weight_at (weighing_of (shape_of c.args.outline.now) c.args.constraint).weight c.args.columns.now in
    subst (λ (ts : List (ℕ × ℤ)). IsSought g (length c.args.columns.now) c.next_of-place.result c.numbers_at-first.result.now c.numbers_at-second.result.now c.numbers_at-third.result.now ts) (sym c.new-terms.ensures.items) begun

pub loop-place-preserved : goal.loop-place-preserved
loop-place-preserved c =
    let f = (weighing_of (shape_of c.args.outline.now) c.args.constraint).weight in
    let l = c.loop-place in
    let d = c.index-columns-place.result in
    let next : c.push_term.new.terms.items ≡ l.terms.items ++ term_if l.place c.weight-number.result = search rules in
    let weighs : c.weight-number.result ≡ f (get_or c.args.columns.now l.place d) = c.weight-number.ensures ∙ ap f c.index-columns-place.is in
    (sought_next f c.args.columns.now d (length c.args.columns.now) l.place c.next_of-place-in-loop-place.result c.weight-number.result l.first.now l.second.now l.third.now
    c.past-first.result.now c.past-second.result.now c.past-third.result.now l.terms.items c.push_term.new.terms.items
    l.invariant (omega (arith, c.loop-place-test.true)) refl weighs next c.past-first.ensures c.past-second.ensures c.past-third.ensures c.next_of-place-in-loop-place.ensures).0

pub returns : goal.returns
returns c =
    let l = c.loop-place in
    sought_all (weighing_of (shape_of c.args.outline.now) c.args.constraint).weight c.args.columns.now (length c.args.columns.now) l.place l.first.now l.second.now l.third.now l.terms.items
    l.invariant (omega (arith, c.loop-place-test.false)) refl
