-- What is left to show of `is_inside`.
use Rattle.std.proofs.Common.{◌∙◌, sym}
use Rattle.std.proofs.lemmas.Bool.{false_from_ne_true, both_ways}
use Rattle.lists.specs.TestLaws.{by_test}
use Rattle.domain_core.specs.Outlines.{shape_of, is_held}
use Rattle.domain_core.specs.OutlineLaws.{held_is, is_holder}
use Rattle.flow_facts.proofs.scopes.is_inside.Goals as goal

pub returns : goal.returns
returns c = by_test (is_held (shape_of c.args.outline.now) c.args.scope c.args.node)
    (λ is. c.holds.ensures.1 (held_is (shape_of c.args.outline.now) c.kept.ensures c.args.scope c.args.node is) ∙ sym is)
    (λ clear. false_from_ne_true c.holds.result (λ found. both_ways _ clear (is_holder (shape_of c.args.outline.now) c.kept.ensures c.args.scope c.args.node (c.holds.ensures.0 found))) ∙ sym clear)
