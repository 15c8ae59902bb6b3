use Rattle.std.proofs.Common.{◌≡◌, ◌<◌, ◌+◌, ◌∙◌, length, sym, subst, arith}
use Rattle.domain_core.specs.Outlines.{Outlined}
use Rattle.program_analysis.specs.Pricing.{IsPricedAs, ArePaid}
use Rattle.program_analysis.proofs.PricingLemmas.{priced_more, priced_count, paid_more, paid_all}
use Rattle.program_analysis.proofs.node_costs.set_costs.Goals as goal

pub loop-n-preserved : goal.loop-n-preserved
loop-n-preserved c =
    let old : Outlined = c.args.outline.now in
    let now : Outlined = c.loop-n.outline in
    let kept : IsPricedAs old now = c.loop-n.invariant.kept in
    let count : length now.nodes ≡ length old.nodes = priced_count old now kept in
    let required : length old.nodes ≡ length c.args.graph.now.nodes = c.requires in
    let end = c.loop-n.invariant.end in
    let before = c.loop-n-test.true in
    let low : c.loop-n.n < length now.nodes = omega (arith, count, required, end, before) in
    subst (λ (o : Outlined). record {
      end : c.node_count-n-end.result ≡ length c.args.graph.now.nodes;
      kept : IsPricedAs old o;
      paid : ArePaid c.args.graph.now c.args.costs.now (c.loop-n.n + 1) o.nodes;
    }) (sym c.set_cost.ensures) (record {
      end = end;
      kept = priced_more old now c.loop-n.n c.cost_of.result kept;
      paid = paid_more c.args.graph.now c.args.costs.now c.loop-n.n c.cost_of.result now.nodes c.loop-n.invariant.paid low c.cost_of.ensures;
    })

pub returns-clause-priced : goal.returns-clause-priced
returns-clause-priced c = λ program is.
    let old : Outlined = c.args.outline.now in
    let now : Outlined = c.loop-n.outline in
    let count : length now.nodes ≡ length old.nodes = priced_count old now c.loop-n.invariant.kept in
    let required : length old.nodes ≡ length c.args.graph.now.nodes = c.requires in
    let end = c.loop-n.invariant.end in
    let after = c.loop-n-test.false in
    let paid : ArePaid c.args.graph.now c.args.costs.now c.loop-n.n now.nodes = c.loop-n.invariant.paid in
    paid_all program c.args.graph.now c.args.costs.now now.nodes is (count ∙ required)
    (λ other node n its low at. paid other node n its (omega (arith, low, end, after)) at)
