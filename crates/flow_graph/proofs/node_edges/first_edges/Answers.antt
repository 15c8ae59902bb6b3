use Rattle.std.proofs.Common.{◌≡◌, ◌<◌, ◌+◌, ◌-◌, ℕ, subst, sym, ◌∙◌, arith, length-set}
use Rattle.flow_graph.specs.EdgeLaws.{AreFirstFrom}
use Rattle.flow_graph.proofs.EdgeLemmas.{one_before, source_low}
use Rattle.flow_graph.proofs.node_edges.first_edges.Goals as goal

pub loop-edge-preserved : goal.loop-edge-preserved
loop-edge-preserved c =
    let graph = c.args.graph.now in
    let l = c.loop-edge in
    let edge = l.edge - 1 in
    let low : 0 < l.edge = c.loop-edge-test.true in
    let within = l.invariant.within in
    let long = l.invariant.long in
    let there = source_low c.keeps.ensures.program graph c.keeps.ensures.is edge c.edge-from.result.0 c.edge-from.result.1 c.edge-from.ensures in
    let one : edge + 1 ≡ l.edge = omega arith in
    record {
      within = omega arith;
      long = length-set l.firsts.items c.edge-from.result.0 edge ∙ long;
      each = one_before graph l.firsts.items edge c.edge-from.result.0 c.edge-from.result.1 (omega arith) c.edge-from.ensures
          (subst (λ (n : ℕ). AreFirstFrom graph l.firsts.items n) (sym one) l.invariant.each);
    }
