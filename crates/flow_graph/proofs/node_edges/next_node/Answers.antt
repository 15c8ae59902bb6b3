use Rattle.std.proofs.Common.{◌≡◌, ℕ, Some, slice_get, sym, ap, ◌∙◌, arith}
use Rattle.std.proofs.lemmas.Bool.{false≢true}
use Rattle.std.proofs.lemmas.Option.{same_Some, slice_get_within}
use Rattle.flow_graph.specs.Nodes.{Node}
use Rattle.flow_graph.specs.Edges.{IsNodeWith}
use Rattle.flow_graph.proofs.EdgeLemmas.{first_of, further_on, same_goal}
use Rattle.flow_graph.proofs.node_edges.next_node.Goals as goal
use Rattle.flow_graph.proofs.node_edges.next_node.Goals.{else-from-node-via-then-from-node+else-has_block, else-from-node-via-else-from-node}

pub loop-edge-init : goal.loop-edge-init
loop-edge-init c = λ goal h block.
    let first = first_of c.args.graph.now c.args.firsts.now c.requires.firsts c.args.node goal h in
    record { edge = h; further = first.low }

pub returns-then-has_block : goal.returns-then-has_block
returns-then-has_block c = λ goal h block.
    let found = c.has_block.ensures.0 c.if-has_block.true in
    let from : c.edge-from.result.0 ≡ c.args.node = c.if-from-node.true in
    let at : slice_get c.args.graph.now.edges c.loop-edge.edge ≡ Some (c.args.node, c.edge-from.result.1) =
    c.edge-from.ensures ∙ ap (λ (u : ℕ). Some (u, c.edge-from.result.1)) from in
    found.at ∙ ap (λ (n : Node). Some n) (same_goal c.keeps.ensures.program c.args.graph.now c.keeps.ensures.is c.loop-edge.edge c.args.node c.edge-from.result.1 goal found.node h at found.at (found.block_is ∙ sym block))

pub loop-edge-preserved : goal.loop-edge-preserved
loop-edge-preserved c = λ goal h block.
    let from = c.loop-edge.invariant goal h block in
    further_on c.args.graph.now c.args.node goal c.loop-edge.edge from (λ at.
    let pair : c.edge-from.result ≡ (c.args.node, from.edge.to) = same_Some _ _ (sym c.edge-from.ensures ∙ at) in
    let source : c.edge-from.result.0 ≡ c.args.node = ap (λ (p : ℕ × ℕ). p.0) pair in
    let to : c.edge-from.result.1 ≡ from.edge.to = ap (λ (p : ℕ × ℕ). p.1) pair in
    let there : IsNodeWith c.args.graph.now c.edge-from.result.1 c.args.block = record { node = goal; at = ap (slice_get c.args.graph.now.nodes) to ∙ from.edge.is; block_is = block } in
    elim c.else-from-node.branch [
      | else-from-node-via-then-from-node+else-has_block w ↦ false≢true (sym w.if-has_block.false ∙ w.has_block.ensures.1 there)
      | else-from-node-via-else-from-node w ↦ w.if-from-node.false source
    ])

pub returns : goal.returns
returns c = λ goal h block.
    let from = c.loop-edge.invariant goal h block in
    let further = from.further in
    let low = slice_get_within c.args.graph.now.edges _ _ from.edge.edge in
    absurd (omega arith)
