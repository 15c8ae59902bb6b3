-- The lines so far are those of the nodes.
use Rattle.std.proofs.Common.{◌≡◌, ◌<◌, map, length, get_or, Some, sym, ap, ◌∙◌, arith}
use Rattle.std.specs.Prelude.{slice_get}
use Rattle.std.specs.Option.{option_map}
use Rattle.std.proofs.lemmas.Option.{slice_get-map}
use Rattle.std.proofs.lemmas.List.{length-map, get_or-map}
use Rattle.domain_core.specs.declared.outline.NodeRow.{NodeRow}
use Rattle.flow_facts.specs.declared.report.NodeLine.{NodeLine}
use Rattle.flow_facts.specs.Reports.{NamedNode, node_of}
use Rattle.report_soundness.specs.ReportTold.{named_nodes}
use Rattle.report_checks.proofs.Steps.{one_more, same_at}
use Rattle.report_checks.proofs.shaping.are_nodes.Goals as goal

abbrev named : NodeRow → NamedNode
named row = record { scope = row.scope; cost = row.cost; name = row.name.items }

pub returns-then-not-is_node : goal.returns-then-not-is_node
returns-then-not-is_node c = (
  λ yes. absurd (let bad = yes in cc),
  λ all.
      let i = c.loop-n.n in
      let line = c.index-lines-n.result in
      let low = c.loop-n-test.true in
      let long = c.if-lines-node_count.false in
      let first = c.node_count.ensures in
      let second = c.node_count-n-end.ensures in
      let at : slice_get (named_nodes c.args.outline.now) i ≡ Some (named c.node.result.now) = slice_get-map named c.args.outline.now.nodes i ∙ ap (option_map named) c.node.ensures in
      let here : get_or (map node_of c.args.lines.now) i (node_of line) ≡ node_of line =
      get_or-map node_of c.args.lines.now i line (node_of line) (omega (arith, low, long, first, second)) ∙ ap (λ (l : NodeLine). node_of l) (sym c.index-lines-n.is) in
      c.if-not-is_node.ensures.1 (sym here ∙ same_at (map node_of c.args.lines.now) (named_nodes c.args.outline.now) i (node_of line) (named c.node.result.now) all at),
)

pub loop-n-preserved : goal.loop-n-preserved
loop-n-preserved c =
    let i = c.loop-n.n in
    let line = c.index-lines-n.result in
    let low = c.loop-n-test.true in
    let long = c.if-lines-node_count.false in
    let first = c.node_count.ensures in
    let second = c.node_count-n-end.ensures in
    let within : i < length c.args.lines.now = omega (arith, low, long, first, second) in
    let same_length = length-map c.args.lines.now node_of in
    let at : slice_get (named_nodes c.args.outline.now) i ≡ Some (named c.node.result.now) = slice_get-map named c.args.outline.now.nodes i ∙ ap (option_map named) c.node.ensures in
    let here : get_or (map node_of c.args.lines.now) i (node_of line) ≡ node_of line =
    get_or-map node_of c.args.lines.now i line (node_of line) within ∙ ap (λ (l : NodeLine). node_of l) (sym c.index-lines-n.is) in
    one_more (map node_of c.args.lines.now) (named_nodes c.args.outline.now) i (node_of line) (named c.node.result.now) (omega (arith, within, same_length)) c.loop-n.invariant
    (here ∙ c.is_node.ensures.0 c.if-not-is_node.false) at
