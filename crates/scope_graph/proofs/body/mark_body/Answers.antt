-- What is left to show of `mark_body`.
use Rattle.std.proofs.Common.{◌≡◌, ℕ, true, false, length, get_or, set, replicate, ap, sym, ◌∙◌, arith}
use Rattle.std.proofs.lemmas.List.{length-map}
use Rattle.std.proofs.lemmas.List.Elements.{Contains-get_or}
use Rattle.graph_walks.specs.Tables.{rows_of}
use Rattle.scope_graph.proofs.BodyMarks.{marking_first, marking_over, marking_more, marking_done}
use Rattle.scope_graph.proofs.body.mark_body.Goals as goal
use Rattle.scope_graph.proofs.body.mark_body.Goals.{then-edge-header+in_ok-mark_reached, else-edge-header}

pub loop-edge-init : goal.loop-edge-init
loop-edge-init c =
    let rows = rows_of c.args.table.now in
    let long : length rows ≡ length c.args.table.now = length-map c.args.table.now _ in
    marking_first rows c.args.back.now c.args.header (let low = c.requires.inside in omega arith) c.args.seen.now (c.requires.clear ∙ ap (λ (n : ℕ). set (replicate n false) c.args.header true) (sym long))

pub mark_reached-requires-clause-long : goal.mark_reached-requires-clause-long
mark_reached-requires-clause-long c = let rows : length (rows_of c.args.table.now) ≡ length c.args.table.now = length-map c.args.table.now _ in c.loop-edge.invariant.long ∙ rows

pub mark_reached-requires-clause-inside : goal.mark_reached-requires-clause-inside
mark_reached-requires-clause-inside c =
    let edge = get_or c.args.back.now c.loop-edge.edge-index (0, 0) in
    c.requires.sources edge.0 edge.1 (Contains-get_or c.args.back.now c.loop-edge.edge-index (0, 0) c.loop-edge-test.true)

pub loop-edge-preserved : goal.loop-edge-preserved
loop-edge-preserved c =
    let rows = rows_of c.args.table.now in
    let back = c.args.back.now in
    let k = c.loop-edge.edge-index in
    let m = c.loop-edge.invariant in
    elim c.if-edge-header.branch [
      | then-edge-header+in_ok-mark_reached w ↦
          rw w.seen-is (marking_more rows back c.args.header c.loop-edge.seen k m w.mark_reached.new.marks c.loop-edge-test.true w.if-edge-header.true w.mark_reached.auto.marks w.mark_reached.ensures.kept w.mark_reached.ensures.reached w.in_ok-mark_reached.ensures.all)
      | else-edge-header w ↦ rw w.seen-is (marking_over rows back c.args.header c.loop-edge.seen k m (λ to. absurd (w.if-edge-header.false to)))
    ]

pub returns : goal.returns
returns c = marking_done (rows_of c.args.table.now) c.args.back.now c.args.header c.loop-edge.seen c.loop-edge.edge-index c.loop-edge-test.false c.loop-edge.invariant
