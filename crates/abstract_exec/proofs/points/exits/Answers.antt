-- What is left to show of `exits`.
use Rattle.std.proofs.Common.{arith, length-set, sym, ◌∙◌}
use Rattle.std.proofs.lemmas.Bool.{false≢true}
use Rattle.std.proofs.lemmas.Option.{slice_get_within}
use Rattle.abstract_exec.proofs.Exits.{edge_low, more_sound, more_done, over_done, are_exits, take_is}
use Rattle.abstract_exec.proofs.points.exits.Goals.{then-leads_out, else-leads_out}
use Rattle.abstract_exec.proofs.points.exits.Goals as goal

pub leads_out-requires : goal.leads_out-requires
leads_out-requires c = edge_low c.args.outline.now c.kept.ensures c.loop-e.e c.edge-from.result c.edge-from.ensures

pub loop-e-preserved : goal.loop-e-preserved
loop-e-preserved c =
    let l = c.loop-e in
    elim c.if-leads_out.branch [
      | then-leads_out w ↦
          let out = c.leads_out.ensures.0 w.if-leads_out.true in
          rw w.flags-is (record {
            long = length-set l.flags c.edge-from.result.1 _ ∙ l.invariant.long;
            sound = more_sound c.args.outline.now l.flags l.e c.edge-from.result l.invariant.long l.invariant.sound l.invariant.done c.edge-from.ensures out;
            done = more_done c.args.outline.now l.flags l.e c.edge-from.result l.invariant.long l.invariant.sound l.invariant.done c.edge-from.ensures out;
          })
      | else-leads_out w ↦
          rw w.flags-is (record {
            long = l.invariant.long;
            sound = l.invariant.sound;
            done = over_done c.args.outline.now l.flags l.e c.edge-from.result l.invariant.long l.invariant.sound l.invariant.done c.edge-from.ensures (λ out. false≢true (sym w.if-leads_out.false ∙ c.leads_out.ensures.1 out));
          })
    ]

pub returns : goal.returns
returns c =
    let l = c.loop-e in
    let long = l.invariant.long in
    let over = c.loop-e-test.false in
    let count = c.edge_count-e-end.ensures in
    let nodes = c.node_count.ensures in
    let len = c.in_ok-points.ensures.len in
    let all = c.in_ok-points.points.ok.0 in
    rw (take_is l.flags c.in_ok-points.points.items c.in_ok-points.points.len (omega arith) (omega arith))
    (are_exits c.args.outline.now l.flags long l.invariant.sound
    (λ k u n at node left. let within = slice_get_within c.args.outline.now.edges k (u, n) at in l.invariant.done k u n (omega arith) at node left))
