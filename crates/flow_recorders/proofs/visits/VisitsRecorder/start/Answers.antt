-- What is left to show of `start`.
use Rattle.std.proofs.Common.{sym}
use Rattle.flow_recorders.proofs.Keys.{begun_by}
use Rattle.flow_recorders.proofs.visits.VisitsRecorder.start.Goals as goal

pub returns : goal.returns
returns g c =
    let tally = g.K.Counted.tally c.args.outline.now in
    begun_by c.deref.result.now c.in_ok-nodes.nodes.items c.in_ok-begun.field-0 tally.scopes tally.nodes (sym (g.met.K.Counted.are_keys c.args.outline.now c.kept.ensures).same_length)
    c.in_ok-begun.ensures c.deref.ensures.value c.in_ok-nodes.ensures
