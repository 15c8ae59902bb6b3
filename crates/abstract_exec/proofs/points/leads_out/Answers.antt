-- What is left to show of `leads_out`.
use Rattle.std.proofs.Common.{rules, ◌<◌, length}
use Rattle.abstract_exec.proofs.Exits.{is_left}
use Rattle.abstract_exec.proofs.points.leads_out.Goals as goal

pub returns : goal.returns
returns c =
    let low : c.args.to < length c.args.outline.now.nodes = search rules in
    is_left c.args.outline.now c.kept.ensures c.args.from c.args.to c.node.result.now c.node.ensures c.holds.result low c.holds.ensures
