-- What is counted by the numbers of nodes is counted of the run.
use Rattle.std.proofs.Common.{length, ap, ◌∙◌}
use Rattle.std.proofs.lemmas.List.{length-map}
use Rattle.alf_check.specs.CheckedPrograms.{seen}
use Rattle.program_machines.specs.NodeCosts.{node_cost}
use Rattle.sweet_cli.proofs.Counted.{all_counted}
use Rattle.sweet_cli.proofs.commands.counting.counted.Goals as goal

pub count-requires-clause-costs : goal.count-requires-clause-costs
count-requires-clause-costs c =
    let program = seen c.args.expanded.now.checked in
    ap length (c.deref.ensures.value ∙ c.in_ok-costs.ensures program c.requires.graph) ∙ length-map c.args.expanded.now.graph.nodes (node_cost program c.args.costs.now)

pub returns : goal.returns
returns c =
    let program = seen c.args.expanded.now.checked in
    let same = c.in_ok-costs.ensures program c.requires.graph in
    all_counted program c.args.expanded.now.graph c.args.rows.now c.args.words.now c.args.costs.now c.args.turns _ (c.deref.ensures.value ∙ same) c.count.result c.count.ensures
