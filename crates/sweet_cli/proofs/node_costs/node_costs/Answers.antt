use Rattle.std.proofs.Common.{rules, ◌<◌, length, ◌∙◌, ◌++◌, ◌∷◌, [], ℕ, List, ap, sym}
use Rattle.program_machines.specs.NodeCosts.{node_cost}
use Rattle.sweet_cli.proofs.Numbers.{costs_push}
use Rattle.sweet_cli.proofs.node_costs.node_costs.Goals as goal

pub loop-n-preserved : goal.loop-n-preserved
loop-n-preserved c = λ program is.
    let cost = node_cost program c.args.costs.now in
    let before = c.loop-n.invariant program is in
    let low : c.loop-n.n < length c.args.graph.now.nodes = search rules in
    let more = costs_push c.args.graph.now.nodes cost c.loop-n.n c.node_cost.result low (λ node at. c.node_cost.ensures program node is at) in
    c.in_ok-push.ensures.items ∙ ap (λ (l : List ℕ). l ++ c.node_cost.result ∷ []) before ∙ sym more
