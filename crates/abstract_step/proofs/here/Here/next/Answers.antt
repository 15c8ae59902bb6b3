use Rattle.std.proofs.Common.{◌≡◌, Some, subst}
use Rattle.alf_check.specs.CheckedPrograms.{seen}
use Rattle.flow_graph.specs.Nodes.{Node, Leads}
use Rattle.transfer_rules.specs.NodeNumbers.{goal_number}
use Rattle.abstract_step.specs.Standing.{HereParts, place_of}
use Rattle.abstract_step.proofs.HereLaws.{next_is}
use Rattle.abstract_step.proofs.here.Here.next.Goals as goal

pub returns : goal.returns
returns c =
    let here : HereParts = record { checked = c.self.inside.checked.now; graph = c.self.inside.graph.now; node = c.self.inside.node } in
    subst (λ (h : HereParts). (goal : Node) → Leads (seen h.checked) (place_of h) (Some goal) → goal.block ≡ c.args.block → c.next_node.result ≡ goal_number h.graph (Some goal)) c.self.view_is
    (next_is here c.self.inside.firsts.now c.self.invariant c.graphs_are_expansions.ensures c.args.block c.next_node.result c.next_node.ensures)
