use Rattle.std.proofs.Common.{◌≡◌, Some, subst}
use Rattle.alf_check.specs.CheckedPrograms.{seen}
use Rattle.flow_graph.specs.Nodes.{Node, Leads, function_at}
use Rattle.abstract_step.specs.Standing.{HereParts, place_of}
use Rattle.abstract_step.proofs.HereLaws.{next_func_is}
use Rattle.abstract_step.proofs.here.Here.next_func.Goals as goal

pub returns : goal.returns
returns c =
    let here : HereParts = record { checked = c.self.inside.checked.now; graph = c.self.inside.graph.now; node = c.self.inside.node } in
    subst (λ (h : HereParts). (goal : Node) → Leads (seen h.checked) (place_of h) (Some goal) → c.next_func.result ≡ function_at (seen h.checked) goal.path) c.self.view_is
    (next_func_is here c.self.inside.firsts.now c.self.invariant c.next_func.result c.next_func.ensures)
