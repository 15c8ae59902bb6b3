use Rattle.scope_graph.specs.Placing.{plan_of}
use Rattle.scope_graph.proofs.Parts.{plan_is}
use Rattle.scope_graph.proofs.OneOutline.{same_outline}
use Rattle.scope_graph.proofs.laws.a_graph_has_one_outline.Goals as goal

pub returns : goal.returns
returns c = λ graph o other kept d e.
    same_outline (plan_of graph) (plan_is graph kept (c.graphs_are_expansions.ensures kept.program graph kept.keeps kept.is)) o other d e
