use Rattle.flow_graph.specs.Nodes.{Node}
use Rattle.flow_graph.specs.Places.{nodes_of}
use Rattle.flow_graph.specs.Growing.{IsGrown}
use Rattle.flow_graph.proofs.Searching.{IsUpTo}
use Rattle.flow_graph.proofs.kept.add_all.Given as goal

abbrev pub invariant-loop-block : goal.invariant-loop-block
invariant-loop-block l =
    IsGrown (nodes_of l.initial.places.items) (nodes_of l.initial.pending.items) (λ (n : Node). IsUpTo l.goals.path.items l.block-items l.block-index n) (nodes_of l.places.items) (nodes_of l.pending.items)
