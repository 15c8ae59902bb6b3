use Rattle.std.proofs.Common.{◌≡◌, ◌∙◌, ℕ, List, ap, rules}
use Rattle.std.specs.List.{insert}
use Rattle.flow_graph.specs.Places.{node_at, node_of, nodes_of}
use Rattle.flow_graph.proofs.Growing.{map_insert}
use Rattle.flow_graph.proofs.kept.put.Goals as goal

pub returns-clause-places : goal.returns-clause-places
returns-clause-places c =
    let path_is : c.in_ok-found.found.items ≡ c.args.path.now = search rules in
    ap nodes_of c.in_ok-insert.ensures.items ∙ map_insert node_of c.args.places.now.items c.args.at _ ∙ ap (λ (p : List ℕ). insert (nodes_of c.args.places.now.items) c.args.at (node_at p c.args.block)) path_is
