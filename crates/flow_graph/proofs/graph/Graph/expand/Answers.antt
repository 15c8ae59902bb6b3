use Rattle.std.proofs.Common.{◌∙◌, ◌≤◌, ℕ, List, Vec, Global, map, reverse, length, ap, subst, arith}
use Rattle.alf_check.specs.CheckedPrograms.{NumberedProgram, seen}
use Rattle.flow_graph.specs.Nodes.{function_at}
use Rattle.flow_graph.specs.Names.{node_name}
use Rattle.flow_graph.specs.Numbering.{IsEdges, most_edges}
use Rattle.flow_graph.specs.Places.{node_of, nodes_of}
use Rattle.flow_graph.specs.declared.place.Place.{Place}
use Rattle.flow_graph.proofs.Whole.{whole_graph}
use Rattle.flow_graph.proofs.graph.Graph.expand.Goals as goal

pub invariant_of-result : goal.invariant_of-result
invariant_of-result c =
    let program : NumberedProgram = seen c.args.checked.now in
    let places : List Place = c.in_ok-places.places.items in
    let edges : List (ℕ × ℕ) = c.in_ok-edges.edges.items in
    let listed : IsEdges program (nodes_of places) edges = subst (λ (ps : List Place). IsEdges program (nodes_of ps) edges) c.deref.ensures.value c.in_ok-edges.ensures in
    let few : length edges ≤ most_edges = omega arith in
    let funcs = c.in_ok-funcs.ensures ∙ ap (λ (ps : List Place). map (λ (place : Place). function_at program (reverse place.path.items)) ps) c.deref-2.ensures.value in
    let names = c.in_ok-names.ensures ∙ ap (λ (ps : List Place). map (λ (place : Place). node_name program (node_of place)) ps) c.deref-3.ensures.value in
    record { program = program; keeps = c.keeps.ensures; is = whole_graph program places edges c.in_ok-funcs.funcs.items (map (λ (name : Vec ℕ Global). name.items) c.in_ok-names.names.items) c.in_ok-places.ensures.numbered c.in_ok-places.ensures.few listed few funcs names }

pub returns-clause-graph : goal.returns-clause-graph
returns-clause-graph c =
    let program : NumberedProgram = seen c.args.checked.now in
    let places : List Place = c.in_ok-places.places.items in
    let edges : List (ℕ × ℕ) = c.in_ok-edges.edges.items in
    let listed : IsEdges program (nodes_of places) edges = subst (λ (ps : List Place). IsEdges program (nodes_of ps) edges) c.deref.ensures.value c.in_ok-edges.ensures in
    let few : length edges ≤ most_edges = omega arith in
    let funcs = c.in_ok-funcs.ensures ∙ ap (λ (ps : List Place). map (λ (place : Place). function_at program (reverse place.path.items)) ps) c.deref-2.ensures.value in
    let names = c.in_ok-names.ensures ∙ ap (λ (ps : List Place). map (λ (place : Place). node_name program (node_of place)) ps) c.deref-3.ensures.value in
    whole_graph program places edges c.in_ok-funcs.funcs.items (map (λ (name : Vec ℕ Global). name.items) c.in_ok-names.names.items) c.in_ok-places.ensures.numbered c.in_ok-places.ensures.few listed few funcs names
