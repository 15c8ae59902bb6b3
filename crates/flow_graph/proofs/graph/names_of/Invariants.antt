use Rattle.std.proofs.Common.{◌≡◌, ◌++◌, ℕ, Vec, Global, map, drop}
use Rattle.alf_check.specs.CheckedPrograms.{seen}
use Rattle.flow_graph.specs.Names.{node_name}
use Rattle.flow_graph.specs.Places.{node_of}
use Rattle.flow_graph.specs.declared.place.Place.{Place}
use Rattle.flow_graph.proofs.graph.names_of.Given as goal

abbrev pub invariant-loop-place : goal.invariant-loop-place
invariant-loop-place l =
    map (λ (name : Vec ℕ Global). name.items) l.names.items ++ map (λ (place : Place). node_name (seen l.checked) (node_of place)) (drop l.place-index l.places) ≡ map (λ (place : Place). node_name (seen l.checked) (node_of place)) l.places
