use Rattle.std.proofs.Common.{◌≡◌, ◌++◌, map, drop, reverse}
use Rattle.alf_check.specs.CheckedPrograms.{seen}
use Rattle.flow_graph.specs.Nodes.{function_at}
use Rattle.flow_graph.specs.declared.place.Place.{Place}
use Rattle.flow_graph.proofs.graph.functions_of.Given as goal

abbrev pub invariant-loop-place : goal.invariant-loop-place
invariant-loop-place l =
    l.funcs.items ++ map (λ (place : Place). function_at (seen l.checked) (reverse place.path.items)) (drop l.place-index l.places) ≡ map (λ (place : Place). function_at (seen l.checked) (reverse place.path.items)) l.places
