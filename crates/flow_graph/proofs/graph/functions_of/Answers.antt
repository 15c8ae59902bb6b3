use Rattle.std.proofs.Common.{ℕ, List, reverse, sym, subst}
use Rattle.alf_check.specs.CheckedPrograms.{seen}
use Rattle.flow_graph.specs.Paths.{IsCallPath}
use Rattle.flow_graph.proofs.Whole.{path_at}
use Rattle.flow_graph.proofs.graph.functions_of.Goals as goal

pub function_at-requires : goal.function_at-requires
function_at-requires c =
    subst (λ (p : List ℕ). IsCallPath (seen c.args.checked.now) (reverse p)) (sym c.deref.ensures.value)
    (path_at (seen c.args.checked.now) c.args.places.now c.loop-place.place-index c.place-item.result c.loop-place-test.true c.place-item.is c.requires c.keeps.ensures)
