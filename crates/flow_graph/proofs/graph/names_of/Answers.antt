use Rattle.alf_check.specs.CheckedPrograms.{seen}
use Rattle.flow_graph.proofs.Whole.{path_at}
use Rattle.flow_graph.proofs.graph.names_of.Goals as goal

pub name_of-requires : goal.name_of-requires
name_of-requires c = path_at (seen c.args.checked.now) c.args.places.now c.loop-place.place-index c.place-item.result c.loop-place-test.true c.place-item.is c.requires c.keeps.ensures
