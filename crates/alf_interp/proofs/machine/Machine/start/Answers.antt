use Rattle.std.proofs.lemmas.Option.{slice_get_within}
use Rattle.alf_check.specs.CheckedPrograms.{seen}
use Rattle.flow_graph.specs.Nodes.{first_node}
use Rattle.flow_graph.specs.EdgeLaws.{first_is_0}
use Rattle.alf_interp.proofs.machine.Machine.start.Goals as goal

pub invariant_of-result : goal.invariant_of-result
invariant_of-result c =
    let graph = c.args.graph.now in
    record {
      is_graph = c.requires.graph;
      are_firsts = c.in_ok-firsts.ensures;
      there = slice_get_within graph.nodes 0 first_node (first_is_0 (seen c.args.checked.now) graph c.requires.graph);
      made = c.in_ok-frames.ensures.made;
    }

pub returns-clause-stands : goal.returns-clause-stands
returns-clause-stands c = record {
  numbered = first_is_0 (seen c.args.checked.now) c.args.graph.now c.requires.graph;
  remembers = c.in_ok-frames.ensures.stands;
  placed = c.active_frames_follow_the_call_path.ensures.start (seen c.args.checked.now) c.args.rows.now c.args.words.now c.keeps.ensures c.requires.words;
}
