-- The graph, or the line of a limit, is the only meaning.
use Rattle.std.proofs.Common.{refl}
use Rattle.alf_check.specs.CheckedPrograms.{seen}
use Rattle.program_files.proofs.JudgedGraph.{graph_only, limit_only}
use Rattle.program_files.proofs.expanding.graph_of.Goals as goal

pub returns-in-Ok-clause-means : goal.returns-in-Ok-clause-means
returns-in-Ok-clause-means c =
    let program = seen c.args.checked.now in
    let one = c.a_program_has_one_graph.ensures in
    let limits = c.limits_exclude_each_other.ensures in
    graph_only program (one.graph _) (limits.nodes _) (limits.edges _) (limits.either _) c.in-Ok.graph c.in-Ok.ensures.graph

pub returns-in-Ok-graph_line-clause-means : goal.returns-in-Ok-graph_line-clause-means
returns-in-Ok-graph_line-clause-means c =
    let program = seen c.args.checked.now in
    let one = c.a_program_has_one_graph.ensures in
    let limits = c.limits_exclude_each_other.ensures in (
      refl,
      limit_only program (one.graph _) (limits.nodes _) (limits.edges _) (limits.either _) c.in-Err.fault c.in-Ok-graph_line.line.items
          c.in-Err.ensures.fault c.in-Ok-graph_line.ensures,
    )
