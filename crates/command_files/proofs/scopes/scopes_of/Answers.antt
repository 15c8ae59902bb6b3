-- The scopes of the graph are the only meaning.
use Rattle.command_files.proofs.JudgedScopes.{scoped_only}
use Rattle.command_files.proofs.scopes.scopes_of.Goals as goal

pub returns-in-Ok-clause-means : goal.returns-in-Ok-clause-means
returns-in-Ok-clause-means c =
    scoped_only c.args.graph.now c.a_graph_has_one_outline.ensures c.crossing_is_irreducible.ensures c.keeps.ensures c.in-Ok.outline c.in-Ok.ensures.outline c.in-Ok.ensures.reducible
