-- What is left to show of `nodes_stand_at_their_paths_and_blocks`.
use Rattle.std.proofs.Common.{refl}
use Rattle.scope_graph.proofs.worked.nodes_stand_at_their_paths_and_blocks.Goals as goal

pub returns : goal.returns
returns c = refl
