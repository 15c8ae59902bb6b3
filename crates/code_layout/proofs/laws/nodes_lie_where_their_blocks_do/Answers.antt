-- By the laws.
use Rattle.std.proofs.Common.{refl}
use Rattle.std.proofs.lemmas.List.{length-map}
use Rattle.code_layout.specs.Layouts.{node_part}
use Rattle.code_layout.proofs.Behind.{each_part}
use Rattle.code_layout.proofs.laws.nodes_lie_where_their_blocks_do.Goals as goal

pub returns : goal.returns
returns c = record {
  entry = λ program path. refl;
  block = λ program path b. refl;
  count = λ program graph. length-map graph.nodes (node_part program);
  each = each_part;
}
