-- On the way to the laws of stepping.
use Rattle.std.specs.Prelude.{slice_get}
use Rattle.std.proofs.Common.{◌≡◌, ℕ, length, List, Some, ◌<◌}
use Rattle.graph_walks.specs.Walks.{IsDistinct}
use Rattle.alf_check.specs.CheckedPrograms.{NumberedProgram, NumberedBlock, blocks_at}
use Rattle.alf_check.specs.Kept.{IsKept}
use Rattle.flow_graph.specs.Nodes.{function_at}
use Rattle.flow_graph.specs.Paths.{IsCallPath, functions_on}
use Rattle.flow_graph.specs.PathLaws.{path_low}

-- ---- goals

module _ (program : NumberedProgram) (keeps : IsKept program) where
  -- ---- a step

  module _ (path : List ℕ) (b : ℕ) (calls : IsCallPath program path) (distinct : IsDistinct (functions_on program path)) (block : NumberedBlock)
      (at : slice_get (blocks_at program (function_at program path)) b ≡ Some block) where
    low : function_at program path < length program.funcs
    low = path_low program keeps path calls
