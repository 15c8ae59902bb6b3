-- Graphs, whose program is not at hand.
--   HasProgram graph   it is the graph of some checked program
use Rattle.alf_check.specs.CheckedPrograms.{NumberedProgram}
use Rattle.alf_check.specs.Kept.{IsKept}
use Rattle.flow_graph.specs.Numbering.{GraphParts, IsGraph}

-- it is the graph of some checked program
pub record HasProgram (graph : GraphParts) : Type 0 where
  pub program : NumberedProgram
  pub keeps : IsKept program
  pub is : IsGraph program graph
