-- What is seen of the ends of a program's runs.
--   Returns ending                   the block returns
--   IsLast program graph n block     the node n is a block of the root that returns, and this is the block
--   IsOfRoot checked parts           a memory of the program in which the root alone runs
--   AreEnds checked ends             so is the memory of the ends, if there is one
--   FitsAt checked graph n state     a memory of the program for the node
--   AreBothEnds first second         two such memories of one program
--   IsLeft checked graph n state later   the history is what the statements of such a block leave of some history that the state stands for
--   StandsForAll first second        the second memory stands for each history that the first stands for
--   EndsIn checked graph ends n state    each such history is one that the memory of the ends stands for
use Rattle.std.specs.Prelude.{◌≡◌, ℕ, [], List, Option, Some, IfSome, slice_get}
use Rattle.alf_ops.specs.declared.history.FrameShape.{FrameShape}
use Rattle.alf_ops.specs.declared.history.RunEvent.{RunEvent}
use Rattle.alf_program.specs.Tree.{NumberedExpression}
use Rattle.alf_check.specs.CheckedPrograms.{BlockEnding, CheckedParts, NumberedBlock, NumberedProgram, Return, seen, blocks_at}
use Rattle.flow_graph.specs.Nodes.{block_node}
use Rattle.flow_graph.specs.Numbering.{GraphParts}
use Rattle.flow_graph.specs.Expansions.{node_number}
use Rattle.memory_model.specs.KeptMemories.{MemoryParts, memory_in, rows_of}
use Rattle.transfer_rules.specs.Machines.{RunsAlong, Fits}
use Rattle.transfer_rules.specs.PartMachines.{IsOwn}
use Rattle.left_cells.specs.Ends.{IsAfter, StandsIn}

-- the block returns
abbrev pub Returns : BlockEnding → Type 0
Returns ending = (value : Option NumberedExpression) × (ending ≡ Return value)

-- the node n is a block of the root that returns, and this is the block
pub record IsLast (program : NumberedProgram) (graph : GraphParts) (n : ℕ) (block : NumberedBlock) : Type 0 where
  pub number : ℕ
  pub node : node_number graph n ≡ block_node [] number
  pub at : slice_get (blocks_at program program.root) number ≡ Some block
  pub returns : Returns block.ending

-- a memory of the program in which the root alone runs
pub record IsOfRoot (checked : CheckedParts) (parts : MemoryParts) : Type 0 where
  pub own : IsOwn checked parts
  pub along : RunsAlong (seen checked) [] (memory_in parts)

abbrev pub AreEnds : CheckedParts → Option MemoryParts → Type 0
AreEnds checked ends = IfSome ends (IsOfRoot checked)

-- a memory of the program for the node
pub record FitsAt (checked : CheckedParts) (graph : GraphParts) (n : ℕ) (state : MemoryParts) : Type 0 where
  pub own : IsOwn checked state
  pub fits : Fits (seen checked) graph n (memory_in state)

-- two such memories of one program
pub record AreBothEnds (first second : Option MemoryParts) : Type 0 where
  pub checked : CheckedParts
  pub one : AreEnds checked first
  pub other : AreEnds checked second

-- the history is what the statements of such a block leave of some history that the state stands for
pub record IsLeft (checked : CheckedParts) (graph : GraphParts) (n : ℕ) (state : MemoryParts)
    (later : List RunEvent) : Type 0 where
  pub block : NumberedBlock
  pub last : IsLast (seen checked) graph n block
  pub after : IsAfter checked block.statements state later

-- the second memory stands for each history that the first stands for
abbrev pub StandsForAll : Option MemoryParts → Option MemoryParts → Type 0
StandsForAll first second = (rows : List FrameShape) (later : List RunEvent) → StandsIn rows first later → StandsIn rows second later

-- each such history is one that the memory of the ends stands for
abbrev pub EndsIn : CheckedParts → GraphParts → Option MemoryParts → ℕ → MemoryParts → Type 0
EndsIn checked graph ends n state = (later : List RunEvent) → IsLeft checked graph n state later → StandsIn (rows_of checked) ends later
