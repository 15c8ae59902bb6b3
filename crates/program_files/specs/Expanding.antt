-- The program that a command reads, from a file of ALF or of C.
--   lowered_in file root       a file of C is read, and the program that its checked unit is lowered to
--   checked_in given root      a program that passes the checks, from a file of the one language or the other
--   GraphMeans program meaning   the graph of the program, or the line of the limit that it passes
--   Expanded                   a program and its graph
--   expanded_in given root     a file is read, and its program checked and expanded
use Rattle.std.specs.Prelude.{◌≡◌, ℕ, List, Result, Ok, Err, Some}
use Rattle.alf_check.specs.CheckedPrograms.{NumberedProgram}
use Rattle.alf_check.specs.Numbered.{numbered}
use Rattle.c_lowered.specs.Programs.{lowered}
use Rattle.flow_graph.specs.Numbering.{GraphParts, IsGraph, HasMoreNodes, HasMoreEdges, most_nodes, most_edges}
use Rattle.flow_graph.specs.Faults.{FaultTells}
use Rattle.flow_graph.specs.declared.fault.GraphFault.{GraphFault}
use Rattle.sweet_words.specs.Files.{ProgramFile, Alf, C}
use Rattle.command_plans.specs.Outcome.{Outcome, Source}
use Rattle.command_plans.specs.Work.{Work, judged, done, ◌>>=◌}
use Rattle.program_files.specs.CheckLines.{graph_line}
use Rattle.program_files.specs.Programs.{numbered_in}
use Rattle.program_files.specs.Units.{checked_unit_in}

-- ---- checked programs

-- the program that the unit in the file is lowered to, with the root of this name
unfoldable pub lowered_in : List ℕ → List ℕ → Work NumberedProgram
lowered_in file root = do
  unit ← checked_unit_in file root
  done (numbered (lowered unit) root)

-- a program that passes the checks, and starts with the function of this name
abbrev pub checked_in : ProgramFile → List ℕ → Work NumberedProgram
checked_in (Alf file) root = numbered_in file root
checked_in (C file) root = lowered_in file root

-- ---- graphs

-- the line tells which limit the graph passes
pub record IsGraphLine (program : NumberedProgram) (outcome : Outcome) : Type 0 where
  pub fault : GraphFault
  pub told : FaultTells fault (HasMoreNodes program most_nodes) (HasMoreEdges program most_edges)
  pub line : graph_line fault ≡ Some outcome.text
  pub cause : outcome.cause ≡ Source

-- the graph of the program, or the line of the limit that it passes
abbrev pub GraphMeans : NumberedProgram → Result GraphParts Outcome → Type 0
GraphMeans program (Ok graph) = IsGraph program graph
GraphMeans program (Err outcome) = IsGraphLine program outcome

-- a program and its graph
pub record Expanded : Type 0 where
  pub program : NumberedProgram
  pub graph : GraphParts

unfoldable pub expanded_in : ProgramFile → List ℕ → Work Expanded
expanded_in given root = do
  program ← checked_in given root
  graph ← judged (GraphMeans program)
  done (record { program = program; graph = graph })
