-- Jobs: runs one after another, each from what the last left. The rows say which cells may hold what at a start.
--   Leaves program start nodes outputs history   the run from the start ends so, and leaves the memory of this history
--   LeavesAStart program rows history            the memory left holds what a start inside the ranges holds: in each row's cell
--       of a global frame a number inside its range, and in each other byte of a global frame what it holds at the start
--   EachLeavesAStart program rows                so does each run from a start inside the ranges that ends
--   Job, IsJob program job                       a run that ended: its start, its nodes, its outputs, and the history it left
--   IsNextStart program rows history numbers     the start with these numbers may come after the memory left: the ranged cells
--       hold any numbers inside their ranges, and each other byte of a global frame holds what was left in it
--   IsJobStart program rows jobs start           what a job may start from after these jobs, the newest first
--   Jobs program rows jobs                       a sequence of jobs, the newest first
use Rattle.std.specs.Prelude.{◌≡◌, ◌+◌, ℕ, ℤ, List, [], ◌∷◌, Ok}
use Rattle.alf_ops.specs.declared.history.RunEvent.{RunEvent}
use Rattle.alf_check.specs.declared.rows.InputRow.{InputRow}
use Rattle.alf_check.specs.CheckedPrograms.{NumberedBlock, NumberedProgram, blocks_at}
use Rattle.flow_graph.specs.Nodes.{Node, block_node}
use Rattle.alf_runs.specs.Statements.{after_statements}
use Rattle.alf_runs.specs.Outcomes.{Outputs, Ended}
use Rattle.alf_runs.specs.Steps.{Moment, At, Over, step, frames_of}
use Rattle.alf_runs.specs.Runs.{after, trace}
use Rattle.alf_runs.specs.Starts.{AreWithin, words_of, start, start_history, IsStart}
use Rattle.std.specs.Prelude.{Some, slice_get}
use Rattle.job_rules.specs.Held.{HoldNumbers, ReadAlike}

-- the run from the start ends so, and leaves the memory of this history: that after the statements of the block of the
-- root at which it ends
pub record Leaves (program : NumberedProgram) (from : Moment) (nodes : List Node) (outputs : Outputs)
    (history : List RunEvent) : Type 0 where
  pub steps : ℕ
  pub b : ℕ
  pub block : NumberedBlock
  pub before : List RunEvent
  pub stands : after program steps from ≡ At (block_node [] b) before
  pub at : slice_get (blocks_at program program.root) b ≡ Some block
  pub does : after_statements (frames_of program) block.statements (Ok before) ≡ Ok history
  pub over : step program (At (block_node [] b) before) ≡ Over (Ended outputs)
  pub passes : trace program (steps + 1) from ≡ nodes

-- the memory left holds what a start inside the ranges holds
pub record LeavesAStart (program : NumberedProgram) (rows : List InputRow) (history : List RunEvent) : Type 0 where
  pub numbers : List ℤ
  pub within : AreWithin rows numbers
  pub cells : HoldNumbers program history rows numbers
  pub others : ReadAlike program rows history (start_history program rows (words_of rows numbers))

-- so does each run from a start inside the ranges that ends
abbrev pub EachLeavesAStart : NumberedProgram → List InputRow → Type 0
EachLeavesAStart program rows = (from : Moment) (nodes : List Node) (outputs : Outputs) (history : List RunEvent) → IsStart program rows from
    → Leaves program from nodes outputs history → LeavesAStart program rows history

-- ---- sequences

-- a run that ended: its start, its nodes, its outputs, and the history it left
pub record Job : Type 0 where
  pub from : Moment
  pub nodes : List Node
  pub outputs : Outputs
  pub history : List RunEvent

abbrev pub IsJob : NumberedProgram → Job → Type 0
IsJob program job = Leaves program job.from job.nodes job.outputs job.history

-- the start with these numbers may come after the memory left
pub record IsNextStart (program : NumberedProgram) (rows : List InputRow) (history : List RunEvent)
    (numbers : List ℤ) : Type 0 where
  pub within : AreWithin rows numbers
  pub kept : ReadAlike program rows history (start_history program rows (words_of rows numbers))

-- what a job may start from after these jobs, the newest first: the first one as a run does, each other one from what
-- the last left
pub data IsJobStart (program : NumberedProgram) (rows : List InputRow) : List Job → Moment → Type 0 where
  first_start : (from : Moment) → IsStart program rows from → IsJobStart program rows [] from
  next_start : (last : Job) (jobs : List Job) (numbers : List ℤ) → IsNextStart program rows last.history numbers
      → IsJobStart program rows (last ∷ jobs) (start program rows (words_of rows numbers))

-- a sequence of jobs, the newest first
abbrev pub Jobs : NumberedProgram → List InputRow → List Job → Type 0
Jobs program rows [] = Unit {0}
Jobs program rows (job ∷ jobs) = IsJobStart program rows jobs job.from × IsJob program job × Jobs program rows jobs
