-- Laws of jobs.
--   IsLastReturn path ending   a return of the root
--   RunsThatEndLeave      each run from a start that ends leaves a memory
--   LeavesAndEnds         a run that leaves a memory ends
--   OneJobIsARun          a sequence of one job is a run from a start inside the ranges that ends
--   EachJobStartsInside   what a job may start from is a start inside the ranges, and so each job of a sequence starts inside
--   AnyInputsComeNext     where each run leaves what a start holds, any numbers inside the ranges may come after each job
--   LeftAloneComesNext    among them those that the job left in the ranged cells
use Rattle.std.specs.Prelude.{◌≡◌, ℕ, ℤ, List, [], ◌∷◌, Option, Contains}
use Rattle.alf_ops.specs.declared.history.RunEvent.{RunEvent}
use Rattle.alf_program.specs.Tree.{NumberedExpression}
use Rattle.alf_check.specs.declared.rows.InputRow.{InputRow}
use Rattle.alf_check.specs.CheckedPrograms.{BlockEnding, Return, NumberedProgram}
use Rattle.flow_graph.specs.Nodes.{Node}
use Rattle.alf_runs.specs.Outcomes.{Outputs, Ended}
use Rattle.alf_runs.specs.Steps.{Moment}
use Rattle.alf_runs.specs.Runs.{Ends}
use Rattle.alf_runs.specs.Starts.{AreWithin, IsStart}
use Rattle.job_rules.specs.Held.{HoldNumbers}
use Rattle.job_rules.specs.Jobs.{Leaves, EachLeavesAStart, Job, IsNextStart, IsJobStart, Jobs}

-- what a job may start from is a start inside the ranges
pub record StartsInside (program : NumberedProgram) (rows : List InputRow) (jobs : List Job) : Type 0 where
  pub next : (from : Moment) → IsJobStart program rows jobs from → IsStart program rows from
  pub each : (job : Job) → Contains jobs job → IsStart program rows job.from

abbrev pub EachJobStartsInside : Type 0
EachJobStartsInside = (program : NumberedProgram) (rows : List InputRow) (jobs : List Job) → Jobs program rows jobs → StartsInside program rows jobs

-- any numbers inside the ranges may come after each job
abbrev pub AnyInputsComeNext : Type 0
AnyInputsComeNext = (program : NumberedProgram) (rows : List InputRow) (last : Job) (jobs : List Job) (numbers : List ℤ)
    → EachLeavesAStart program rows → Jobs program rows (last ∷ jobs) → AreWithin rows numbers
    → IsNextStart program rows last.history numbers

-- a start with the numbers that the last job left in the ranged cells
pub record IsLeftAlone (program : NumberedProgram) (rows : List InputRow) (last : Job) : Type 0 where
  pub numbers : List ℤ
  pub next : IsNextStart program rows last.history numbers
  pub cells : HoldNumbers program last.history rows numbers

abbrev pub LeftAloneComesNext : Type 0
LeftAloneComesNext = (program : NumberedProgram) (rows : List InputRow) (last : Job) (jobs : List Job)
    → EachLeavesAStart program rows → Jobs program rows (last ∷ jobs) → IsLeftAlone program rows last

-- ---- runs that end

-- a return of the root
pub record IsLastReturn (path : List ℕ) (ending : BlockEnding) : Type 0 where
  pub of_root : path ≡ []
  pub value : Option NumberedExpression
  pub returns : ending ≡ Return value

-- each run from a start that ends leaves a memory
abbrev pub RunsThatEndLeave : Type 0
RunsThatEndLeave = (program : NumberedProgram) (rows : List InputRow) (from : Moment) (nodes : List Node) (outputs : Outputs)
    → IsStart program rows from → Ends program from nodes (Ended outputs)
    → (history : List RunEvent) × Leaves program from nodes outputs history

-- a run that leaves a memory ends
abbrev pub LeavesAndEnds : Type 0
LeavesAndEnds = (program : NumberedProgram) (from : Moment) (nodes : List Node) (outputs : Outputs) (history : List RunEvent)
    → Leaves program from nodes outputs history → Ends program from nodes (Ended outputs)

-- a sequence of one job is a run from a start inside the ranges that ends
pub record IsARun (program : NumberedProgram) (rows : List InputRow) (job : Job) : Type 0 where
  pub starts : IsStart program rows job.from
  pub ends : Ends program job.from job.nodes (Ended job.outputs)

abbrev pub OneJobIsARun : Type 0
OneJobIsARun = (program : NumberedProgram) (rows : List InputRow) (job : Job) → Jobs program rows (job ∷ []) → IsARun program rows job
