-- What `analyse` tells where each range has one number: exactly the one run.
--   TellsOneRun program graph rows costs turns report   the run ends within the turns, and the report tells its own numbers, its fault and its cost, twice
--   MeansOneRun program rows costs turns meaning        so it is of a report; places are left where the run has more nodes than the turns
--   EndsAsOneRun program rows costs turns ending        so the work ends: its text is that of such a report, or its outcome tells that places are left
--   OneInputIsToldExactly       the law, over programs
--   OneInputIsAnsweredExactly   the law, over words and files
use Rattle.std.specs.Prelude.{◌≡◌, ◌≤◌, ℕ, Bool, List, length, Option, None, Some, Result, Ok, Err}
use Rattle.flow_base.specs.Outside.{Files}
use Rattle.alf_ops.specs.declared.history.RunFault.{RunFault}
use Rattle.alf_check.specs.declared.rows.InputRow.{InputRow}
use Rattle.alf_check.specs.CheckedPrograms.{NumberedProgram}
use Rattle.flow_graph.specs.Numbering.{GraphParts}
use Rattle.alf_runs.specs.Outcomes.{Outcome as RunOutcome}
use Rattle.alf_runs.specs.Runs.{cost_of}
use Rattle.alf_interp.specs.Traces.{Runs}
use Rattle.cost_table.specs.CostTables.{CostTable}
use Rattle.domain_core.specs.Outlines.{Outlined, shape_of}
use Rattle.domain_core.specs.OutlineOf.{IsOutlineOf}
use Rattle.scope_graph.specs.Placing.{plan_of}
use Rattle.flow_facts.specs.Reports.{Reported}
use Rattle.worklist_rules.specs.declared.policy.Policy.{Policy}
use Rattle.report_soundness.specs.Exact.{IsExact}
use Rattle.report_soundness.specs.Bounded.{HasPathBound}
use Rattle.program_machines.specs.NodeCosts.{node_cost}
use Rattle.program_machines.specs.Starts.{AreLone}
use Rattle.program_analysis.specs.SoundLaws.{IsOutcomeOf}
use Rattle.command_plans.specs.Log.{Log}
use Rattle.command_plans.specs.Outcome.{Outcome, Ending, Finished, Stopped, ending_unread}
use Rattle.command_plans.specs.Work.{EndsSo}
use Rattle.command_files.specs.Scopes.{ScopedProgram, IsScoped, scoped_in}
use Rattle.command_files.specs.Tables.{Tables, tables_in}
use Rattle.fact_words.specs.Canonical.{report_text}
use Rattle.sweet_cli.specs.Words.{AnalyseWords, Analyse, command_of}
use Rattle.sweet_cli.specs.Table.{task_of}
use Rattle.sweet_cli.specs.Run.{IsLeft, low_start}
use Rattle.sweet_cli.specs.Analyse.{ReportMeans}

-- the run from the one input ends within the turns, and the report tells its own numbers and its fault; both bounds are
-- its cost
pub record TellsOneRun (program : NumberedProgram) (graph : GraphParts) (rows : List InputRow) (costs : CostTable)
    (turns : ℕ) (report : Reported) : Type 0 where
  pub trace : List ℕ
  pub outcome : RunOutcome
  pub runs : Runs program graph.nodes (low_start program rows) trace outcome
  pub within : length trace ≤ turns
  pub fault : Option RunFault
  pub ends : IsOutcomeOf fault outcome
  pub outline : Outlined
  pub outline_is : IsOutlineOf (plan_of graph) (shape_of outline)
  pub exact : IsExact outline report trace fault
  pub count : report.count_bound ≡ cost_of (node_cost program costs) runs.run
  pub path : HasPathBound (λ b. b.0 ≡ cost_of (node_cost program costs) runs.run) report

-- so it is of a report; places are left where the run has more nodes than the turns, and the line tells the scope of
-- the one that comes after so many
abbrev pub MeansOneRun : ScopedProgram → List InputRow → CostTable → ℕ → Result Reported Outcome → Type 0
MeansOneRun program rows costs turns (Ok report) = TellsOneRun program.expanded.program program.expanded.graph rows costs turns report
MeansOneRun program rows costs turns (Err outcome) = IsLeft program (low_start program.expanded.program rows) turns outcome

-- so the work ends
abbrev pub EndsAsOneRun : ScopedProgram → List InputRow → CostTable → ℕ → Ending → Type 0
EndsAsOneRun program rows costs turns (Finished text) =
    (report : Reported) × (text ≡ report_text report) × MeansOneRun program rows costs turns (Ok report)
EndsAsOneRun program rows costs turns (Stopped outcome) = MeansOneRun program rows costs turns (Err outcome)

-- where each range has one number
abbrev pub OneInputIsToldExactly : Type 0
OneInputIsToldExactly = (certify : Bool) (program : ScopedProgram) (rows : List InputRow) (costs : CostTable) (policy : Policy) (turns pivots : ℕ) (meaning : Result Reported Outcome) → AreLone rows
    → IsScoped program.expanded.graph program.scoped → ReportMeans certify program rows costs policy turns pivots meaning → MeansOneRun program rows costs turns meaning

-- where the words of `analyse` work over told files, and these give the program and rows of which each range has one
-- number, there is no other ending but a failed read
abbrev pub OneInputIsAnsweredExactly : Type 0
OneInputIsAnsweredExactly = (words : List (List ℕ)) (given : AnalyseWords) (files : Files) (before mid late after : Log) (program : ScopedProgram) (tables : Tables) (ending : Ending)
    → command_of words ≡ Some (Analyse given)
    → (scoped_in given.program given.root).steps.Gives (Some files) before program mid
    → (tables_in program.expanded.program given.inputs given.costs).steps.Gives (Some files) mid tables late
    → AreLone tables.rows
    → EndsSo (task_of words).work (Some files) before ending after → ending_unread ending ≡ None
    → EndsAsOneRun program tables.rows tables.costs given.turns ending
