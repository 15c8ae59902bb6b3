-- `analyse FILE`: what is told of all runs of the program.
--   policy_of merging            the policy that merges there
--   IsLeftAt program rows costs policy turns outcome   places are left after so many turns, and the outcome tells the scope of the first one
--   ReportMeans certify program rows costs policy turns pivots meaning   the report of the exploration with its path bound, and with its
--       certificate where one is wanted; or that places are left
--   analysing given              the order of work
--   IsSoundOf program graph rows costs report   the report is sound for the program, with the names and the scopes of its graph, and its path bound is what its word says
--   HasCertificate certify o report   where a certificate is wanted, the report has one whose multipliers hold for its rows, and else none
--   IsSoundReport given files text   the promise: the text spells a report that is sound for the program that the file gives
--   analyse given                the task
use Rattle.std.specs.Prelude.{◌≡◌, ℕ, Bool, true, false, List, None, Some, Result, Ok, Err}
use Rattle.flow_base.specs.Outside.{Files}
use Rattle.alf_check.specs.declared.rows.InputRow.{InputRow}
use Rattle.alf_check.specs.CheckedPrograms.{NumberedProgram}
use Rattle.alf_check.specs.Inputs.{KeepInputs}
use Rattle.flow_graph.specs.Numbering.{GraphParts, IsGraph}
use Rattle.cost_table.specs.CostTables.{CostTable}
use Rattle.domain_core.specs.Outlines.{Outlined, shape_of}
use Rattle.domain_core.specs.OutlineOf.{IsOutlineOf}
use Rattle.scope_graph.specs.Placing.{plan_of}
use Rattle.flow_facts.specs.Reports.{Certificate, Reported}
use Rattle.fact_words.specs.Canonical.{report_text}
use Rattle.fact_text.specs.Language.{SpellsReport}
use Rattle.dual_check.specs.Openings.{system_of}
use Rattle.path_lp.specs.Bounding.{AreHeld}
use Rattle.worklist_rules.specs.declared.policy.Policy.{Policy}
use Rattle.worklist_rules.specs.declared.policy.Policy.TheVariants as policies
use Rattle.program_machines.specs.NodeCosts.{HasCosts}
use Rattle.program_analysis.specs.Answers.{Unbounded as LeftIn}
use Rattle.report_soundness.specs.Bounded.{IsWithinCount, IsLeastOf}
use Rattle.program_analysis.specs.ProgramAnalyses.{IsAnalysis}
use Rattle.program_analysis.specs.BoundedAnalyses.{IsPrintedReport}
use Rattle.program_analysis.specs.BoundedSound.{IsSoundByBounds}
use Rattle.command_plans.specs.Outcome.{Outcome, Unbounded}
use Rattle.command_plans.specs.Work.{Work, judged, done, ◌>>=◌}
use Rattle.program_files.specs.Told.{IsToldProgram}
use Rattle.answer_texts.specs.ScopeLines.{left_line}
use Rattle.command_files.specs.Scopes.{ScopedProgram, scoped_in}
use Rattle.command_files.specs.Tables.{tables_in, AreInputs, AreCosts}
use Rattle.sweet_cli.specs.Words.{AnalyseWords, Merging, Never, Exits, Joins}
use Rattle.sweet_cli.specs.Legends.{HasLegend}
use Rattle.sweet_cli.specs.Task.{Task, names_read}

-- the policy that merges there
abbrev pub policy_of : Merging → Policy
policy_of Never = policies.None
policy_of Exits = policies.Exits
policy_of Joins = policies.Joins

-- places are left after so many turns, and the outcome tells the scope of the first one
pub record IsLeftAt (program : ScopedProgram) (rows : List InputRow) (costs : CostTable) (policy : Policy) (turns : ℕ)
    (outcome : Outcome) : Type 0 where
  pub scope : ℕ
  pub left : IsAnalysis program.expanded.program program.expanded.graph rows costs policy turns (LeftIn scope)
  pub line : outcome ≡ record { cause = Unbounded; text = left_line program.expanded.graph program.scoped.scopes scope }

-- the report of the exploration, with the path bound of its facts after so many pivots at most, and where a certificate
-- is wanted, with the events of the policy and the multipliers of the bound; or that places are left
abbrev pub ReportMeans : Bool → ScopedProgram → List InputRow → CostTable → Policy → ℕ → ℕ → Result Reported Outcome
    → Type 0
ReportMeans certify program rows costs policy turns pivots (Ok report) =
    IsPrintedReport certify program.expanded.program program.expanded.graph rows costs policy turns pivots report
ReportMeans certify program rows costs policy turns pivots (Err outcome) = IsLeftAt program rows costs policy turns outcome

unfoldable pub analysing : AnalyseWords → Work (List ℕ)
analysing given = do
  program ← scoped_in given.program given.root
  tables ← tables_in program.expanded.program given.inputs given.costs
  report ← judged (ReportMeans given.certified program tables.rows tables.costs (policy_of given.merging) given.turns given.pivots)
  done (report_text report)

-- the report is sound for the program, with the names and the scopes of its graph; its path bound is at most its count bound, and
-- where its word is `least`, it is the greatest worth of a point that meets the report's rows, rounded down
pub record IsSoundOf (program : NumberedProgram) (graph : GraphParts) (rows : List InputRow) (costs : CostTable)
    (report : Reported) : Type 0 where
  pub outline : Outlined
  pub outline_is : IsOutlineOf (plan_of graph) (shape_of outline)
  pub legend : HasLegend graph outline report
  pub costs_are : HasCosts program graph costs outline
  pub sound : IsSoundByBounds program graph rows (shape_of outline) costs report
  pub within : IsWithinCount report
  pub least : IsLeastOf outline report

-- a certificate whose multipliers, one for each row of the report, are shown to hold by their test
pub record IsCertified (o : Outlined) (report : Reported) : Type 0 where
  pub cert : Certificate
  pub there : report.cert ≡ Some cert
  pub held : AreHeld (system_of o report.facts).program cert.scale cert.multipliers

-- so where one is wanted, and else none
abbrev pub HasCertificate : Bool → Outlined → Reported → Type 0
HasCertificate true o report = IsCertified o report
HasCertificate false o report = report.cert ≡ None

-- the text spells a report that is sound for the program that the file gives, with inputs and costs as the told files
-- say: every run from inputs inside the ranges ends, meets each fact, has an alarm for its fault, and costs no more
-- than each bound; where the file is one of C, each run's outcome is that of the unit from the cells that hold the
-- run's own inputs (`IsToldProgram`)
pub record IsSoundReport (given : AnalyseWords) (files : Files) (text : List ℕ) : Type 0 where
  pub program : NumberedProgram
  pub graph : GraphParts
  pub rows : List InputRow
  pub costs : CostTable
  pub report : Reported
  pub program_told : IsToldProgram given.program given.root files program
  pub graph_is : IsGraph program graph
  pub rows_told : AreInputs given.inputs files program rows
  pub rows_keep : KeepInputs program rows
  pub costs_told : AreCosts given.costs files program costs
  pub shown : SpellsReport text report
  pub sound : IsSoundOf program graph rows costs report
  pub certificate : HasCertificate given.certified sound.outline report

abbrev pub analyse : AnalyseWords → Task
analyse given = record { work = analysing given; names = names_read given.program given.inputs given.costs; Promise = IsSoundReport given }
