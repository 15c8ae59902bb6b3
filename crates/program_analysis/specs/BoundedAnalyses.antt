-- What an analysis of a program finds, where its report has the path bound of its facts.
--   IsClosedWith parts o policy turns pivots report   no place is left in the end, and the report tells what was collected, with the path bound of it
--   IsBoundWith o given events pivots report cert   the report is the given one with its path bound, and the certificate has the events and
--       the multipliers of the bound, which hold
--   IsCertifiedWith parts o policy turns pivots report cert   the policy's run leaves no place, and its report and events are bound so
--   IsFoundWith parts o policy turns pivots analysed  so it is, or the turns are used up in the scope
--   IfTold analysed P, IsAnsweredWith analysed P      P holds of the report and the certificate: if the answer is a report; and it is one
--   AreWritable report cert       some text spells the report, and the numbers of the certificate fit one
--   IsBoundedReport program graph rows costs policy turns pivots report   an analysis of the program finds the report but for its path bound, which is that of the facts
--   IsBoundedAnalysis program graph rows costs policy turns pivots answer   so it is, or an analysis finds that places are left in the scope
--   HasOneBoundedAnalysis   a program has one such answer
--   IsPrintedReport certify program graph rows costs policy turns pivots report   an analysis of the program finds the report, which has its
--       certificate where one is wanted
--   HasOnePrintedReport     a program has one such report
--   StaysPrinted            and more turns find the same
--   StaysBounded            and a report is one in each number of turns that is not below the steps of its exploration
use Rattle.std.specs.Prelude.{◌≡◌, ◌≤◌, ℕ, Bool, List}
use Rattle.alf_check.specs.declared.rows.InputRow.{InputRow}
use Rattle.alf_check.specs.CheckedPrograms.{NumberedProgram}
use Rattle.flow_graph.specs.Numbering.{GraphParts}
use Rattle.cost_table.specs.CostTables.{CostTable}
use Rattle.domain_core.specs.declared.event.Event.{Event}
use Rattle.domain_core.specs.Outlines.{Outlined}
use Rattle.flow_facts.specs.Reports.{Certificate, Reported, certificate_of, reported}
use Rattle.flow_facts.specs.Writable.{CertificateIsWritable, IsWritable}
use Rattle.dual_check.specs.Openings.{system_of}
use Rattle.path_lp.specs.Bounding.{AreHeld}
use Rattle.worklist_rules.specs.declared.policy.Policy.{Policy}
use Rattle.abstract_step.specs.Steppers.{StepperParts}
use Rattle.report_soundness.specs.Bounded.{bounded}
use Rattle.report_soundness.specs.Certified.{told_certificate, printed_as}
use Rattle.program_analysis.specs.Answers.{Answer, Told, Unbounded}
use Rattle.program_analysis.specs.Analyses.{IsClosed, IsLeft}
use Rattle.program_analysis.specs.ProgramAnalyses.{IsAnalysis}
use Rattle.program_analysis.specs.declared.bounded.BoundedAnalysis.{BoundedAnalysis}
use Rattle.program_analysis.specs.declared.bounded.BoundedAnalysis.TheVariants as answers

-- no place is left in the end, and the report tells what was collected, with the path bound of it after so many pivots
-- at most
pub record IsClosedWith (parts : StepperParts) (o : Outlined) (policy : Policy) (turns pivots : ℕ)
    (report : Reported) : Type 0 where
  pub given : Reported
  pub closed : IsClosed parts o policy turns given
  pub bounded : report ≡ bounded o given pivots

-- the report is the given one with the path bound of its facts, and the certificate has the events and the multipliers
-- of the bound, which hold
pub record IsBoundWith (o : Outlined) (given : Reported) (events : List Event) (pivots : ℕ) (report : Reported)
    (cert : Certificate) : Type 0 where
  pub bounded : report ≡ bounded o given pivots
  pub cert_is : cert ≡ told_certificate o given.facts events pivots
  pub held : AreHeld (system_of o given.facts).program cert.scale cert.multipliers

-- the policy's run leaves no place, and its report and events are bound so
pub record IsCertifiedWith (parts : StepperParts) (o : Outlined) (policy : Policy) (turns pivots : ℕ)
    (report : Reported) (cert : Certificate) : Type 0 where
  pub given : Reported
  pub closed : IsClosed parts o policy turns given
  pub bound : IsBoundWith o given closed.events pivots report cert

-- so it is, or the turns are used up, and the first place that is left stands in the scope
abbrev pub IsFoundWith : StepperParts → Outlined → Policy → ℕ → ℕ → BoundedAnalysis → Type 0
IsFoundWith parts o policy turns pivots (answers.Told report cert) = IsCertifiedWith parts o policy turns pivots (reported report) (certificate_of cert)
IsFoundWith parts o policy turns pivots (answers.Unbounded scope) = IsLeft parts o policy turns scope

-- it holds of the report and the certificate, if the answer is a report
abbrev pub IfTold : BoundedAnalysis → (Reported → Certificate → Type 0) → Type 0
IfTold (answers.Told report cert) P = P (reported report) (certificate_of cert)
IfTold (answers.Unbounded scope) P = Unit {0}

-- the answer is a report, and it holds of this and the certificate
abbrev pub IsAnsweredWith : BoundedAnalysis → (Reported → Certificate → Type 0) → Type 0
IsAnsweredWith (answers.Told report cert) P = P (reported report) (certificate_of cert)
IsAnsweredWith (answers.Unbounded scope) P = ⊥

-- some text spells the report, and the numbers of the certificate fit one
pub record AreWritable (report : Reported) (cert : Certificate) : Type 0 where
  pub report_is : IsWritable report
  pub cert_is : CertificateIsWritable cert

-- ---- of a program, whatever ranks its functions have

-- an analysis of the program finds the report but for its path bound, which is that of the facts after so many pivots
-- at most
pub record IsBoundedReport (program : NumberedProgram) (graph : GraphParts) (rows : List InputRow) (costs : CostTable)
    (policy : Policy) (turns pivots : ℕ) (report : Reported) : Type 0 where
  pub given : Reported
  pub analysis : IsAnalysis program graph rows costs policy turns (Told given)
  pub bounded : report ≡ bounded analysis.outline given pivots

-- so it is, or an analysis finds that places are left in the scope
abbrev pub IsBoundedAnalysis : NumberedProgram → GraphParts → List InputRow → CostTable → Policy → ℕ → ℕ → Answer
    → Type 0
IsBoundedAnalysis program graph rows costs policy turns pivots (Told report) = IsBoundedReport program graph rows costs policy turns pivots report
IsBoundedAnalysis program graph rows costs policy turns pivots (Unbounded scope) = IsAnalysis program graph rows costs policy turns (Unbounded scope)

-- a program has one such answer
abbrev pub HasOneBoundedAnalysis : Type 0
HasOneBoundedAnalysis = (program : NumberedProgram) (graph : GraphParts) (rows : List InputRow) (costs : CostTable) (policy : Policy) (turns pivots : ℕ) (a b : Answer)
    → IsBoundedAnalysis program graph rows costs policy turns pivots a → IsBoundedAnalysis program graph rows costs policy turns pivots b → a ≡ b

-- and a report is one in no fewer turns than its exploration makes steps, and in each number of turns that is not below
-- them
abbrev pub StaysBounded : Type 0
StaysBounded = (program : NumberedProgram) (graph : GraphParts) (rows : List InputRow) (costs : CostTable) (policy : Policy) (turns pivots : ℕ) (report : Reported)
    (bounded : IsBoundedReport program graph rows costs policy turns pivots report)
    → (bounded.analysis.found.pool.steps ≤ turns) × ((more : ℕ) → bounded.analysis.found.pool.steps ≤ more → IsBoundedReport program graph rows costs policy more pivots report)

-- ---- as it is printed

-- an analysis of the program finds the report, which has its certificate where one is wanted: the events of the
-- policy's run, and the multipliers that the pivot rule hands out in the end; and some text spells it
pub record IsPrintedReport (certify : Bool) (program : NumberedProgram) (graph : GraphParts) (rows : List InputRow)
    (costs : CostTable) (policy : Policy) (turns pivots : ℕ) (report : Reported) : Type 0 where
  pub given : Reported
  pub analysis : IsAnalysis program graph rows costs policy turns (Told given)
  pub bare : Reported
  pub cert : Certificate
  pub bound : IsBoundWith analysis.outline given analysis.found.events pivots bare cert
  pub shown : report ≡ printed_as certify bare cert
  pub writable : IsWritable report

-- a program has one such report
abbrev pub HasOnePrintedReport : Type 0
HasOnePrintedReport = (certify : Bool) (program : NumberedProgram) (graph : GraphParts) (rows : List InputRow) (costs : CostTable) (policy : Policy) (turns pivots : ℕ) (a b : Reported)
    → IsPrintedReport certify program graph rows costs policy turns pivots a → IsPrintedReport certify program graph rows costs policy turns pivots b → a ≡ b

-- and it is one in no fewer turns than its exploration makes steps, and in each number of turns that is not below them
abbrev pub StaysPrinted : Type 0
StaysPrinted = (certify : Bool) (program : NumberedProgram) (graph : GraphParts) (rows : List InputRow) (costs : CostTable) (policy : Policy) (turns pivots : ℕ) (report : Reported)
    (printed : IsPrintedReport certify program graph rows costs policy turns pivots report)
    → (printed.analysis.found.pool.steps ≤ turns)
    × ((more : ℕ) → printed.analysis.found.pool.steps ≤ more → IsPrintedReport certify program graph rows costs policy more pivots report)
