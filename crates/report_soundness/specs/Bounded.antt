-- Reports with a path bound.
--   IsTold o report            the report tells what was collected, and of each node that was stepped some total was
--   HasRun system              a run of the system ends
--   with_path_bound report b   the report with this path bound
--   bounded o report n         the report with the path bound of its facts, after n pivots at most
--   told_bounded_report o found n   that of what was collected
--   with_count_bound report v  the report with this count bound
--   HasPathBound P report      the report has a path bound, and this holds of it
--   IsPathSound system o report   the report is sound with its path bound as its count bound
--   IsPathBounded o report     no point that meets its rows, and no run that meets its facts, passes its path bound
--   IsWithinCount report       its path bound is at most its count bound
--   IsLeastOf o report         with `Least` its path bound is the greatest worth of a point that meets its rows, rounded down
use Rattle.std.specs.Prelude.{◌≡◌, ◌≤◌, ℕ, List, Option, None, Some}
use Rattle.alf_ops.specs.declared.history.RunFault.{RunFault}
use Rattle.domain_core.specs.Outlines.{Outlined}
use Rattle.domain_core.specs.Machines.{System}
use Rattle.flow_facts.specs.declared.report.BoundWord.{BoundWord}
use Rattle.flow_facts.specs.declared.report.BoundWord.TheVariants.{Least}
use Rattle.flow_facts.specs.Reports.{Reported}
use Rattle.dual_check.specs.Openings.{system_of}
use Rattle.path_lp.specs.Bounding.{told_path_bound, IsAbove, IsGreatest}
use Rattle.report_soundness.specs.ReportTold.{Found, told_report}
use Rattle.worklist_rules.specs.EndedRuns.{Passes}
use Rattle.report_soundness.specs.Runs.{IsSound}
use Rattle.report_soundness.specs.BoundTold.{HaveTotals}

-- the report tells what was collected, and of each node that was stepped some total was
pub record IsTold (o : Outlined) (report : Reported) : Type 0 where
  pub found : Found
  pub told : report ≡ told_report o found
  pub totals : HaveTotals o found

-- a run of the system ends
pub record HasRun {C : Type 0} (system : System C) : Type 0 where
  pub start : C
  pub starts : system.starts start
  pub trace : List ℕ
  pub fault : Option RunFault
  pub passes : Passes system 0 start trace fault

-- ---- the report

-- the report with this path bound
abbrev pub with_path_bound : Reported → ℕ × BoundWord → Reported
with_path_bound report b = record {
  form = report.form;
  nodes = report.nodes;
  scopes = report.scopes;
  facts = report.facts;
  count_bound = report.count_bound;
  path_bound = Some b;
  cert = report.cert;
}

-- the report with the path bound of its facts, after n pivots at most
abbrev pub bounded : Outlined → Reported → ℕ → Reported
bounded o report n = with_path_bound report (told_path_bound o report.facts n)

-- that of what was collected
abbrev pub told_bounded_report : Outlined → Found → ℕ → Reported
told_bounded_report o found n = bounded o (told_report o found) n

-- ---- what is promised of it

-- the report with this count bound
abbrev pub with_count_bound : Reported → ℕ → Reported
with_count_bound report v = record {
  form = report.form;
  nodes = report.nodes;
  scopes = report.scopes;
  facts = report.facts;
  count_bound = v;
  path_bound = report.path_bound;
  cert = report.cert;
}

-- there is a path bound, and this holds of it
abbrev pub IsOf : (ℕ × BoundWord → Type 0) → Option (ℕ × BoundWord) → Type 0
IsOf P None = ⊥
IsOf P (Some b) = P b

abbrev pub HasPathBound : (ℕ × BoundWord → Type 0) → Reported → Type 0
HasPathBound P report = IsOf P report.path_bound

-- the report is sound with its path bound as its count bound: each run of the system ends, meets each fact, faults only
-- where an alarm says so, and costs no more than the path bound
abbrev pub IsPathSound : {C : Type 0} → System C → Outlined → Reported → Type 0
IsPathSound system o report = HasPathBound (λ b. IsSound system o (with_count_bound report b.0)) report

-- no point that meets its rows is worth as much as its path bound and 1, and no run that meets its facts costs more
abbrev pub IsPathBounded : Outlined → Reported → Type 0
IsPathBounded o report = HasPathBound (λ b. IsAbove o report.facts b.0) report

-- its path bound is at most its count bound
abbrev pub IsWithinCount : Reported → Type 0
IsWithinCount report = HasPathBound (λ b. b.0 ≤ report.count_bound) report

-- with `Least` its path bound is the greatest worth of a point that meets its rows, rounded down
abbrev pub IsLeastOf : Outlined → Reported → Type 0
IsLeastOf o report = HasPathBound (λ b. b.1 ≡ Least → IsGreatest (system_of o report.facts).program b.0) report
