-- What an analysis finds is what is answered of an area.
--   report_of, left_of   what was found of the parts of a program is found of the program
--   answered      the path bound of a report that is found is what is answered
use Rattle.std.proofs.Common.{◌≡◌, ℕ, List, Option, Some, IfSome, refl, sym, ap, subst}
use Rattle.alf_check.specs.CheckedPrograms.{CheckedParts, NumberedProgram, seen}
use Rattle.alf_check.specs.declared.rows.InputRow.{InputRow}
use Rattle.alf_check.specs.Kept.{IsKept}
use Rattle.alf_check.specs.Inputs.{KeepInputs}
use Rattle.flow_graph.specs.Numbering.{GraphParts, IsGraph}
use Rattle.cost_table.specs.CostTables.{CostTable}
use Rattle.domain_core.specs.Outlines.{Outlined, IsOutline, shape_of}
use Rattle.domain_core.specs.OutlineOf.{IsOutlineOf}
use Rattle.scope_graph.specs.Placing.{plan_of}
use Rattle.flow_facts.specs.declared.report.BoundWord.{BoundWord}
use Rattle.flow_facts.specs.Reports.{Certificate, Reported}
use Rattle.worklist_rules.specs.declared.policy.Policy.{Policy}
use Rattle.path_lp.specs.Bounding.{told_path_bound}
use Rattle.report_soundness.specs.Bounded.{IsOf}
use Rattle.program_machines.specs.NodeCosts.{HasCosts}
use Rattle.program_analysis.specs.AnalysisLaws.{names_of}
use Rattle.program_analysis.specs.Answers.{Answer, Told, Unbounded}
use Rattle.program_analysis.specs.Analyses.{IsFound, IsLeft}
use Rattle.program_analysis.specs.ProgramAnalyses.{IsAnalysis}
use Rattle.program_analysis.specs.BoundedAnalyses.{IsCertifiedWith, IsBoundedReport, IsBoundedAnalysis}
use Rattle.worst_inputs.specs.declared.bounder.Bounded.{Bounded}
use Rattle.worst_inputs.specs.declared.bounder.Bounded.TheVariants.{At}
use Rattle.worst_inputs.specs.Areas.{Area}
use Rattle.program_bounder.specs.InputRows.{with_ranges}
use Rattle.program_bounder.specs.PathBounds.{path_answers}

module _ (checked : CheckedParts) (graph : GraphParts) (rows : List InputRow) (keeps : IsKept (seen checked)) (graph_is : IsGraph (seen checked) graph) (inputs : KeepInputs (seen checked) rows)
    (costs : CostTable) (outline : Outlined) (policy : Policy) (turns pivots : ℕ)
    (outline_kept : IsOutline (shape_of outline)) (outline_is : IsOutlineOf (plan_of graph) (shape_of outline)) (named : names_of outline ≡ graph.names) (priced : HasCosts (seen checked) graph costs outline) where
  -- what was found of the parts, but for the path bound
  analysis_of : (answer : Answer)
      → IsFound (record { checked = checked; graph = graph; rows = rows }) outline policy turns answer
      → IsAnalysis (seen checked) graph rows costs policy turns answer
  analysis_of answer found = record {
    checked = checked;
    keeps = keeps;
    graph_is = graph_is;
    inputs = inputs;
    outline = outline;
    program_is = refl;
    outline_kept = outline_kept;
    outline_is = outline_is;
    names = named;
    costs_are = priced;
    found = found;
  }

  -- and with it
  pub report_of : (report : Reported) (cert : Certificate) → IsCertifiedWith (record { checked = checked; graph = graph; rows = rows }) outline policy turns pivots report cert
      → IsBoundedReport (seen checked) graph rows costs policy turns pivots report
  unfolding analysis_of
  report_of report cert found = record { given = found.given; analysis = analysis_of (Told found.given) found.closed; bounded = found.bound.bounded }

  -- or places are left
  pub left_of : (scope : ℕ)
      → IsLeft (record { checked = checked; graph = graph; rows = rows }) outline policy turns scope
      → IsBoundedAnalysis (seen checked) graph rows costs policy turns pivots (Unbounded scope)
  left_of scope found = analysis_of (Unbounded scope) found

-- the path bound of a report that is found is what is answered of the area
pub answered : (program : NumberedProgram) (graph : GraphParts) (rows : List InputRow) (costs : CostTable) (policy : Policy) (turns pivots : ℕ) (area : Area) (report : Reported) (result : Bounded)
    → IsBoundedReport program graph (with_ranges rows area) costs policy turns pivots report → IfSome report.path_bound (λ b. result ≡ At b.0) → path_answers program graph rows costs policy turns pivots area result
answered program graph rows costs policy turns pivots area report result h told =
    let b = told_path_bound h.analysis.outline h.given.facts pivots in
    let e : report.path_bound ≡ Some b = ap (λ (r : Reported). r.path_bound) h.bounded in
    let is : result ≡ At b.0 = subst (λ (o : Option (ℕ × BoundWord)). IfSome o (λ c. result ≡ At c.0)) e told in
    subst (path_answers program graph rows costs policy turns pivots area) (sym is)
    (record { report = report; found = h; is = subst (λ (o : Option (ℕ × BoundWord)). IsOf (λ c. c.0 ≡ b.0) o) (sym e) refl })
