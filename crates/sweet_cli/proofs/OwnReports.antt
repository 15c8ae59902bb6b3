-- Nothing speaks against a report that is printed with its certificate.
--   report_is     the report is the told one, with its path bound and with the certificate of its exploration
--   held_in       the multipliers hold
--   own_checked   so it is accepted, whatever ranks the functions have
use Rattle.std.proofs.Common.{◌≡◌, ◌≤◌, ℕ, true, List, Some, None, refl, sym, ap, ◌∙◌, subst, arith}
use Rattle.alf_check.specs.declared.rows.InputRow.{InputRow}
use Rattle.alf_check.specs.CheckedPrograms.{NumberedProgram}
use Rattle.flow_graph.specs.Numbering.{GraphParts}
use Rattle.cost_table.specs.CostTables.{CostTable}
use Rattle.domain_core.specs.Outlines.{Outlined}
use Rattle.flow_facts.specs.declared.report.BoundWord.{BoundWord}
use Rattle.flow_facts.specs.Reports.{Certificate, Reported}
use Rattle.dual_check.specs.Openings.{system_of}
use Rattle.worklist_rules.specs.declared.policy.Policy.{Policy}
use Rattle.worklist_rules.specs.PolicyLaws.{run_happens}
use Rattle.memory_model.specs.SeenOrders.{parts_order}
use Rattle.abstract_step.specs.Steppers.{StepperParts, stepped_by}
use Rattle.path_lp.specs.Bounding.{AreHeld, told_path_bound}
use Rattle.report_soundness.specs.ReportTold.{Found, four_order, four_recording, found_of, told_facts, told_report}
use Rattle.report_soundness.specs.BoundTold.{HaveTotals}
use Rattle.report_soundness.specs.BoundToldLaws.{told_fit}
use Rattle.report_soundness.specs.Bounded.{bounded}
use Rattle.report_soundness.specs.Certified.{told_certificate, printed_as}
use Rattle.program_analysis.specs.Analyses.{first_pool}
use Rattle.program_analysis.specs.BoundedAnalyses.{IsPrintedReport}
use Rattle.program_analysis.specs.BoundedSound.{ClosedExplorationsHaveTotals}
use Rattle.report_objections.specs.Checks.{IsChecked}
use Rattle.report_objections.specs.OwnLaws as own
use Rattle.program_checks.specs.Checking.{IsCheckOf}

same_least : (n m : ℕ) → n ≡ m → n ≤ m
same_least n m e = omega (arith, e)

module _ (law : ClosedExplorationsHaveTotals) (program : NumberedProgram) (graph : GraphParts) (rows : List InputRow) (costs : CostTable) (policy : Policy) (turns pivots : ℕ) (report : Reported)
    (h : IsPrintedReport true program graph rows costs policy turns pivots report) where
  abbrev parts : StepperParts
  parts = record { checked = h.analysis.checked; graph = graph; rows = rows }

  abbrev o : Outlined
  o = h.analysis.outline

  abbrev found : Found
  found = found_of h.analysis.found.pool

  abbrev bound : ℕ × BoundWord
  bound = told_path_bound o (told_facts o found) pivots

  abbrev own_certificate : Certificate
  own_certificate = told_certificate o (told_facts o found) h.analysis.found.events pivots

  -- the report is the told one, with its path bound and the certificate of its exploration
  report_is : report ≡ own.with_certificate (told_report o found) (Some bound) own_certificate
  report_is =
      let told = h.analysis.found.told in
      let bare : h.bare ≡ bounded o (told_report o found) pivots = h.bound.bounded ∙ ap (λ (g : Reported). bounded o g pivots) told in
      let cert : h.cert ≡ own_certificate = h.bound.cert_is ∙ ap (λ (g : Reported). told_certificate o g.facts h.analysis.found.events pivots) told in
      h.shown ∙ ap (λ (r : Reported). printed_as true r h.cert) bare ∙ ap (λ (c : Certificate). printed_as true (bounded o (told_report o found) pivots) c) cert

  -- the multipliers hold
  held_in : own.AreHeld o (told_facts o found) own_certificate bound.0
  held_in =
      let of_cert = subst (λ (c : Certificate). AreHeld (system_of o h.given.facts).program c.scale c.multipliers) h.bound.cert_is h.bound.held in
      let held = subst (λ (g : Reported). AreHeld (system_of o g.facts).program (told_certificate o g.facts h.analysis.found.events pivots).scale (told_certificate o g.facts h.analysis.found.events pivots).multipliers)
      h.analysis.found.told of_cert in
      record { multipliers = held.each; holds = λ most enough. held.hold most enough }

  totals_in : HaveTotals o found
  totals_in = let a = h.analysis in law parts o policy turns h.given a.keeps a.graph_is a.inputs a.outline_kept a.outline_is a.found

  -- so it is accepted
  pub own_checked : IsCheckOf program graph rows costs report None
  own_checked =
      let a = h.analysis in
      let pool = a.found.pool in
      let happen = run_happens stepped_by parts_order four_order four_recording policy turns a.found.events (first_pool parts o) pool a.found.explored in
      record {
        checked = a.checked;
        keeps = a.keeps;
        graph_is = a.graph_is;
        inputs = a.inputs;
        outline = o;
        program_is = a.program_is;
        outline_kept = a.outline_kept;
        outline_is = a.outline_is;
        names = a.names;
        costs_are = a.costs_are;
        answer_is = subst (λ (r : Reported). IsChecked stepped_by parts_order parts o r None) (sym report_is)
            (own.own_accepted stepped_by parts_order a.found.events parts o pool happen a.found.empty totals_in (told_fit o found) (Some bound) own_certificate bound.0 refl held_in
            (same_least bound.0 bound.0 refl));
      }
