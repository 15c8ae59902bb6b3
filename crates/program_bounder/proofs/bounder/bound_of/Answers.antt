-- What is found of the rows with the ranges of the area is what is answered of the area.
use Rattle.std.proofs.Common.{List, sym, ap, subst, ◌∙◌}
use Rattle.alf_check.specs.declared.rows.InputRow.{InputRow}
use Rattle.alf_check.specs.CheckedPrograms.{seen}
use Rattle.alf_check.specs.Inputs.{KeepInputs}
use Rattle.flow_facts.specs.Reports.{certificate_of, reported}
use Rattle.program_analysis.specs.Answers.{Unbounded}
use Rattle.program_analysis.specs.BoundedAnalyses.{IsBoundedReport, IsBoundedAnalysis}
use Rattle.program_bounder.specs.InputRows.{with_ranges}
use Rattle.program_bounder.specs.PathBounding.{given_program}
use Rattle.program_bounder.proofs.Finding.{report_of, left_of, answered}
use Rattle.program_bounder.proofs.bounder.bound_of.Goals as goal

pub analyse-requires-clause-rows : goal.analyse-requires-clause-rows
analyse-requires-clause-rows c =
    let same = c.deref.ensures.value ∙ c.in_ok-rows.ensures ∙ ap (λ (l : List InputRow). with_ranges l c.args.area.now) c.as_slice-given.ensures.value in
    subst (λ (l : List InputRow). KeepInputs (seen c.args.bounder.now.checked) l) (sym same) c.requires.inputs

pub returns-in-Told : goal.returns-in-Told
returns-in-Told c =
    let b = c.args.bounder.now in
    let rows = c.deref.result.now in
    let report = reported c.in-Told.report in
    let same = c.deref.ensures.value ∙ c.in_ok-rows.ensures ∙ ap (λ (l : List InputRow). with_ranges l c.args.area.now) c.as_slice-given.ensures.value in
    let told = rw c.in-Told.is at c.in_ok-report.ensures in
    let keep = subst (λ (l : List InputRow). KeepInputs (seen b.checked) l) (sym same) c.requires.inputs in
    let found = report_of b.checked b.graph rows c.requires.keeps c.requires.graph_is keep b.costs b.outline b.policy b.turns b.pivots c.requires.outline_kept c.requires.outline_is c.requires.named c.requires.costs_are
    report (certificate_of c.in-Told.field-1) told.found in
    answered (given_program b) b.graph b.rows.items b.costs b.policy b.turns b.pivots c.args.area.now report c.path_bound.result
    (subst (λ (l : List InputRow). IsBoundedReport (given_program b) b.graph l b.costs b.policy b.turns b.pivots report) same found) c.path_bound.ensures

pub returns : goal.returns
returns c =
    let b = c.args.bounder.now in
    let rows = c.deref.result.now in
    let scope = c.in-Unbounded.scope in
    let same = c.deref.ensures.value ∙ c.in_ok-rows.ensures ∙ ap (λ (l : List InputRow). with_ranges l c.args.area.now) c.as_slice-given.ensures.value in
    let told = rw c.in-Unbounded.is at c.in_ok-report.ensures in
    let keep = subst (λ (l : List InputRow). KeepInputs (seen b.checked) l) (sym same) c.requires.inputs in
    let found = left_of b.checked b.graph rows c.requires.keeps c.requires.graph_is keep b.costs b.outline b.policy b.turns b.pivots c.requires.outline_kept c.requires.outline_is c.requires.named c.requires.costs_are
    scope told.found in
    subst (λ (l : List InputRow). IsBoundedAnalysis (given_program b) b.graph l b.costs b.policy b.turns b.pivots (Unbounded scope)) same found
