-- The report of the exploration, or that places are left, is the only meaning.
use Rattle.std.proofs.Common.{List, Ok, Err, refl, sym, subst}
use Rattle.alf_check.specs.declared.rows.InputRow.{InputRow}
use Rattle.alf_check.specs.CheckedPrograms.{seen}
use Rattle.alf_check.specs.Inputs.{KeepInputs}
use Rattle.flow_facts.specs.Reports.{Reported, certificate_of, reported}
use Rattle.program_analysis.specs.BoundedAnalyses.{IsPrintedReport}
use Rattle.command_plans.specs.Outcome.{Outcome, Unbounded}
use Rattle.command_plans.specs.Work.{IsOnly}
use Rattle.command_files.specs.Seen.{scoped_of}
use Rattle.sweet_cli.specs.Analyse.{ReportMeans}
use Rattle.sweet_cli.proofs.JudgedReports.{report_only, left_only, printed_of, left_of}
use Rattle.sweet_cli.proofs.commands.analyse.explored.Goals as goal

pub returns-in-Told : goal.returns-in-Told
returns-in-Told c =
    let program = c.args.program.now in
    let checked = program.expanded.checked in
    let graph = program.expanded.graph in
    let rows = c.as_slice-rows.result.now in
    let costs = c.args.tables.now.costs in
    let report = reported c.in-Told.report in
    let told = rw c.in-Told.is at c.in_ok-report.ensures in
    let keep = subst (λ (l : List InputRow). KeepInputs (seen checked) l) (sym c.as_slice-rows.ensures.value) c.requires.rows in
    let priced = c.requires.priced (seen checked) c.requires.graph in
    let cert = certificate_of c.in-Told.cert in
    let printed = reported c.shown.result in
    let one = c.a_program_has_one_bounded_analysis.ensures in
    let found = subst (λ (r : Reported). IsPrintedReport c.args.certify (seen checked) graph rows costs c.args.policy c.args.turns c.args.pivots r) (sym c.shown.ensures)
    (printed_of checked graph rows c.keeps.ensures c.requires.graph keep costs program.outline c.args.policy c.args.turns c.args.pivots c.args.certify report cert c.kept.ensures c.requires.outline priced told.found told.writable) in
    let only = report_only one.one one.printed c.args.certify (scoped_of program) rows costs c.args.policy c.args.turns c.args.pivots printed found in
    record {
      means = subst (λ (l : List InputRow). IsOnly (ReportMeans c.args.certify (scoped_of program) l costs c.args.policy c.args.turns c.args.pivots) (Ok printed)) c.as_slice-rows.ensures.value only;
      writable = found.writable;
    }

pub returns-in_ok-line-in-Unbounded-clause-means : goal.returns-in_ok-line-in-Unbounded-clause-means
returns-in_ok-line-in-Unbounded-clause-means c =
    let program = c.args.program.now in
    let checked = program.expanded.checked in
    let graph = program.expanded.graph in
    let rows = c.as_slice-rows.result.now in
    let costs = c.args.tables.now.costs in
    let scope = c.in-Unbounded.scope in
    let text = c.in_ok-line-in-Unbounded.line.items in
    let told = rw c.in-Unbounded.is at c.in_ok-report.ensures in
    let keep = subst (λ (l : List InputRow). KeepInputs (seen checked) l) (sym c.as_slice-rows.ensures.value) c.requires.rows in
    let priced = c.requires.priced (seen checked) c.requires.graph in
    let found = left_of checked graph rows c.keeps.ensures c.requires.graph keep costs program.outline c.args.policy c.args.turns c.args.pivots scope c.kept.ensures c.requires.outline priced told.found in
    let one = c.a_program_has_one_bounded_analysis.ensures in
    let only = left_only one.one one.printed c.args.certify (scoped_of program) rows costs c.args.policy c.args.turns c.args.pivots scope text found c.in_ok-line-in-Unbounded.ensures in
    let outcome : Outcome = record { cause = Unbounded; text = text } in
    (refl, subst (λ (l : List InputRow). IsOnly (ReportMeans c.args.certify (scoped_of program) l costs c.args.policy c.args.turns c.args.pivots) (Err outcome)) c.as_slice-rows.ensures.value only)
