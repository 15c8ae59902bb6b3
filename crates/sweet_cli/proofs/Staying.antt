-- A report is printed with each number of turns that is not below the steps of its exploration.
use Rattle.std.proofs.Common.{Ok}
use Rattle.command_plans.specs.Work.{IsOnly}
use Rattle.program_analysis.specs.BoundedAnalyses.{HasOneBoundedAnalysis, HasOnePrintedReport, StaysPrinted}
use Rattle.sweet_cli.specs.Analyse.{analysing, policy_of, ReportMeans}
use Rattle.sweet_cli.specs.Laws.{IsReportOf, ReportsStay}
use Rattle.sweet_cli.proofs.JudgedReports.{report_only}

pub stays : HasOneBoundedAnalysis → HasOnePrintedReport → StaysPrinted → ReportsStay
unfolding analysing
stays one once longer given files before after text (program, mid, first, (tables, end, read, (report, last, (only, still), (is, over)))) =
    let rows = tables.rows in
    let costs = tables.costs in
    let policy = policy_of given.merging in
    let kept = longer given.certified program.expanded.program program.expanded.graph rows costs policy given.turns given.pivots report only.means in
    let printed : IsReportOf given files before text = record {
      program = program;
      after_program = mid;
      program_told = first;
      tables = tables;
      after_tables = end;
      tables_told = read;
      report = report;
      found = only.means;
      text_is = is;
    } in (
      printed,
      kept.0,
      λ more enough.
          let again : IsOnly (ReportMeans given.certified program rows costs policy more given.pivots) (Ok report) = report_only one once given.certified program rows costs policy more given.pivots report (kept.1 more enough) in
          (program, mid, first, (tables, end, read, (report, last, (again, still), (is, over)))),
    )
