-- What is left to show of `report`.
use Rattle.std.proofs.Common.{sym, ap, ◌∙◌, subst}
use Rattle.domain_core.specs.Outlines.{Outlined}
use Rattle.flow_facts.specs.Reports.{Reported}
use Rattle.flow_facts.specs.Writable.{IsWritable}
use Rattle.report_soundness.specs.ReportTold.{Found, found_of, told_report}
use Rattle.flow_gathering.specs.Gathering.{found_in, IsSized}
use Rattle.flow_reports.proofs.reports.report.Goals as goal

pub report_of-requires-clause-sized : goal.report_of-requires-clause-sized
report_of-requires-clause-sized g c = subst (λ (o : Outlined). IsSized o (found_in c.in_ok-found.found)) c.requires.outline c.in_ok-found.ensures.sized

pub returns-clause-writable : goal.returns-clause-writable
returns-clause-writable g c = λ names.
    let o = c.args.outline.now in
    let found = found_of c.args.pool.now in
    subst (λ (r : Reported). IsWritable r) (sym (c.in_ok-report.ensures ∙ ap (λ (f : Found). told_report o f) c.in_ok-found.ensures.found))
    (c.told_reports_are_writable.ensures.writable o found c.args.pool.now.steps c.kept.ensures c.costs_fit.ensures names c.requires.orderly c.requires.room)
