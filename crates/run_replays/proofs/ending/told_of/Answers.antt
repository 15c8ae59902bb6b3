-- What is told of a run that is over: of its alarm, then of the lines, then of the bounds.
use Rattle.std.proofs.Common.{◌∷◌, List, ℕ}
use Rattle.domain_core.specs.Outlines.{shape_of}
use Rattle.flow_facts.specs.Reports.{reported}
use Rattle.report_soundness.specs.ReportTold.{books_of, costs_of}
use Rattle.run_replays.proofs.BookRuns.{sized_books, entered_run}
use Rattle.run_replays.proofs.Telling.{unmet_told, met_told, told_lacking, told_alarmed}
use Rattle.run_replays.proofs.ending.told_of.Goals as goal

pub returns-in-Some : goal.returns-in-Some
returns-in-Some c = λ past entered cost.
    told_lacking (shape_of c.args.outline.now) (costs_of c.args.outline.now) (reported c.args.report.now) c.deref.result.now c.deref.ensures.value past c.args.run.now.last c.args.run.now.fault
    c.in-Some.objection c.in-Some.ensures.some

pub broken-requires-clause-sized : goal.broken-requires-clause-sized
broken-requires-clause-sized c = sized_books c.args.outline.now c.args.run.now.book c.requires.sized

pub returns-in-Some-broken : goal.returns-in-Some-broken
returns-in-Some-broken c = λ past entered cost.
    let o = c.args.outline.now in
    let report = reported c.args.report.now in
    let full = c.args.run.now.last ∷ past in
    told_alarmed (shape_of o) (costs_of o) report c.deref.result.now c.deref.ensures.value past c.args.run.now.last c.args.run.now.fault _ c.in_default.ensures.none
    (unmet_told o report (books_of c.args.run.now.book) full (entered_run o c.args.run.now.book full entered) c.requires.shaped.facts c.deref-2.result.now c.first_line.result c.in-Some-broken.line
    c.deref-2.ensures.value c.first_line.ensures.line c.in-Some-broken.ensures)

pub returns : goal.returns
returns c = λ past entered cost.
    let o = c.args.outline.now in
    let report = reported c.args.report.now in
    let full = c.args.run.now.last ∷ past in
    told_alarmed (shape_of o) (costs_of o) report c.deref.result.now c.deref.ensures.value past c.args.run.now.last c.args.run.now.fault _ c.in_default.ensures.none
    (met_told o report (books_of c.args.run.now.book) full (entered_run o c.args.run.now.book full entered) c.requires.shaped.facts c.deref-2.result.now c.first_line.result c.args.run.now.cost _
    c.deref-2.ensures.value c.first_line.ensures.line c.in_default-broken.ensures cost c.bounded.ensures)
