-- What is left to show of `tell_count`.
use Rattle.std.specs.Prelude.{◌&&◌, ◌==◌}
use Rattle.domain_core.specs.Outlines.{shape_of}
use Rattle.flow_facts.specs.declared.fact.Fact.TheVariants.{Count}
use Rattle.recorder_rules.specs.TotalRules.{spread_at}
use Rattle.recorder_rules.specs.LoopRules.{own_of, is_counted}
use Rattle.report_soundness.specs.ReportTold.{is_stepped}
use Rattle.flow_gathering.specs.Gathering.{found_in}
use Rattle.flow_reports.proofs.Steps.{nothing_at, no_line}
use Rattle.flow_reports.proofs.counts.tell_count.Goals as goal

pub returns-in-None : goal.returns-in-None
returns-in-None c =
    let o = c.args.outline.now in
    let n = c.args.node in
    let book = c.args.found.now.books.now.second.first in
    no_line c.args.facts.now.items (λ low high. Count c.args.scope n low high)
    (is_stepped (found_in c.args.found.now) n && (is_counted (shape_of o) n && (own_of (shape_of o) n == c.args.scope))) (spread_at book.spreads n)
    (nothing_at book.spreads n c.count_of.result c.count_of.ensures c.in-None.is)
