-- What is left to show of `tell_total`.
use Rattle.flow_facts.specs.declared.fact.Fact.TheVariants.{Total}
use Rattle.recorder_rules.specs.TotalRules.{spread_at}
use Rattle.report_soundness.specs.ReportTold.{is_stepped}
use Rattle.flow_gathering.specs.Gathering.{found_in}
use Rattle.flow_reports.proofs.Steps.{nothing_at, no_line}
use Rattle.flow_reports.proofs.totals.tell_total.Goals as goal

pub returns-in-None : goal.returns-in-None
returns-in-None c =
    let book = c.args.found.now.books.now.first.first in
    no_line c.args.facts.now.items (λ low high. Total c.args.node low high) (is_stepped (found_in c.args.found.now) c.args.node) (spread_at book c.args.node)
    (nothing_at book c.args.node c.total_of.result c.total_of.ensures c.in-None.is)
