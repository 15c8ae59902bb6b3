-- What is left to show of `tell_loop`.
use Rattle.domain_core.specs.Outlines.{kind_of}
use Rattle.flow_facts.specs.declared.fact.Fact.TheVariants.{Loop}
use Rattle.recorder_rules.specs.TotalRules.{spread_at}
use Rattle.recorder_rules.specs.LoopRules.{is_loop}
use Rattle.flow_reports.proofs.Steps.{nothing_at, no_line}
use Rattle.flow_reports.proofs.loops.tell_loop.Goals as goal

pub returns-in-None : goal.returns-in-None
returns-in-None c =
    let book = c.args.found.now.books.now.first.second in
    no_line c.args.facts.now.items (λ low high. Loop c.args.scope low high) (is_loop (kind_of c.args.outline.now.scopes c.args.scope)) (spread_at book.spreads c.args.scope)
    (nothing_at book.spreads c.args.scope c.loop_of.result c.loop_of.ensures c.in-None.is)
