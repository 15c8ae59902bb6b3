-- What is left to show of `executions_fit`.
use Rattle.std.proofs.Common.{◌≡◌, sym, ◌∙◌, reverse}
use Rattle.domain_core.specs.Outlines.{shape_of}
use Rattle.flow_facts.specs.Walking.{tally_ends, tally_of}
use Rattle.flow_facts.proofs.Walks.{all_executions}
use Rattle.flow_facts.proofs.executions.executions_fit.Goals as goal

pub returns : goal.returns
returns c =
    let law = all_executions (shape_of c.args.outline.now) c.kept.ensures c.args.scope c.args.trace.now c.args.node c.args.span.low c.args.span.high in
    let same : c.ends.result ≡ tally_ends c.args.span.low c.args.span.high (tally_of (shape_of c.args.outline.now) c.args.scope c.args.node c.args.span.low c.args.span.high (reverse c.args.trace.now)) = cc in
    ((λ found. law.0 (sym same ∙ found)), (λ each. same ∙ law.1 each))
