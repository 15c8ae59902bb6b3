-- What is left to show of `are_apart`.
use Rattle.std.proofs.Common.{◌≡◌, sym, ◌∙◌, reverse}
use Rattle.domain_core.specs.Outlines.{shape_of}
use Rattle.flow_facts.specs.Walking.{seen_ends, seen_of}
use Rattle.flow_facts.proofs.Walks.{all_iterations}
use Rattle.flow_facts.proofs.iterations.are_apart.Goals as goal

pub returns : goal.returns
returns c =
    let law = all_iterations (shape_of c.args.outline.now) c.kept.ensures c.args.scope c.args.trace.now c.args.a c.args.b in
    let same : c.ends.result ≡ seen_ends (seen_of (shape_of c.args.outline.now) c.args.scope c.args.a c.args.b (reverse c.args.trace.now)) = cc in
    ((λ found. law.0 (sym same ∙ found)), (λ each. same ∙ law.1 each))
