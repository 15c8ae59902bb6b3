-- What is left to show of `collect_scopes`.
use Rattle.std.proofs.Common.{◌≡◌, ℕ, List, [], drop, arith, ap, sym, ◌∙◌}
use Rattle.std.proofs.lemmas.List.{drop_all}
use Rattle.recorder_rules.specs.TotalRules.{span_at, spread_at}
use Rattle.recorder_rules.specs.TallyRules.{key_at}
use Rattle.flow_recorders.proofs.Walking.{after_each, each_after}
use Rattle.flow_recorders.proofs.walked.collect_scopes.Goals as goal

pub returns : goal.returns
returns c j low =
    let l = c.loop-scope in
    let none : drop l.scope-index c.args.scopes.now ≡ [] = (let over = c.loop-scope-test.false in drop_all l.scope-index c.args.scopes.now (omega arith)) in
    ap (λ (ks : List ℕ). after_each (key_at c.args.chains.now j) (spread_at l.spreads j) (span_at c.args.spans.now j) ks) (sym none)
    ∙ l.invariant j low
    ∙ each_after (key_at c.args.chains.now j) (spread_at c.args.spreads.now j) (span_at c.args.spans.now j) c.args.scopes.now
