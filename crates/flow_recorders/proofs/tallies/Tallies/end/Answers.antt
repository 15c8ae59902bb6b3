-- What is left to show of `end`.
use Rattle.std.proofs.Common.{ℕ, List, Option, ap, ◌∙◌}
use Rattle.std.proofs.lemmas.List.{with_items_is}
use Rattle.domain_core.specs.Outlines.{shape_of}
use Rattle.recorder_rules.specs.TallyRules.{spreads_ended}
use Rattle.flow_recorders.proofs.Tallying.{ended_is, ledger, changed_book}
use Rattle.flow_recorders.proofs.tallies.Tallies.end.Goals as goal

pub returns : goal.returns
returns c =
    ap (λ (xs : List (Option (ℕ × ℕ))). ledger c.self.inside.scopes c.self.inside.nodes xs) (with_items_is c.self.inside.spreads c.collect_scopes.new.spreads (c.collect_scopes.auto.spreads ∙ c.deref_mut.ensures.len))
    ∙ changed_book c.self.inside.scopes c.self.inside.nodes c.self.inside.spreads.items c.collect_scopes.new.spreads c.args.self.now
    (λ z. spreads_ended (shape_of c.args.outline.now) z.tally c.args.spans.now z.spreads c.args.last) c.self.view_is
    (ended_is (shape_of c.args.outline.now) (record { scopes = c.self.inside.scopes; nodes = c.self.inside.nodes }) c.args.spans.now c.args.last c.deref.result.now (c.deref.ensures.value ∙ c.in_ok-around.ensures)
    c.deref_mut.result.now c.collect_scopes.new.spreads c.collect_scopes.auto.spreads c.collect_scopes.ensures
    ∙ ap (λ (xs : List (Option (ℕ × ℕ))). spreads_ended (shape_of c.args.outline.now) (record { scopes = c.self.inside.scopes; nodes = c.self.inside.nodes }) c.args.spans.now xs c.args.last) c.deref_mut.ensures.value)
