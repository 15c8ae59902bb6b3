-- What is left to show of `go_on`.
use Rattle.std.proofs.Common.{◌≡◌, ◌==◌, ℕ, List, Option, ap, ◌∙◌, subst, arith}
use Rattle.std.specs.List.{list_any}
use Rattle.std.proofs.lemmas.List.{with_items_is}
use Rattle.domain_core.specs.Outlines.{shape_of}
use Rattle.recorder_rules.specs.TallyRules.{Ledger, key_at, is_at, spans_gone, spreads_gone}
use Rattle.flow_recorders.proofs.Tallying.{reset_greatest, spans_are, book_is, ledger, changed_book}
use Rattle.flow_recorders.proofs.tallies.Tallies.go_on.Goals as goal

pub enter-requires-clause-room : goal.enter-requires-clause-room
enter-requires-clause-room c =
    let least = reset_greatest c.args.spans.now c.reset_scopes.new.spans (λ j. list_any (λ s. is_at (key_at c.self.inside.scopes j) s) c.deref-2.result.now) c.in_ok-reset_scopes.ensures.same_length c.in_ok-reset_scopes.ensures.reset in
    omega (arith, c.requires.room)

pub returns-clause-spans : goal.returns-clause-spans
returns-clause-spans c =
    subst (λ (z : Ledger). c.enter.new.spans ≡ spans_gone (shape_of c.args.outline.now) z.tally c.args.spans.now c.args.from c.args.to) c.self.view_is
    (spans_are (shape_of c.args.outline.now) (record { scopes = c.self.inside.scopes; nodes = c.self.inside.nodes }) c.args.spans.now c.args.from c.args.to c.deref-2.result.now
    (λ t. ap (λ (xs : List ℕ). list_any (λ s. t == s) xs) c.deref-2.ensures.value ∙ c.in_ok-left.ensures t)
    c.reset_scopes.new.spans c.enter.new.spans c.in_ok-reset_scopes.ensures.same_length c.in_ok-enter.ensures.same_length c.in_ok-reset_scopes.ensures.reset c.in_ok-enter.ensures.entered)

pub returns-clause-book : goal.returns-clause-book
returns-clause-book c =
    ap (λ (xs : List (Option (ℕ × ℕ))). ledger c.self.inside.scopes c.self.inside.nodes xs) (with_items_is c.self.inside.spreads c.collect_scopes.new.spreads (c.collect_scopes.auto.spreads ∙ c.deref_mut.ensures.len))
    ∙ changed_book c.self.inside.scopes c.self.inside.nodes c.self.inside.spreads.items c.collect_scopes.new.spreads c.args.self.now
    (λ z. spreads_gone (shape_of c.args.outline.now) z.tally c.args.spans.now z.spreads c.args.from c.args.to) c.self.view_is
    (book_is (shape_of c.args.outline.now) (record { scopes = c.self.inside.scopes; nodes = c.self.inside.nodes }) c.args.spans.now c.args.from c.args.to c.deref.result.now
    (λ t. ap (λ (xs : List ℕ). list_any (λ s. t == s) xs) c.deref.ensures.value ∙ c.in_ok-left.ensures t)
    c.deref_mut.result.now c.collect_scopes.new.spreads c.collect_scopes.auto.spreads c.collect_scopes.ensures
    ∙ ap (λ (xs : List (Option (ℕ × ℕ))). spreads_gone (shape_of c.args.outline.now) (record { scopes = c.self.inside.scopes; nodes = c.self.inside.nodes }) c.args.spans.now xs c.args.from c.args.to) c.deref_mut.ensures.value)
