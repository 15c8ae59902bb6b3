-- What is left to show of `go`.
use Rattle.std.proofs.Common.{◌*◌, ℕ, List, length, sym, ap, subst, ◌∙◌}
use Rattle.std.proofs.lemmas.List.{with_items_is}
use Rattle.recorder_rules.specs.TotalLaws.{node_low}
use Rattle.domain_core.specs.Outlines.{shape_of}
use Rattle.recorder_rules.specs.PairRules.{Sightings, PairBook, pair_recording}
use Rattle.recorder_rules.specs.BitWords.{words_for, AreOwned}
use Rattle.recorder_rules.specs.Seen.{pair_book}
use Rattle.recorder_rules.specs.PairBitLaws.{book_nodes, book_scopes, book_owned}
use Rattle.pair_recorder.proofs.Formed.{sighted_count}
use Rattle.pair_recorder.proofs.pairs.PairsRecorder.go.Goals as goal

pub step-requires-clause-from : goal.step-requires-clause-from
step-requires-clause-from c = node_low c.args.outline.now c.args.from (c.kept.ensures.edges_within c.args.from c.args.to c.requires.edge).0

pub step-requires-clause-count : goal.step-requires-clause-count
step-requires-clause-count c = sym (sighted_count c.self.inside.form) ∙ ap (λ (z : Sightings). length z.seen) c.self.view_is ∙ c.requires.recorder

pub step-requires-clause-rows : goal.step-requires-clause-rows
step-requires-clause-rows c =
    let k = c.book.inside in
    ap (λ (xs : List ℕ). length xs) c.deref_mut.ensures.value ∙ c.book.invariant.1
    ∙ ap (λ (m : ℕ). m * words_for m) (book_nodes k.count k.scopes k.owned.items k.rows.items c.args.outline.now c.args.book.now c.book.view_is c.requires.book)

pub step-requires-clause-owned_length : goal.step-requires-clause-owned_length
step-requires-clause-owned_length c =
    let k = c.book.inside in
    ap (λ (xs : List ℕ). length xs) c.deref.ensures.value ∙ c.book.invariant.0
    ∙ ap (λ (m : ℕ). m * words_for k.count) (book_scopes k.count k.scopes k.owned.items k.rows.items c.args.outline.now c.args.book.now c.book.view_is c.requires.book)
    ∙ ap (λ (m : ℕ). length c.args.outline.now.scopes * words_for m) (book_nodes k.count k.scopes k.owned.items k.rows.items c.args.outline.now c.args.book.now c.book.view_is c.requires.book)

pub step-requires-clause-owned : goal.step-requires-clause-owned
step-requires-clause-owned c =
    let k = c.book.inside in
    subst (λ (xs : List ℕ). AreOwned (shape_of c.args.outline.now) (length c.args.outline.now.scopes) (length c.args.outline.now.nodes) (words_for (length c.args.outline.now.nodes)) xs) (sym c.deref.ensures.value)
    (subst (λ (m : ℕ). AreOwned (shape_of c.args.outline.now) (length c.args.outline.now.scopes) (length c.args.outline.now.nodes) (words_for m) k.owned.items)
    (book_nodes k.count k.scopes k.owned.items k.rows.items c.args.outline.now c.args.book.now c.book.view_is c.requires.book)
    (book_owned k.count k.scopes k.owned.items k.rows.items c.args.outline.now c.args.book.now c.book.view_is c.requires.book))

pub returns-clause-gone : goal.returns-clause-gone
returns-clause-gone c =
    c.in_ok-step.ensures.gone c.args.book.now
    ∙ ap (λ (z : Sightings). pair_recording.gone c.args.outline.now z c.args.book.now c.args.from c.args.to) c.self.view_is

pub returns-clause-collected : goal.returns-clause-collected
returns-clause-collected c =
    let k = c.book.inside in
    let o = c.args.outline.now in
    let n = length c.args.outline.now.nodes in
    let new = c.step.new.rows in
    let its = book_nodes k.count k.scopes k.owned.items k.rows.items o c.args.book.now c.book.view_is c.requires.book in
    ap (λ (xs : List ℕ). pair_book k.count k.scopes k.owned.items xs) (with_items_is k.rows new (c.step.auto.rows ∙ c.deref_mut.ensures.len))
    ∙ ap (λ (m : ℕ). pair_book m k.scopes k.owned.items new) its
    ∙ ap (λ (zs : List ℕ). pair_book n k.scopes zs new) (sym c.deref.ensures.value)
    ∙ c.in_ok-step.ensures.collected k.scopes
    ∙ ap (λ (z : Sightings). pair_recording.gone_book o z (pair_book n k.scopes c.deref.result.now c.deref_mut.result.now) c.args.from c.args.to) c.self.view_is
    ∙ ap (λ (z : PairBook). pair_recording.gone_book o c.args.self.now z c.args.from c.args.to)
    (ap (λ (zs : List ℕ). pair_book n k.scopes zs c.deref_mut.result.now) c.deref.ensures.value
    ∙ ap (λ (zs : List ℕ). pair_book n k.scopes k.owned.items zs) c.deref_mut.ensures.value
    ∙ ap (λ (m : ℕ). pair_book m k.scopes k.owned.items k.rows.items) (sym its)
    ∙ c.book.view_is)
