-- What is left to show of `finish`.
use Rattle.std.proofs.Common.{◌*◌, ℕ, List, length, sym, ap, ◌∙◌}
use Rattle.std.proofs.lemmas.List.{with_items_is}
use Rattle.recorder_rules.specs.PairRules.{Sightings, PairBook, pair_recording}
use Rattle.recorder_rules.specs.BitWords.{words_for}
use Rattle.recorder_rules.specs.Seen.{pair_book}
use Rattle.recorder_rules.specs.PairBitLaws.{book_nodes}
use Rattle.pair_recorder.specs.Forms.{count_of}
use Rattle.pair_recorder.proofs.Formed.{sighted_count}
use Rattle.pair_recorder.proofs.pairs.PairsRecorder.finish.Goals as goal

pub collect-requires-clause-rows : goal.collect-requires-clause-rows
collect-requires-clause-rows c =
    let k = c.book.inside in
    let own = sym (sighted_count c.self.inside.form) ∙ ap (λ (z : Sightings). length z.seen) c.self.view_is ∙ c.requires.recorder in
    ap (λ (xs : List ℕ). length xs) c.deref_mut.ensures.value ∙ c.book.invariant.1
    ∙ ap (λ (m : ℕ). m * words_for m) (book_nodes k.count k.scopes k.owned.items k.rows.items c.args.outline.now c.args.book.now c.book.view_is c.requires.book ∙ sym own)

pub returns : goal.returns
returns c =
    let k = c.book.inside in
    let o = c.args.outline.now in
    let n = count_of c.self.inside.form in
    let new = c.collect.new.rows in
    let own = sym (sighted_count c.self.inside.form) ∙ ap (λ (z : Sightings). length z.seen) c.self.view_is ∙ c.requires.recorder in
    let its = book_nodes k.count k.scopes k.owned.items k.rows.items o c.args.book.now c.book.view_is c.requires.book in
    ap (λ (xs : List ℕ). pair_book k.count k.scopes k.owned.items xs) (with_items_is k.rows new (c.collect.auto.rows ∙ c.deref_mut.ensures.len))
    ∙ ap (λ (m : ℕ). pair_book m k.scopes k.owned.items new) (its ∙ sym own)
    ∙ c.in_ok-collect.ensures o k.scopes c.args._last k.owned.items own
    ∙ ap (λ (z : Sightings). pair_recording.finished o z (pair_book n k.scopes k.owned.items c.deref_mut.result.now) c.args._last) c.self.view_is
    ∙ ap (λ (z : PairBook). pair_recording.finished o c.args.self.now z c.args._last)
    (ap (λ (zs : List ℕ). pair_book n k.scopes k.owned.items zs) c.deref_mut.ensures.value
    ∙ ap (λ (m : ℕ). pair_book m k.scopes k.owned.items k.rows.items) (own ∙ sym its)
    ∙ c.book.view_is)
