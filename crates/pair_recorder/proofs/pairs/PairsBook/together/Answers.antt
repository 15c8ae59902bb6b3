-- What is left to show of `together`.
use Rattle.std.proofs.Common.{◌*◌, ℕ, List, ap, ◌∙◌, arith}
use Rattle.recorder_rules.specs.BitWords.{words_for, is_marked}
use Rattle.pair_recorder.proofs.Handed.{told_count, told_low, told_first, told_second}
use Rattle.pair_recorder.proofs.pairs.PairsBook.together.Goals as goal

pub is_marked_at-requires : goal.is_marked_at-requires
is_marked_at-requires c =
    let s = c.self.inside in
    let e = told_count s.count s.scopes s.owned.items s.rows.items c.args.self.now c.self.view_is in
    let low = c.requires.a in
    let within = c.requires.b in
    told_low s.count c.words-width.result c.args.a c.args.b c.deref.result.now s.rows.items c.deref.ensures.value c.self.invariant.1 c.words-width.ensures (omega arith) (omega arith)

pub is_marked_at-requires-else-is_marked_at : goal.is_marked_at-requires-else-is_marked_at
is_marked_at-requires-else-is_marked_at c =
    let s = c.self.inside in
    let e = told_count s.count s.scopes s.owned.items s.rows.items c.args.self.now c.self.view_is in
    let low = c.requires.a in
    let within = c.requires.b in
    told_low s.count c.words-width.result c.args.b c.args.a c.deref-else-is_marked_at.result.now s.rows.items c.deref-else-is_marked_at.ensures.value c.self.invariant.1 c.words-width.ensures (omega arith) (omega arith)

pub returns-then-is_marked_at : goal.returns-then-is_marked_at
returns-then-is_marked_at c =
    let s = c.self.inside in
    let e = told_count s.count s.scopes s.owned.items s.rows.items c.args.self.now c.self.view_is in
    let low = c.requires.a in
    let within = c.requires.b in
    c.if-is_marked_at.true
    ∙ told_first s.count s.scopes s.owned.items s.rows.items c.args.self.now c.self.view_is c.args.a c.args.b (omega arith) (omega arith) c.is_marked_at.result
    (c.is_marked_at.ensures ∙ ap (λ (w : ℕ). is_marked c.deref.result.now (c.args.a * w) c.args.b) c.words-width.ensures ∙ ap (λ (xs : List ℕ). is_marked xs (c.args.a * words_for s.count) c.args.b) c.deref.ensures.value)
    c.if-is_marked_at.true

pub returns-else-is_marked_at : goal.returns-else-is_marked_at
returns-else-is_marked_at c =
    let s = c.self.inside in
    let e = told_count s.count s.scopes s.owned.items s.rows.items c.args.self.now c.self.view_is in
    let low = c.requires.a in
    let within = c.requires.b in
    told_second s.count s.scopes s.owned.items s.rows.items c.args.self.now c.self.view_is c.args.a c.args.b (omega arith) (omega arith) c.is_marked_at.result c.is_marked_at-else-is_marked_at.result
    (c.is_marked_at.ensures ∙ ap (λ (w : ℕ). is_marked c.deref.result.now (c.args.a * w) c.args.b) c.words-width.ensures ∙ ap (λ (xs : List ℕ). is_marked xs (c.args.a * words_for s.count) c.args.b) c.deref.ensures.value)
    c.if-is_marked_at.false
    (c.is_marked_at-else-is_marked_at.ensures ∙ ap (λ (w : ℕ). is_marked c.deref-else-is_marked_at.result.now (c.args.b * w) c.args.a) c.words-width.ensures
    ∙ ap (λ (xs : List ℕ). is_marked xs (c.args.b * words_for s.count) c.args.a) c.deref-else-is_marked_at.ensures.value)
