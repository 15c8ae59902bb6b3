-- What is left to show of `advance`.
use Rattle.std.proofs.Common.{◌*◌, ℕ, length, refl, sym, ap, subst, ◌∙◌, arith}
use Rattle.domain_core.specs.Outlines.{shape_of}
use Rattle.recorder_rules.specs.BitWords.{AreOwned}
use Rattle.recorder_rules.specs.Seen.{AreLeftRows, AreCollectedRows, AreEnteredRows}
use Rattle.recorder_rules.specs.PairBitLaws.{stepped, stepped_book}
use Rattle.pair_recorder.proofs.advance.advance.Goals as goal

pub leave-requires-clause-seen : goal.leave-requires-clause-seen
leave-requires-clause-seen c = let e = c.requires.seen in omega arith

pub leave-requires-clause-few : goal.leave-requires-clause-few
leave-requires-clause-few c = let e = c.requires.seen in let f = c.requires.few in omega arith

pub leave-requires-clause-rows : goal.leave-requires-clause-rows
leave-requires-clause-rows c = c.requires.rows ∙ ap (λ (w : ℕ). length c.args.outline.now.nodes * w) (sym c.requires.seen)

pub leave-requires-clause-book : goal.leave-requires-clause-book
leave-requires-clause-book c = c.requires.book ∙ ap (λ (w : ℕ). length c.args.outline.now.nodes * w) (sym c.requires.seen)

pub leave-requires-clause-owned_length : goal.leave-requires-clause-owned_length
leave-requires-clause-owned_length c = c.requires.owned_length ∙ ap (λ (w : ℕ). length c.args.outline.now.scopes * w) (sym c.requires.seen)

pub leave-requires-clause-owned : goal.leave-requires-clause-owned
leave-requires-clause-owned c =
    subst (λ (w : ℕ). AreOwned (shape_of c.args.outline.now) (length c.args.outline.now.scopes) (length c.args.outline.now.nodes) w c.args.owned.now) (sym c.requires.seen) c.requires.owned

pub enter-requires-clause-seen : goal.enter-requires-clause-seen
enter-requires-clause-seen c = let e = c.leave.auto.seen ∙ c.requires.seen in omega arith

pub enter-requires-clause-rows : goal.enter-requires-clause-rows
enter-requires-clause-rows c = c.leave.auto.rows ∙ c.requires.rows ∙ ap (λ (w : ℕ). length c.args.outline.now.nodes * w) (sym (c.leave.auto.seen ∙ c.requires.seen))

pub enter-requires-clause-owned_length : goal.enter-requires-clause-owned_length
enter-requires-clause-owned_length c = c.requires.owned_length ∙ ap (λ (w : ℕ). length c.args.outline.now.scopes * w) (sym (c.leave.auto.seen ∙ c.requires.seen))

pub enter-requires-clause-owned : goal.enter-requires-clause-owned
enter-requires-clause-owned c =
    subst (λ (w : ℕ). AreOwned (shape_of c.args.outline.now) (length c.args.outline.now.scopes) (length c.args.outline.now.nodes) w c.args.owned.now) (sym (c.leave.auto.seen ∙ c.requires.seen)) c.requires.owned

pub returns-clause-recorder : goal.returns-clause-recorder
returns-clause-recorder c b =
    let o = c.args.outline.now in
    let n = length c.args.outline.now.nodes in
    stepped o n c.args.from c.args.to c.args.seen.now c.args.rows.now c.leave.new.seen c.enter.new.seen c.leave.new.rows c.enter.new.rows b refl
    c.in_ok-leave.ensures.seen c.in_ok-enter.ensures.seen
    (subst (λ (w : ℕ). AreLeftRows (shape_of o) n w c.args.from c.args.to c.args.seen.now c.args.rows.now c.leave.new.rows) c.requires.seen c.in_ok-leave.ensures.rows)
    (subst (λ (w : ℕ). AreEnteredRows (shape_of o) n w c.args.to c.enter.new.seen c.leave.new.rows c.enter.new.rows) (c.leave.auto.seen ∙ c.requires.seen) c.in_ok-enter.ensures.rows)

pub returns-clause-book : goal.returns-clause-book
returns-clause-book c s =
    let o = c.args.outline.now in
    let n = length c.args.outline.now.nodes in
    stepped_book o n c.args.from c.args.to c.args.seen.now c.args.rows.now s c.args.owned.now c.args.book.now c.leave.new.book refl
    (subst (λ (w : ℕ). AreCollectedRows (shape_of o) n w c.args.from c.args.to c.args.seen.now c.args.rows.now c.args.book.now c.leave.new.book) c.requires.seen c.in_ok-leave.ensures.book)
