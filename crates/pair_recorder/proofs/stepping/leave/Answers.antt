-- What is left to show of `leave`.
use Rattle.std.proofs.Common.{◌≡◌, ◌+◌, ℕ, List, bit_or, bit_and, length, get_or, refl, ap, ◌∙◌}
use Rattle.std.proofs.lemmas.List.{with_items_is}
use Rattle.domain_core.specs.Outlines.{shape_of}
use Rattle.recorder_rules.specs.BitWords.{is_marked, AreInRange}
use Rattle.recorder_rules.specs.StepBitLaws.{left_seen, left_rows, collected_rows}
use Rattle.pair_recorder.proofs.Handed.{kept_by, rows_by, cleared_by}
use Rattle.pair_recorder.proofs.stepping.leave.Goals as goal

pub returns-clause-seen : goal.returns-clause-seen
returns-clause-seen c =
    let o = shape_of c.args.outline.now in
    let n = length c.args.outline.now.nodes in
    let w = length c.args.seen.now in
    let ended = c.deref_mut.result.now in
    let over = c.keep_words.new.into in
    let len : length ended ≡ w = ap (λ (xs : List ℕ). length xs) c.deref_mut.ensures.value ∙ c.in_ok-over.ensures.length in
    let kept : AreInRange 0 w (λ i. bit_and (get_or ended i 0) (get_or c.args.seen.now (0 + i) 0)) ended over = kept_by c.args.seen.now over ended ended 0 w refl len c.keep_words.ensures.words in
    let now = c.deref-4.ensures.value ∙ with_items_is c.in_ok-over.over over (c.keep_words.auto.into ∙ c.deref_mut.ensures.len) in
    left_seen o n w c.args.from c.args.to c.requires.seen c.args.seen.now ended over
    (λ a low. ap (λ (xs : List ℕ). is_marked xs 0 a) c.deref_mut.ensures.value ∙ c.in_ok-over.ensures.ended a low) kept c.clear_marks.new.words
    (λ i low. c.keep_words.ensures.small i)
    (cleared_by w c.deref-4.result.now over c.args.seen.now c.clear_marks.new.words now c.clear_marks.ensures)

pub returns-clause-rows : goal.returns-clause-rows
returns-clause-rows c =
    let o = shape_of c.args.outline.now in
    let n = length c.args.outline.now.nodes in
    let w = length c.args.seen.now in
    let ended = c.deref_mut.result.now in
    let over = c.keep_words.new.into in
    let len : length ended ≡ w = ap (λ (xs : List ℕ). length xs) c.deref_mut.ensures.value ∙ c.in_ok-over.ensures.length in
    let now = c.deref-3.ensures.value ∙ with_items_is c.in_ok-over.over over (c.keep_words.auto.into ∙ c.deref_mut.ensures.len) in
    left_rows o n w c.args.from c.args.to c.requires.seen c.args.seen.now ended over
    (λ a low. ap (λ (xs : List ℕ). is_marked xs 0 a) c.deref_mut.ensures.value ∙ c.in_ok-over.ensures.ended a low)
    (kept_by c.args.seen.now over ended ended 0 w refl len c.keep_words.ensures.words) c.args.rows.now c.clear_marked.new.words
    (rows_by c.node_count-count.result n w c.deref-3.result.now over c.args.rows.now c.clear_marked.new.words (λ i. 0) c.node_count-count.ensures now (c.keep_words.auto.into ∙ len) c.clear_marked.ensures)

pub returns-clause-book : goal.returns-clause-book
returns-clause-book c =
    let o = shape_of c.args.outline.now in
    let n = length c.args.outline.now.nodes in
    let w = length c.args.seen.now in
    let ended = c.deref_mut.result.now in
    let over = c.keep_words.new.into in
    let len : length ended ≡ w = ap (λ (xs : List ℕ). length xs) c.deref_mut.ensures.value ∙ c.in_ok-over.ensures.length in
    let now = c.deref-2.ensures.value ∙ with_items_is c.in_ok-over.over over (c.keep_words.auto.into ∙ c.deref_mut.ensures.len) in
    collected_rows o n w c.args.from c.args.to c.requires.seen c.args.seen.now ended over
    (λ a low. ap (λ (xs : List ℕ). is_marked xs 0 a) c.deref_mut.ensures.value ∙ c.in_ok-over.ensures.ended a low)
    (kept_by c.args.seen.now over ended ended 0 w refl len c.keep_words.ensures.words) c.args.rows.now c.args.book.now c.add_marked.new.into
    (rows_by c.node_count-count.result n w c.deref-2.result.now over c.args.book.now c.add_marked.new.into (λ i. bit_or (get_or c.args.book.now i 0) (get_or c.args.rows.now i 0)) c.node_count-count.ensures now (c.keep_words.auto.into ∙ len) c.add_marked.ensures)
