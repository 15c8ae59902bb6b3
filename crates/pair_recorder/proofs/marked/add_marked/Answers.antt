-- What is left to show of `add_marked`.
use Rattle.std.proofs.Common.{◌≡◌, ◌+◌, ◌-◌, ◌*◌, ℕ, bit_or, length, get_or, ap, ◌∙◌, arith}
use Rattle.recorder_rules.specs.RowLaws.{rowwise_next}
use Rattle.pair_recorder.proofs.marked.add_marked.Goals as goal

pub loop-place-preserved : goal.loop-place-preserved
loop-place-preserved c =
    let w = length c.args.marks.now in
    let p = c.loop-place.place in
    rowwise_next c.args.count w c.args.marks.now (λ i. bit_or (get_or c.args.into.now i 0) (get_or c.args.from.now i 0)) c.args.into.now c.requires.count
    c.loop-place.into c.add_words.new.into p c.next_mark-place-in-loop-place.result
    (λ i. bit_or (get_or c.loop-place.into i 0) (get_or c.args.from.now (p * w + (i - p * w)) 0))
    c.loop-place-test.true c.next_mark-place-in-loop-place.ensures c.add_words.ensures
    (λ q low.
    ap (λ (v : ℕ). bit_or v (get_or c.args.from.now (p * w + (p * w + q - p * w)) 0)) (c.loop-place.invariant.rest p q (omega arith) low)
    ∙ ap (λ (i : ℕ). bit_or (get_or c.args.into.now (p * w + q) 0) (get_or c.args.from.now i 0)) (let e : p * w + (p * w + q - p * w) ≡ p * w + q = omega arith in e))
    c.loop-place.invariant
