-- What is left to show of `clear_marked`.
use Rattle.std.proofs.Common.{length, refl}
use Rattle.recorder_rules.specs.RowLaws.{rowwise_next}
use Rattle.pair_recorder.proofs.marked.clear_marked.Goals as goal

pub loop-place-preserved : goal.loop-place-preserved
loop-place-preserved c =
    rowwise_next c.args.count (length c.args.marks.now) c.args.marks.now (λ i. 0) c.args.words.now c.requires.count
    c.loop-place.words c.clear_words.new.words c.loop-place.place c.next_mark-place-in-loop-place.result (λ i. 0)
    c.loop-place-test.true c.next_mark-place-in-loop-place.ensures c.clear_words.ensures (λ q low. refl) c.loop-place.invariant
