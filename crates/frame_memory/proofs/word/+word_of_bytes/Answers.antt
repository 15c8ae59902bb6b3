-- What is left to show of `word_of_bytes`: facts of the proof files, applied.
use Rattle.std.proofs.Common.{◌≡◌, ◌≢◌, sym, subst, ◌∙◌, ap, Some, IfSome, arith, ◌-◌, ◌*◌}
use Rattle.domain_core.specs.WordSets.{IsOfSize}
use Rattle.strided_rules.specs.Strides.{Stride}
use Rattle.strided_rules.specs.Domains.{stride_sets}
use Rattle.memory_rules.specs.AbstractSets.{abstract_sets}
use Rattle.memory_rules.specs.Frames.{AbstractByte, FrameMem}
use Rattle.memory_model.specs.HeldFrames.{frame_of}
use Rattle.frame_memory.proofs.ByteWords.{word_more, word_sized, below}
use Rattle.frame_memory.proofs.word.+word_of_bytes.Goals as goal

pub returns-clause-word : goal.returns-clause-word
returns-clause-word t c =
    let m : FrameMem abstract_sets = frame_of c.args.slots.now in
    let low : (m.bytes c.args.place).value ≡ Some c.in_ok-low.low =
    ap (λ (byte : AbstractByte Stride). byte.value) (sym c.byte_of.ensures) ∙ c.in_ok-low.was in
    let some : c.args.count ≢ 0 = omega (arith, c.requires.some) in
    let others : c.args.count - 1 ≢ 0 = omega (arith, c.requires.some, c.if-count-eq1.false) in
    ap Some c.above.ensures
    ∙ (ap (λ word. below word c.in_ok-low.low) (sym c.in_ok-high.was ∙ c.word_of_bytes.ensures.word)
    ∙ sym (word_more m.bytes c.args.place c.args.count c.in_ok-low.low some others low))

pub returns-clause-sized : goal.returns-clause-sized
returns-clause-sized t c =
    let m : FrameMem abstract_sets = frame_of c.args.slots.now in
    subst (λ word. IfSome word (IsOfSize stride_sets (c.args.count * 8))) (sym (returns-clause-word t c))
    (word_sized m c.requires.sized c.args.place c.args.count c.requires.some c.requires.most)
