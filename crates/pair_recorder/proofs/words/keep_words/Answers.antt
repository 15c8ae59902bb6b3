-- What is left to show of `keep_words`.
use Rattle.std.proofs.Common.{arith}
use Rattle.pair_recorder.proofs.Handed.{small_kept}
use Rattle.pair_recorder.proofs.words.keep_words.Goals as goal

pub returns-clause-small : goal.returns-clause-small
returns-clause-small c i =
    small_kept c.loop-j.j c.args.start c.args.into.now c.args.from.now c.loop-j.into c.loop-j.invariant (let over = c.loop-j-test.false in omega arith) (λ k. (c.type_inv.from k).fits) i
