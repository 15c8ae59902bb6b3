use Rattle.interval_congruence.proofs.OperandLists.{words_taken}
use Rattle.interval_congruence.proofs.domain.words.Goals as goal

pub returns : goal.returns
returns c = rw (c.word.ensures.value, c.word-2.ensures.value, c.word-3.ensures.value, c.operand.ensures, c.operand-2.ensures, c.operand-3.ensures) (words_taken c.args.args.now c.requires)
