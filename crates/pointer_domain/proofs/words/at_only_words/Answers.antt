use Rattle.std.proofs.Common.{take, length}
use Rattle.alf_ops.specs.Table.{operand_sizes}
use Rattle.pointer_domain.proofs.WordLists.{few_values, words_sized, words_applied}
use Rattle.pointer_domain.proofs.words.at_only_words.Goals as goal

pub each_words-requires : goal.each_words-requires
each_words-requires c = few_values c.args.op c.args.sizes.now c.args.args.now c.requires.sized

pub apply-answer-requires-clause-sized : goal.apply-answer-requires-clause-sized
apply-answer-requires-clause-sized c = words_sized (operand_sizes c.args.op c.args.sizes.now) c.args.args.now (take (length c.args.args.now) c.in_ok-words.words) c.in_ok-words.ensures c.requires.sized

pub returns : goal.returns
returns c = rw (c.words_outcome.ensures, c.apply-answer.ensures) (words_applied c.args.op c.args.sizes.now c.args.args.now (take (length c.args.args.now) c.in_ok-words.words) c.in_ok-words.ensures)
