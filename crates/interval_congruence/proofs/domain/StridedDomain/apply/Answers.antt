use Rattle.alf_ops.specs.Table.{operand_sizes}
use Rattle.interval_congruence.proofs.OperandLists.{words_fit, sized_at}
use Rattle.interval_congruence.proofs.domain.StridedDomain.apply.Goals as goal

pub known-requires-clause-fitting : goal.known-requires-clause-fitting
known-requires-clause-fitting c = rw c.words-words.ensures (words_fit (operand_sizes c.args.op c.args.sizes.now) c.args.args.now c.requires.sized)

pub ruled-requires-clause-second : goal.ruled-requires-clause-second
ruled-requires-clause-second c = rw c.operand-b.ensures (sized_at (operand_sizes c.args.op c.args.sizes.now) c.args.args.now 1 c.requires.sized)

pub ruled-requires-clause-third : goal.ruled-requires-clause-third
ruled-requires-clause-third c = rw c.operand-c.ensures (sized_at (operand_sizes c.args.op c.args.sizes.now) c.args.args.now 2 c.requires.sized)
