use Rattle.interval_congruence.proofs.OperandLists.{operand_past}
use Rattle.std.proofs.Common.{sym, ◌∙◌, arith}
use Rattle.interval_congruence.proofs.domain.operand.Goals as goal

pub returns-else-place-args : goal.returns-else-place-args
returns-else-place-args c = c.one_word.ensures ∙ sym (operand_past c.args.args.now c.args.place (omega arith))
