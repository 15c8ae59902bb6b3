use Rattle.std.proofs.Common.{arith, sym, ◌∙◌}
use Rattle.std.proofs.lemmas.Grind.{common_steps}
use Rattle.alf_ops.specs.OperandLaws.{operands_go_on}
use Rattle.flat_domain.proofs.known.+fit_from.Goals as goal

pub returns-then-size : goal.returns-then-size
returns-then-size t c = rw (operands_go_on c.args.op c.args.sizes.now c.args.place c.in-Some-Some.size (sym c.operand.ensures ∙ c.in-Some-Some.is-0)) (grind (arith, common_steps))

pub returns-else-size : goal.returns-else-size
returns-else-size t c = rw (operands_go_on c.args.op c.args.sizes.now c.args.place c.in-Some-Some.size (sym c.operand.ensures ∙ c.in-Some-Some.is-0)) (grind (arith, common_steps))
