use Rattle.std.proofs.Common.{arith, sym, ◌∙◌}
use Rattle.std.proofs.lemmas.Grind.{common_steps}
use Rattle.alf_ops.specs.OperandLaws.{operands_go_on}
use Rattle.flat_domain.proofs.sizes.+fit_from.Goals as goal

pub returns-then-bits-size : goal.returns-then-bits-size
returns-then-bits-size g t c = rw (operands_go_on c.args.op c.args.sizes.now c.args.place c.in-Some-Some.size (sym c.operand.ensures ∙ c.in-Some-Some.is-0)) (grind (arith, common_steps))

pub returns-else-bits-size : goal.returns-else-bits-size
returns-else-bits-size g t c = rw (operands_go_on c.args.op c.args.sizes.now c.args.place c.in-Some-Some.size (sym c.operand.ensures ∙ c.in-Some-Some.is-0)) (grind (arith, common_steps))
