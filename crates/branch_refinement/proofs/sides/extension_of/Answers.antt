use Rattle.alf_ops.specs.Table.{operand_sizes}
use Rattle.alf_check.specs.CheckedPrograms.{term_of}
use Rattle.branch_refinement.proofs.Reading.{operand_sized}
use Rattle.branch_refinement.proofs.sides.extension_of.Goals as goal

pub applied_words-requires-clause-sized : goal.applied_words-requires-clause-sized
applied_words-requires-clause-sized c =
    let typed = c.requires.typed in
    operand_sized c.args.memory.now typed.table typed.function (operand_sizes c.args.op c.args.sizes.now) (term_of c.args.operand.now) c.in_ok-value.value c.requires.kept typed.has.operands c.in_ok-value.ensures.value
