use Rattle.alf_ops.specs.Table.{operand_sizes}
use Rattle.alf_ops.proofs.Values.{few_values, words_fit}
use Rattle.alf_ops.proofs.outcomes.word_at_bits.Goals as goal

pub apply-requires-clause-fitting : goal.apply-requires-clause-fitting
apply-requires-clause-fitting c =
    let few = few_values c.args.op c.args.sizes.now c.args.values.now c.requires.fitting in
    rw (c.bits.ensures, c.bits-2.ensures, c.bits-3.ensures, c.value_at.ensures, c.value_at-2.ensures, c.value_at-3.ensures)
    (words_fit (operand_sizes c.args.op c.args.sizes.now) c.args.values.now c.requires.fitting few)
