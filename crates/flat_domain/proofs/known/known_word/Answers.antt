use Rattle.std.proofs.Common.{sym, ◌∙◌}
use Rattle.alf_ops.specs.Table.{operand_sizes}
use Rattle.flat_domain.proofs.Operands.{few, taken, words_fit}
use Rattle.flat_domain.proofs.known.known_word.Goals as goal

pub slice_bounds-apply-end-in-Some-Some-Some : goal.slice_bounds-apply-end-in-Some-Some-Some
slice_bounds-apply-end-in-Some-Some-Some c = taken c.args.args.now _ _ _ (few c.args.op c.args.sizes.now c.args.args.now c.requires.sized)

pub apply-requires-clause-fitting : goal.apply-requires-clause-fitting
apply-requires-clause-fitting c = words_fit (operand_sizes c.args.op c.args.sizes.now) c.args.args.now _ _ _
    (few c.args.op c.args.sizes.now c.args.args.now c.requires.sized) c.requires.sized c.word_at.ensures.flat c.word_at-2.ensures.flat c.word_at-3.ensures.flat
    (sym c.word_at.ensures.value ∙ c.in-Some-Some-Some.is-0) (sym c.word_at-2.ensures.value ∙ c.in-Some-Some-Some.is-1) (sym c.word_at-3.ensures.value ∙ c.in-Some-Some-Some.is-2)
