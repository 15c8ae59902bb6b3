use Rattle.std.proofs.Common.{◌∙◌, subst, sym}
use Rattle.strided_rules.specs.Strides.{IsStride}
use Rattle.interval_congruence.proofs.NormalParts.{low_is, width_most, step_most, width_fits, kept_is}
use Rattle.interval_congruence.proofs.value.Strided.of.Goals as goal

pub sub-requires : goal.sub-requires
sub-requires c = width_fits c.args.size c.args.numbers c.requires.size.most c.requires.placed

pub word-requires-clause-high : goal.word-requires-clause-high
word-requires-clause-high c = rw c.sub.ensures (width_most c.args.size c.args.numbers c.requires.size.most c.requires.placed)

pub word-requires-2-clause-high : goal.word-requires-2-clause-high
word-requires-2-clause-high c = step_most c.args.size c.args.numbers c.requires.size.most c.requires.placed

pub invariant_of-result : goal.invariant_of-result
invariant_of-result c = subst IsStride
    (sym (kept_is c.args.size c.args.numbers _ c.word.result c.word-2.result
    (low_is c.args.size c.args.numbers c.number.result c.requires.size.least c.requires.size.most c.requires.placed c.number.ensures)
    (c.word.ensures ∙ c.sub.ensures) c.word-2.ensures))
    (record { size = c.requires.size; placed = c.requires.placed })

pub returns : goal.returns
returns c = kept_is c.args.size c.args.numbers _ c.word.result c.word-2.result
    (low_is c.args.size c.args.numbers c.number.result c.requires.size.least c.requires.size.most c.requires.placed c.number.ensures)
    (c.word.ensures ∙ c.sub.ensures) c.word-2.ensures
