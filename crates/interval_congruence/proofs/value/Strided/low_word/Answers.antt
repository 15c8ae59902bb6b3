use Rattle.std.proofs.Common.{subst, sym}
use Rattle.strided_rules.specs.Strides.{IsStride}
use Rattle.strided_rules.specs.PlacedLaws.{one_placed}
use Rattle.interval_congruence.proofs.LoneWords.{low_fits, low_value}
use Rattle.interval_congruence.proofs.value.Strided.low_word.Goals as goal

pub invariant_of-result : goal.invariant_of-result
invariant_of-result c =
    let size = c.requires.size in
    let same = low_fits c.args.size c.args.bits size.least size.most c.requires.low in
    subst IsStride (sym (low_value c.args.size c.args.bits _ size.least c.requires.low same)) (one_placed c.args.size c.args.bits size)

pub returns : goal.returns
returns c =
    let size = c.requires.size in
    let same = low_fits c.args.size c.args.bits size.least size.most c.requires.low in
    low_value c.args.size c.args.bits _ size.least c.requires.low same
