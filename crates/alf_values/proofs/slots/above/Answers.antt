-- What is left to show of `above`: the word is below 2 to its bits, which are 64 at most.
use Rattle.std.proofs.Common.{◌+◌, ◌*◌, ◌^◌, ◌<◌, ◌≤◌, arith}
use Rattle.alf_ops.specs.WordByteLaws.{wider, within_word}
use Rattle.alf_values.proofs.slots.above.Goals as goal

pub returns-clause-small : goal.returns-clause-small
returns-clause-small c = wider c.args.word c.args.count c.args.low c.requires.some c.requires.small c.ranges.low.fits

pub overflow_add-result : goal.overflow_add-result
overflow_add-result c =
    let small : c.args.word * 256 + c.args.low < 2 ^ (8 * c.args.count) = wider c.args.word c.args.count c.args.low c.requires.some c.requires.small c.ranges.low.fits in
    let most : 2 ^ (8 * c.args.count) ≤ 2 ^ 64 = within_word c.args.count c.requires.few in
    omega arith

pub overflow_mul-result : goal.overflow_mul-result
overflow_mul-result c =
    let small : c.args.word * 256 + c.args.low < 2 ^ (8 * c.args.count) = wider c.args.word c.args.count c.args.low c.requires.some c.requires.small c.ranges.low.fits in
    let most : 2 ^ (8 * c.args.count) ≤ 2 ^ 64 = within_word c.args.count c.requires.few in
    omega arith
