-- What is left to show of `bits_joined`.
use Rattle.std.proofs.Common.{take, drop}
use Rattle.recorder_rules.specs.BitWords.{words_for}
use Rattle.recorder_rules.specs.PairBitLaws.{joined}
use Rattle.pair_recorder.proofs.Parted.{front_either, back_either}
use Rattle.pair_recorder.proofs.bits.bits_joined.Goals as goal

pub returns-clause-bits : goal.returns-clause-bits
returns-clause-bits c =
    let w = words_for c.args.count in
    let one = c.args.first.now in
    let other = c.args.second.now in
    let new = c.in_ok-bits.bits.items in
    joined c.args.count (take w one) (drop w one) (take w other) (drop w other) (take w new) (drop w new)
    (front_either w new one other c.in_ok-bits.ensures.bits) (back_either w new one other c.in_ok-bits.ensures.bits)
