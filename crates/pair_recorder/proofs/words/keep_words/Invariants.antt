-- What the loop over the words keeps.
use Rattle.std.proofs.Common.{◌+◌, bit_and, get_or}
use Rattle.recorder_rules.specs.BitWords.{AreInRange}
use Rattle.pair_recorder.proofs.words.keep_words.Given as goal

abbrev pub invariant-loop-j : goal.invariant-loop-j
invariant-loop-j l = AreInRange 0 l.j (λ i. bit_and (get_or l.fn.into i 0) (get_or l.from (l.start + i) 0)) l.fn.into l.into
