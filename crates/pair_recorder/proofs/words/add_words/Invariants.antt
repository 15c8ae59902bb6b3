-- What the loop over the words keeps.
use Rattle.std.proofs.Common.{◌+◌, ◌-◌, bit_or, get_or}
use Rattle.recorder_rules.specs.BitWords.{AreInRange}
use Rattle.pair_recorder.proofs.words.add_words.Given as goal

abbrev pub invariant-loop-j : goal.invariant-loop-j
invariant-loop-j l = AreInRange l.at l.j (λ i. bit_or (get_or l.fn.into i 0) (get_or l.from (l.start + (i - l.at)) 0)) l.fn.into l.into
