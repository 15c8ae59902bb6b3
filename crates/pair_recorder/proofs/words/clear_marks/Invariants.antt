-- What the loop over the words keeps.
use Rattle.std.proofs.Common.{bit_and, get_or}
use Rattle.std.specs.Int.{bit_not, w64}
use Rattle.recorder_rules.specs.BitWords.{AreInRange}
use Rattle.pair_recorder.proofs.words.clear_marks.Given as goal

abbrev pub invariant-loop-j : goal.invariant-loop-j
invariant-loop-j l = AreInRange 0 l.j (λ i. bit_and (get_or l.fn.words i 0) (bit_not w64 (get_or l.marks i 0))) l.fn.words l.words
