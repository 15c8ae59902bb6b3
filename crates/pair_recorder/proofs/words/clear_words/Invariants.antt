-- What the loop over the words keeps.
use Rattle.recorder_rules.specs.BitWords.{AreInRange}
use Rattle.pair_recorder.proofs.words.clear_words.Given as goal

abbrev pub invariant-loop-j : goal.invariant-loop-j
invariant-loop-j l = AreInRange l.at l.j (λ i. 0) l.fn.words l.words
