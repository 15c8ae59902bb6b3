-- What the loop over the scopes keeps.
use Rattle.std.proofs.Common.{◌≡◌, ◌*◌, ◌<◌, ℕ, length, drop}
use Rattle.recorder_rules.specs.BitWords.{is_marked}
use Rattle.recorder_rules.specs.EndedNodes.{after_each}
use Rattle.pair_recorder.proofs.ending.add_all_owned.Given as goal

abbrev pub invariant-loop-scope : goal.invariant-loop-scope
invariant-loop-scope l = (b : ℕ) → b < 64 * length l.fn.marks
    → after_each (λ s. is_marked l.owned (s * length l.fn.marks) b) (is_marked l.marks 0 b) (drop l.scope-index l.scopes)
    ≡ after_each (λ s. is_marked l.owned (s * length l.fn.marks) b) (is_marked l.fn.marks 0 b) l.scopes
