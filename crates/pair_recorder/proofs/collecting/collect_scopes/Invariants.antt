-- What the loop over the scopes keeps.
use Rattle.std.proofs.Common.{◌≡◌, ◌<◌, ◌*◌, ◌==◌, ◌||◌, ℕ, take}
use Rattle.std.specs.List.{list_any}
use Rattle.recorder_rules.specs.BitWords.{is_marked}
use Rattle.pair_recorder.specs.Paths.{paired_in}
use Rattle.pair_recorder.proofs.collecting.collect_scopes.Given as goal

abbrev pub invariant-loop-scope : goal.invariant-loop-scope
invariant-loop-scope l = (a b : ℕ) → a < l.count → b < l.count → is_marked l.rows (a * l.width) b ≡ (is_marked l.fn.rows (a * l.width) b || list_any (λ s. paired_in (λ t. t == s) a b l.entries) (take l.scope-index l.scopes))
