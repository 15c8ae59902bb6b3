-- What the loop over the nodes keeps.
use Rattle.std.proofs.Common.{◌≡◌, ◌*◌, ◌<◌, ℕ, length}
use Rattle.domain_core.specs.Outlines.{shape_of}
use Rattle.recorder_rules.specs.BitWords.{is_marked}
use Rattle.recorder_rules.specs.StepBits.{owned_before}
use Rattle.pair_recorder.proofs.tables.owned_bits.Given as goal

abbrev pub invariant-loop-node : goal.invariant-loop-node
invariant-loop-node l = (length l.owned.items ≡ length l.outline.scopes * l.width) × ((t a : ℕ) → t < length l.outline.scopes → a < length l.outline.nodes → is_marked l.owned.items (t * l.width) a ≡ owned_before (shape_of l.outline) l.node t a)
