-- White space is passed over.
use Rattle.std.proofs.Common.{◌≡◌, length}
use Rattle.c_tokens.specs.Ahead.{ahead}
use Rattle.c_tokens.proofs.cursor.Cursor.next.Given as goal

abbrev pub invariant-loop-self : goal.invariant-loop-self
invariant-loop-self l = ahead l.self ≡ ahead l.fn.self

abbrev pub decreases-loop-self : goal.decreases-loop-self
decreases-loop-self l = length l.self.rest.now
