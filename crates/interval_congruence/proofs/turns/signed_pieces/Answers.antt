use Rattle.std.proofs.Common.{sym, arith}
use Rattle.std.proofs.lemmas.Int.{ints}
use Rattle.interval_congruence.proofs.LonePieces.{signed_turn}
use Rattle.interval_congruence.proofs.turns.signed_pieces.Goals as goal

pub returns-then-below : goal.returns-then-below
returns-then-below c = sym (signed_turn c.args.size c.args.numbers.now c.requires.placed.progression.order (omega (arith, ints, c.if-below.ensures, c.power.ensures.value)))
