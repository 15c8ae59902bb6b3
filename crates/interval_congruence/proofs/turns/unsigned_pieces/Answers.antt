use Rattle.std.proofs.Common.{sym, refl}
use Rattle.interval_congruence.proofs.LonePieces.{unsigned_turn}
use Rattle.interval_congruence.proofs.turns.unsigned_pieces.Goals as goal

pub returns-then-are_words : goal.returns-then-are_words
returns-then-are_words c = sym (unsigned_turn c.args.size c.args.numbers.now c.requires.placed.progression.order (c.if-are_words.ensures.low refl) (c.if-are_words.ensures.high refl))
