-- The tokens so far, with those to come, are all.
use Rattle.std.proofs.Common.{length}
use Rattle.c_tokens.specs.Ahead.{ahead}
use Rattle.c_reader.proofs.Numbered.{Cut}
use Rattle.c_reader.proofs.tokens.cut.Given as goal

abbrev pub invariant-loop-token : goal.invariant-loop-token
invariant-loop-token l = Cut l.text l.tokens.items l.number (ahead l.cursor)

abbrev pub decreases-loop-token : goal.decreases-loop-token
decreases-loop-token l = length (ahead l.cursor)
