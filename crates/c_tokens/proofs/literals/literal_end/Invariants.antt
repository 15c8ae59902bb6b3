use Rattle.std.proofs.Common.{length}
use Rattle.c_tokens.specs.Ends.{closes_literal, goes_on_in_literal, literal_end, end_of}
use Rattle.c_tokens.proofs.Passing.{EndPassed}
use Rattle.c_tokens.proofs.literals.literal_end.Given as goal

abbrev pub invariant-loop-byte : goal.invariant-loop-byte
invariant-loop-byte l = EndPassed l.len l.bytes l.rest (end_of (closes_literal l.quote) (goes_on_in_literal l.quote) l.inside l.rest) (literal_end l.quote l.bytes)

abbrev pub decreases-loop-byte : goal.decreases-loop-byte
decreases-loop-byte l = length l.rest
