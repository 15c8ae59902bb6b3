use Rattle.std.proofs.Common.{length}
use Rattle.c_tokens.specs.Ends.{closes_comment, goes_on_in_comment, comment_end, end_of}
use Rattle.c_tokens.proofs.Passing.{EndPassed}
use Rattle.c_tokens.proofs.comments.comment_end.Given as goal

abbrev pub invariant-loop-byte : goal.invariant-loop-byte
invariant-loop-byte l = EndPassed l.len l.bytes l.rest (end_of closes_comment goes_on_in_comment l.star l.rest) (comment_end l.bytes)

abbrev pub decreases-loop-byte : goal.decreases-loop-byte
decreases-loop-byte l = length l.rest
