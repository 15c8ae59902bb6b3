use Rattle.alf_tokens.proofs.Closing.{CloseSoFar}
use Rattle.alf_tokens.proofs.lexer.to_close.Given as goal

abbrev pub invariant-loop-i : goal.invariant-loop-i
invariant-loop-i l = CloseSoFar l.i l.bytes
