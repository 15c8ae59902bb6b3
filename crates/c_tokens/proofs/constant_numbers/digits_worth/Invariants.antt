use Rattle.std.proofs.Common.{length}
use Rattle.c_tokens.specs.Worth.{number_from, judge}
use Rattle.c_tokens.proofs.Large.{IsWorth}
use Rattle.c_tokens.proofs.constant_numbers.digits_worth.Given as goal

abbrev pub invariant-loop-byte : goal.invariant-loop-byte
invariant-loop-byte l = IsWorth l.base l.some l.number l.rest (judge l.fn.base (number_from l.fn.base l.fn.some 0 l.text))

abbrev pub decreases-loop-byte : goal.decreases-loop-byte
decreases-loop-byte l = length l.rest
