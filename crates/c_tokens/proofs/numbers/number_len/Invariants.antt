use Rattle.std.proofs.Common.{◌≡◌, ◌+◌, length, false}
use Rattle.c_tokens.specs.Numbers.{number_len}
use Rattle.c_tokens.proofs.numbers.number_len.Given as goal

abbrev pub invariant-loop-byte : goal.invariant-loop-byte
invariant-loop-byte l = record { same : l.len + number_len l.exponent l.rest ≡ number_len false l.bytes; counts : l.len + length l.rest ≡ length l.bytes }

abbrev pub decreases-loop-byte : goal.decreases-loop-byte
decreases-loop-byte l = length l.rest
