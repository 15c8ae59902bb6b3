-- What was passed over, and the word of the rest, are the word.
use Rattle.std.proofs.Common.{◌≡◌, ◌+◌, ◌-◌, ◌≤◌, false, length}
use Rattle.fact_words.specs.Tokens.{word_len}
use Rattle.fact_words.proofs.word_length.word_len.Given as goal

abbrev pub invariant-loop-byte : goal.invariant-loop-byte
invariant-loop-byte l = (length l.rest ≤ length l.bytes) × (length l.bytes - length l.rest + word_len l.quoted l.rest ≡ word_len false l.bytes)

abbrev pub decreases-loop-byte : goal.decreases-loop-byte
decreases-loop-byte l = length l.rest
