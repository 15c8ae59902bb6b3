-- The ranges so far, with those to come, are all.
use Rattle.std.proofs.Common.{◌≡◌, ◌++◌, map, drop}
use Rattle.c_reader.specs.Reading.{span_of}
use Rattle.c_reader.proofs.tokens.spans.Given as goal

abbrev pub invariant-loop-token : goal.invariant-loop-token
invariant-loop-token l = l.spans.items ++ map span_of (drop l.token-index l.tokens) ≡ map span_of l.tokens
