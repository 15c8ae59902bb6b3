-- All may stand in a name where all of the rest may.
use Rattle.std.proofs.Common.{◌≡◌, length}
use Rattle.std.specs.List.{list_all}
use Rattle.fact_words.specs.Names.{is_name_byte}
use Rattle.fact_words.proofs.names.all_name_bytes.Given as goal

abbrev pub invariant-loop-byte : goal.invariant-loop-byte
invariant-loop-byte l = list_all is_name_byte l.rest ≡ list_all is_name_byte l.part

abbrev pub decreases-loop-byte : goal.decreases-loop-byte
decreases-loop-byte l = length l.rest
