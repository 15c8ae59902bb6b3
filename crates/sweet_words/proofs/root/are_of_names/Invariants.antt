use Rattle.std.proofs.Common.{◌≡◌, true, take}
use Rattle.sweet_words.specs.Roots.{is_name_byte}
use Rattle.std.specs.List.{list_all}
use Rattle.sweet_words.proofs.root.are_of_names.Given as goal

abbrev pub invariant-loop-byte : goal.invariant-loop-byte
invariant-loop-byte l = list_all is_name_byte (take l.byte-index l.bytes) ≡ true
