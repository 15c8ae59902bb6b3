-- The names so far.
use Rattle.std.proofs.Common.{◌≡◌, map, take, slice_index_or}
use Rattle.c_rules.specs.Names.{text_at}
use Rattle.c_check.proofs.ranks.names_along.Given as goal

abbrev pub invariant-loop-number : goal.invariant-loop-number
invariant-loop-number l = l.names.items ≡ map (λ n. text_at l.functions.words (slice_index_or l.functions.names n 0)) (take l.number-index l.path)
