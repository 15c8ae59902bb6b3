use Rattle.std.proofs.Common.{◌≡◌, ◌++◌, map, length}
use Rattle.pointer_rules.specs.Choices.{each_first}
use Rattle.pointer_domain.specs.Parts.{alternative_of, parts_of}
use Rattle.pointer_domain.proofs.choices.each_first.Given as goal

abbrev pub invariant-loop-first : goal.invariant-loop-first
invariant-loop-first l = map parts_of l.all.items ++ each_first (map alternative_of l.rest) (map parts_of l.fn.choices)
    ≡ each_first (map alternative_of l.fn.firsts) (map parts_of l.fn.choices)

abbrev pub decreases-loop-first : goal.decreases-loop-first
decreases-loop-first l = length l.rest
