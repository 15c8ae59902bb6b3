use Rattle.std.proofs.Common.{◌≡◌, ◌++◌, map, length}
use Rattle.pointer_rules.specs.Choices.{each_after}
use Rattle.pointer_domain.specs.Parts.{alternative_of, parts_of}
use Rattle.pointer_domain.proofs.choices.each_after.Given as goal

abbrev pub invariant-loop-others : goal.invariant-loop-others
invariant-loop-others l = map parts_of l.all.items ++ each_after (alternative_of l.fn.first) (map parts_of l.rest)
    ≡ map parts_of l.fn.all.items ++ each_after (alternative_of l.fn.first) (map parts_of l.fn.choices)

abbrev pub decreases-loop-others : goal.decreases-loop-others
decreases-loop-others l = length l.rest
