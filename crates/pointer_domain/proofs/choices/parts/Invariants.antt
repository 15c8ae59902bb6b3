use Rattle.std.proofs.Common.{◌≡◌, ◌++◌, map, length}
use Rattle.pointer_rules.specs.AbstractValues.{place_of, alternatives}
use Rattle.pointer_domain.specs.Parts.{alternative_of}
use Rattle.pointer_domain.proofs.choices.parts.Given as goal

abbrev pub invariant-loop-first : goal.invariant-loop-first
invariant-loop-first l = map alternative_of l.parts.items ++ map place_of l.rest ≡ alternatives l.fn.value

abbrev pub decreases-loop-first : goal.decreases-loop-first
decreases-loop-first l = length l.rest
