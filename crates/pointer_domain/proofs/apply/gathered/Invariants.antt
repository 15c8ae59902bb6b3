use Rattle.std.proofs.Common.{map, length}
use Rattle.pointer_rules.specs.Choices.{at_choice, gathered, nothing}
use Rattle.pointer_domain.specs.Parts.{parts_of, outcome_of}
use Rattle.pointer_domain.proofs.PartLists.{Gathers}
use Rattle.pointer_domain.proofs.apply.gathered.Given as goal

abbrev pub invariant-loop-first : goal.invariant-loop-first
invariant-loop-first l = Gathers l.fn.op l.fn.sizes (outcome_of l.so_far) (map parts_of l.rest) (gathered nothing (map (at_choice l.fn.op l.fn.sizes) (map parts_of l.fn.all)))

abbrev pub decreases-loop-first : goal.decreases-loop-first
decreases-loop-first l = length l.rest
