use Rattle.std.proofs.Common.{◌≡◌, ◌++◌, take}
use Rattle.std.specs.List.{flat_map}
use Rattle.domain_core.specs.Outlines.{shape_of}
use Rattle.dual_check.specs.Constraints.{group_of}
use Rattle.dual_check.proofs.group.push_group.Given as goal

abbrev pub invariant-loop-fact : goal.invariant-loop-fact
invariant-loop-fact l = l.out.items ≡ l.initial.out.items ++ flat_map (λ f. group_of (shape_of l.outline) l.group f) (take l.fact-index l.facts)
