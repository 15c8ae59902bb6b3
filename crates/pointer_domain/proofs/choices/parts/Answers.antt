use Rattle.pointer_rules.specs.AbstractValues.{alternatives}
use Rattle.pointer_domain.proofs.PartLists.{more_parts}
use Rattle.pointer_domain.proofs.choices.parts.Goals as goal

pub loop-first-preserved : goal.loop-first-preserved
loop-first-preserved c = rw c.in_ok-push.ensures.items
    (more_parts c.loop-first.parts.items c.loop-first.rest.now c.in-Some.further.now c.in-Some.first.now (alternatives c.args.value.now) c.in-Some.ensures.cases.0 c.loop-first.invariant)
