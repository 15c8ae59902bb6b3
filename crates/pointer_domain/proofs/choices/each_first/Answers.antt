use Rattle.std.proofs.Common.{map}
use Rattle.pointer_rules.specs.Choices.{each_first}
use Rattle.pointer_domain.specs.Parts.{alternative_of, parts_of}
use Rattle.pointer_domain.proofs.PartLists.{more_first}
use Rattle.pointer_domain.proofs.choices.each_first.Goals as goal

pub loop-first-preserved : goal.loop-first-preserved
loop-first-preserved c = rw c.in_ok-each_after.ensures
    (more_first (map parts_of c.loop-first.all.items) (map parts_of c.args.choices.now) c.loop-first.rest.now c.in-Some.further.now c.in-Some.first.now
    (each_first (map alternative_of c.args.firsts.now) (map parts_of c.args.choices.now)) c.in-Some.ensures.cases.0 c.loop-first.invariant)
