use Rattle.std.proofs.Common.{◌≡◌, ◌∷◌, ◌++◌, map, List, subst}
use Rattle.pointer_rules.specs.Choices.{each_after}
use Rattle.pointer_domain.specs.declared.part.Part.{Part}
use Rattle.pointer_domain.specs.Parts.{alternative_of, parts_of}
use Rattle.pointer_domain.proofs.PartLists.{more_after}
use Rattle.pointer_domain.proofs.choices.each_after.Goals as goal

pub loop-others-preserved : goal.loop-others-preserved
loop-others-preserved c =
    let is : parts_of c.in_ok-chosen.chosen ≡ alternative_of c.args.first.now ∷ parts_of c.in-Some.others.now =
    subst (λ (xs : List Part). parts_of c.in_ok-chosen.chosen ≡ alternative_of c.args.first.now ∷ map alternative_of xs) c.deref.ensures.value c.in_ok-chosen.ensures in
    rw c.in_ok-push.ensures.items
    (more_after c.loop-others.all.items c.args.first.now c.in_ok-chosen.chosen c.in-Some.others.now c.loop-others.rest.now c.in-Some.further.now
    (map parts_of c.args.all.now.items ++ each_after (alternative_of c.args.first.now) (map parts_of c.args.choices.now)) c.in-Some.ensures.cases.0 is c.loop-others.invariant)
