use Rattle.std.proofs.Common.{◌≡◌, ◌∷◌, subst}
use Rattle.pointer_rules.specs.AbstractValues.{ArePlaces, with_places}
use Rattle.pointer_rules.specs.ValueLaws.{with_place_are}
use Rattle.pointer_domain.proofs.places.put_all.Goals as goal

pub loop-first-preserved : goal.loop-first-preserved
loop-first-preserved c =
    let cons : c.loop-first.rest.now ≡ c.in-Some.first.now ∷ c.in-Some.further.now = c.in-Some.ensures.cases.0 in
    let are : ArePlaces (c.in-Some.first.now ∷ c.in-Some.further.now) = subst ArePlaces cons c.loop-first.invariant.2 in
    let same = subst (λ rest. with_places c.loop-first.places.items rest ≡ with_places c.args.places.now.items c.args.others.now) cons c.loop-first.invariant.0 in
    rw c.in_ok-put.ensures (same, with_place_are c.loop-first.places.items c.in-Some.first.now c.loop-first.invariant.1 are.0, are.1)
