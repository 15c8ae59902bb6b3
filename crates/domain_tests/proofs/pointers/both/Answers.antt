use Rattle.pointer_rules.specs.AbstractValues.{AreAlike}
use Rattle.pointer_rules.specs.ValueLaws.{joined_size}
use Rattle.domain_tests.proofs.pointers.both.Goals as goal

pub join-requires : goal.join-requires
join-requires c = record { size = c.args.size; first = (c.at-places.ensures.kept, c.requires.a); second = (c.at-others.ensures.kept, c.requires.b) }

pub returns : goal.returns
returns c =
    let alike : AreAlike c.args.a.now c.args.b.now = record { size = c.args.size; first = (c.at-places.ensures.kept, c.requires.a); second = (c.at-others.ensures.kept, c.requires.b) } in
    rw c.in_ok-value.ensures (joined_size c.args.a.now c.args.b.now alike)
