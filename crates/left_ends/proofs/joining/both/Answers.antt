use Rattle.std.proofs.Common.{Option, Some, sym, subst}
use Rattle.memory_model.specs.KeptMemories.{MemoryParts}
use Rattle.left_ends.specs.Seen.{AreEnds, IsOfRoot, StandsForAll}
use Rattle.left_ends.proofs.Joined.{alike_roots, joined_root, joined_first, joined_second}
use Rattle.left_ends.proofs.joining.both.Goals as goal

pub join-requires : goal.join-requires
join-requires c =
    let checked = c.requires.checked in
    alike_roots checked c.in-Some-Some.first c.in-Some-Some.second
    (subst (AreEnds checked) c.in-Some-Some.is-0 c.requires.one) (subst (AreEnds checked) c.in-Some-Some.is-1 c.requires.other)

pub returns-in_ok-all-in-Some-Some-clause-are : goal.returns-in_ok-all-in-Some-Some-clause-are
returns-in_ok-all-in-Some-Some-clause-are c = λ checked one other.
    subst (IsOfRoot checked) (sym c.in_ok-all-in-Some-Some.ensures)
    (joined_root checked c.in-Some-Some.first c.in-Some-Some.second
    (subst (AreEnds checked) c.in-Some-Some.is-0 one) (subst (AreEnds checked) c.in-Some-Some.is-1 other))

pub returns-in_ok-all-in-Some-Some-clause-first : goal.returns-in_ok-all-in-Some-Some-clause-first
returns-in_ok-all-in-Some-Some-clause-first c =
    let checked = c.requires.checked in
    let alike = alike_roots checked c.in-Some-Some.first c.in-Some-Some.second
    (subst (AreEnds checked) c.in-Some-Some.is-0 c.requires.one) (subst (AreEnds checked) c.in-Some-Some.is-1 c.requires.other) in
    subst (λ (e : Option MemoryParts). StandsForAll e (Some c.in_ok-all-in-Some-Some.all)) (sym c.in-Some-Some.is-0)
    (subst (λ (m : MemoryParts). StandsForAll (Some c.in-Some-Some.first) (Some m)) (sym c.in_ok-all-in-Some-Some.ensures)
    (joined_first c.in-Some-Some.first c.in-Some-Some.second alike))

pub returns-in_ok-all-in-Some-Some-clause-second : goal.returns-in_ok-all-in-Some-Some-clause-second
returns-in_ok-all-in-Some-Some-clause-second c =
    let checked = c.requires.checked in
    let alike = alike_roots checked c.in-Some-Some.first c.in-Some-Some.second
    (subst (AreEnds checked) c.in-Some-Some.is-0 c.requires.one) (subst (AreEnds checked) c.in-Some-Some.is-1 c.requires.other) in
    subst (λ (e : Option MemoryParts). StandsForAll e (Some c.in_ok-all-in-Some-Some.all)) (sym c.in-Some-Some.is-1)
    (subst (λ (m : MemoryParts). StandsForAll (Some c.in-Some-Some.second) (Some m)) (sym c.in_ok-all-in-Some-Some.ensures)
    (joined_second c.in-Some-Some.first c.in-Some-Some.second alike))
