-- What code makes of a step.
--   own_made, turn_made     memories of the program are those made of what they stand for, and so are the points of a step
--   turn_on                 what it makes of what is left, after the faults before
use Rattle.std.specs.Prelude.{All}
use Rattle.std.proofs.Common.{◌≡◌, ℕ, List, [], ◌∷◌, map, Some, refl, sym, ap, subst, ◌∙◌}
use Rattle.std.proofs.lemmas.List.Elements.{All-head, All-tail}
use Rattle.alf_check.specs.CheckedPrograms.{CheckedParts}
use Rattle.domain_core.specs.declared.fault_set.FaultSet.{FaultSet}
use Rattle.domain_core.specs.FaultSets.{either}
use Rattle.memory_model.specs.KeptMemories.{MemoryParts, memory_in}
use Rattle.memory_model.specs.Made.{made}
use Rattle.memory_model.specs.KeptMemoryLaws.{parts_are}
use Rattle.transfer_rules.specs.Remains.{Remains, goes_on}
use Rattle.transfer_rules.specs.Stepping.{Goals, goals_left}
use Rattle.transfer_rules.specs.Machines.{numbered_goal}
use Rattle.transfer_rules.specs.MadeMachines.{made_at}
use Rattle.transfer_rules.specs.PartMachines.{IsOwn}
use Rattle.abstract_step.specs.Standing.{HereParts}
use Rattle.abstract_step.specs.Turns.{seen_point, IsTurn}

-- memories of the program are those made of what they stand for
pub own_made : (checked : CheckedParts) (parts : MemoryParts) → IsOwn checked parts
    → parts ≡ made checked (memory_in parts)
own_made checked parts own = sym (parts_are parts own.is) ∙ ap (λ (c : CheckedParts). made c (memory_in parts)) own.checked

points_made : (checked : CheckedParts) (points : List (ℕ × MemoryParts))
    → All (λ (point : ℕ × MemoryParts). IsOwn checked point.1) points
    → points ≡ map (made_at (made checked)) (map seen_point points)
points_made checked [] own = refl
points_made checked (point ∷ points) own =
    let first = own_made checked point.1 (All-head (λ (p : ℕ × MemoryParts). IsOwn checked p.1) point points own) in
    let rest = points_made checked points (All-tail (λ (p : ℕ × MemoryParts). IsOwn checked p.1) point points own) in
    ap (λ (parts : MemoryParts). (point.0, parts) ∷ points) first ∙ ap (λ (ps : List (ℕ × MemoryParts)). (point.0, made checked (memory_in point.1)) ∷ ps) rest

-- and so are the points of a step
pub turn_made : (here : HereParts) (next : List (ℕ × MemoryParts)) (faults : FaultSet) (r : Remains Goals)
    → IsTurn here next faults r
    → next ≡ map (made_at (made here.checked)) (map (numbered_goal here.graph) (goals_left r.left))
turn_made here next faults r is = points_made here.checked next is.own ∙ ap (map (made_at (made here.checked))) is.goals

-- what it makes of what is left
pub turn_on : (A : Type 0) (here : HereParts) (next : List (ℕ × MemoryParts)) (faults before own : FaultSet) (a : A) (r : Remains A) (further : A → Remains Goals) → record { left = Some a; faults = before } ≡ r
    → faults ≡ either before own → IsTurn here next own (further a) → IsTurn here next faults (goes_on r further)
turn_on A here next faults before own a r further same union is = subst (λ (s : Remains A). IsTurn here next faults (goes_on s further)) same (record {
  goals = is.goals;
  same = union ∙ ap (either before) is.same;
  own = is.own;
})
