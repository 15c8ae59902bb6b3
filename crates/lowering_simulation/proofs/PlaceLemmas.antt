-- Laws of places.
--   leads                    so what stands after a label that stands is known
use Rattle.std.proofs.Common.{◌≡◌, ◌≤◌, ℕ, List, [], ◌∷◌, ◌++◌, true, bytes_eq, refl, sym, ap, subst, arith}
use Rattle.lists.specs.TestLaws.{by_test}
use Rattle.alf_program.specs.Tree.{BodyItem, Label, Do}
use Rattle.item_runs.specs.Stretches.{items_after}
use Rattle.lowering_simulation.specs.Counts.{one, count}
use Rattle.lowering_simulation.proofs.DistinctLemmas.{same_text}
use Rattle.lowering_simulation.specs.Places.{Stands}

-- ---- labels lead

some_there : (name : List ℕ) (before items : List BodyItem) → 1 ≤ count name (before ++ Label name ∷ items)
some_there name [] items = let same : bytes_eq name name ≡ true = same_text name in rw same (omega arith)
some_there name (Label l ∷ before) items = omega (arith, some_there name before items)
some_there name (Do act ∷ before) items = some_there name before items

after_there : (name : List ℕ) (before items : List BodyItem) → count name (before ++ Label name ∷ items) ≤ 1
    → items_after name (before ++ Label name ∷ items) ≡ items
after_there name [] items once = rw (same_text name) refl
after_there name (Label l ∷ before) items once =
    by_test (bytes_eq l name)
    (λ t. absurd (let e : one (bytes_eq l name) ≡ 1 = ap one t in omega (arith, e, some_there name before items)))
    (λ t. let e : one (bytes_eq l name) ≡ 0 = ap one t in rw t (after_there name before items (omega arith)))
after_there name (Do act ∷ before) items once = after_there name before items once

-- a label that stands at most once leads to what is after it
pub leads : (all items : List BodyItem) (name : List ℕ) → count name all ≤ 1 → Stands all (Label name ∷ items)
    → items_after name all ≡ items
leads all items name once s =
    subst (λ (is : List BodyItem). items_after name is ≡ items) s.so
    (after_there name s.before items (subst (λ (is : List BodyItem). count name is ≤ 1) (sym s.so) once))
