-- Each event of an exploration leaves less to do.
--   merged_fewer  a merge leaves one place less
--   left_to_do    how much there is left to do in so many turns
--   turn_less     each event leaves less
--   turn_steps    and not more steps than turns
use Rattle.std.proofs.Common.{◌≡◌, ◌<◌, ◌≤◌, ◌+◌, ◌-◌, ◌*◌, ◌^◌, ℕ, List, length, Some, slice_get, slice_set, ap, ◌∙◌, arith, length-set}
use Rattle.std.specs.List.{remove}
use Rattle.std.proofs.lemmas.List.Edits.{length-remove}
use Rattle.std.proofs.lemmas.Option.{slice_get_within}
use Rattle.domain_core.specs.declared.event.Event.{Event}
use Rattle.domain_core.specs.declared.event.Event.TheVariants.{Step, Merge}
use Rattle.domain_core.specs.Orders.{Order}
use Rattle.domain_core.specs.Machines.{Machine}
use Rattle.domain_core.specs.Recordings.{Recording}
use Rattle.worklist_rules.specs.Pools.{Pooled}
use Rattle.worklist_rules.specs.Events.{Happens, met}

-- a merge leaves one place less
pub merged_fewer : {X : Type 0} (xs : List X) (i j : ℕ) (x y : X) → slice_get xs j ≡ Some y
    → length (remove (slice_set xs i x) j) + 1 ≡ length xs
merged_fewer xs i j x y at =
    let low = slice_get_within xs j y at in
    let same = length-set xs i x in
    length-remove (slice_set xs i x) j (omega arith) ∙ same

module _ {S T C R B : Type 0} (machine : S → Machine T C) (states : Order T) (recorders : Order R) (z : Recording R B) where
  -- how much there is left to do
  abbrev pub left_to_do : ℕ → Pooled S T R B → ℕ
  left_to_do turns w = (turns - w.steps) * 2 ^ 32 + length w.spots

  -- each event leaves less
  pub turn_less : (turns : ℕ) (old new : Pooled S T R B) (event : Event)
      → Happens machine states recorders z old event new → length new.spots < 2 ^ 32 → old.steps < turns
      → left_to_do turns new < left_to_do turns old
  turn_less turns old new (Step i) (spot, found, is) few low =
      let e : new.steps ≡ old.steps + 1 = ap (λ (w : Pooled S T R B). w.steps) is in
      omega arith
  turn_less turns old new (Merge i j) (a, b, before, first, second, same, is) few low =
      let e : new.steps ≡ old.steps = ap (λ (w : Pooled S T R B). w.steps) is in
      let less = merged_fewer old.spots i j (met states recorders a b) b second in
      let f : length new.spots ≡ length (remove (slice_set old.spots i (met states recorders a b)) j) = ap (λ (w : Pooled S T R B). length w.spots) is in
      omega arith

  -- and not more steps than turns
  pub turn_steps : (turns : ℕ) (old new : Pooled S T R B) (event : Event)
      → Happens machine states recorders z old event new → old.steps < turns → new.steps ≤ turns
  turn_steps turns old new (Step i) (spot, found, is) low =
      let e : new.steps ≡ old.steps + 1 = ap (λ (w : Pooled S T R B). w.steps) is in
      omega arith
  turn_steps turns old new (Merge i j) (a, b, before, first, second, same, is) low =
      let e : new.steps ≡ old.steps = ap (λ (w : Pooled S T R B). w.steps) is in
      omega arith
