-- Laws of inside.
--   outside                           past the end of its frame a byte comes from no store
--   store_inside, by_stores_inside    a store without a fault lies inside, and so do such stores in a row
use Rattle.std.specs.Prelude.{◌==◌, nat_le, nat_lt, slice_get}
use Rattle.std.proofs.Common.{◌≡◌, ℕ, true, false, List, [], ◌∷◌, Option, Some, None, Ok, Err, ◌<◌, ◌≤◌, ◌+◌, ◌*◌, ◌/◌, refl, sym, ap, subst, ◌∙◌, arith}
use Rattle.std.proofs.lemmas.Bool.{eqb-true, leb-true, ltb-true, and_parts}
use Rattle.lists.specs.TestLaws.{by_test}
use Rattle.alf_ops.specs.declared.history.Value.{Value}
use Rattle.alf_ops.specs.declared.history.Value.TheVariants.{Int, Ptr}
use Rattle.alf_ops.specs.declared.history.RunFault.TheVariants.{Dead, Bounds}
use Rattle.alf_ops.specs.declared.history.FrameShape.{FrameShape}
use Rattle.alf_ops.specs.declared.history.RunEvent.{RunEvent}
use Rattle.alf_ops.specs.declared.history.RunEvent.TheVariants.{Enter, Leave, Store}
use Rattle.alf_ops.specs.Values.{size_of}
use Rattle.alf_ops.specs.Histories.{is_byte_of, is_owner, is_active, origin, fits_in, address_in, stored, store}
use Rattle.alf_runs.specs.StoreLaws.{ByStores, unchanged, first_store}
use Rattle.transfer_rules.specs.Inside.{IsStoreInside, IsInside}

-- ---- what lies past the end of a frame

past_cell : (bits offset size byte : ℕ) → fits_in bits offset size ≡ true → bits / 8 ≤ byte
    → is_byte_of offset size byte ≡ false
past_cell bits offset size byte fits past = by_test (is_byte_of offset size byte)
    (λ e.
    let parts = and_parts (nat_le offset byte) (nat_lt byte (offset + size / 8)) e in
    let low : byte < offset + size / 8 = ltb-true byte (offset + size / 8) parts.1 in
    let room : offset * 8 + size ≤ bits = leb-true (offset * 8 + size) bits fits in
    absurd (omega (arith, low, room, past)))
    (λ e. e)

pub outside : (rows : List FrameShape) (row : FrameShape) (frame byte : ℕ) (history : List RunEvent)
    → slice_get rows frame ≡ Some row → row.bits / 8 ≤ byte → IsInside rows history
    → origin row.owner frame history byte ≡ None
outside rows row frame byte [] found past inside = refl
outside rows row frame byte (Enter function ∷ history) found past inside = by_test (is_owner row.owner function)
    (λ e. rw e refl)
    (λ e. rw e (outside rows row frame byte history found past inside))
outside rows row frame byte (Leave function ∷ history) found past inside = outside rows row frame byte history found past inside
outside rows row frame byte (Store other offset size value ∷ history) found past inside = by_test (other == frame)
    (λ e.
    let same : other ≡ frame = eqb-true other frame e in
    let fits : IsStoreInside (Some row) offset size = subst (λ (o : Option FrameShape). IsStoreInside o offset size) (ap (slice_get rows) same ∙ found) inside.0 in
    rw (e, past_cell row.bits offset size byte fits past) (outside rows row frame byte history found past inside.1))
    (λ e. rw e (outside rows row frame byte history found past inside.1))

-- ---- stores without a fault

pub store_inside : (rows : List FrameShape) (history new : List RunEvent) (place value : Value) → IsInside rows history
    → store rows history place value ≡ Ok new → IsInside rows new
store_inside rows history new (Int own word) value inside done = cc
store_inside rows history new (Ptr frame offset) value inside done = go (slice_get rows frame) refl done
  where
    go : (found : Option FrameShape) → slice_get rows frame ≡ found
        → stored history value (address_in found history frame offset (size_of value)) ≡ Ok new → IsInside rows new
    go None found e = cc
    go (Some row) found e = by_test (is_active row.owner history)
        (λ active. by_test (fits_in row.bits offset (size_of value))
        (λ room.
        let ok : Ok (Store frame offset (size_of value) value ∷ history) ≡ Ok new = rw (active, room) at e in
        let now : Store frame offset (size_of value) value ∷ history ≡ new = cc in
        subst (IsInside rows) now (subst (λ (o : Option FrameShape). IsStoreInside o offset (size_of value)) (sym found) room, inside))
        (λ past. let bad : Err Bounds ≡ Ok new = rw (active, past) at e in cc))
        (λ dead. let bad : Err Dead ≡ Ok new = rw dead at e in cc)

pub by_stores_inside : (rows : List FrameShape) (old new : List RunEvent) → ByStores rows old new → IsInside rows old
    → IsInside rows new
by_stores_inside rows old new (unchanged history) inside = inside
by_stores_inside rows old new (first_store before middle after place value done rest) inside =
    by_stores_inside rows middle new rest (store_inside rows old middle place value inside done)
