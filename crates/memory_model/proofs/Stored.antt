-- What changed slots stand for.
--   table_at       a table at the size of a cell
--   slots_stored   the frame of slots that were changed is the frame after the store
use Rattle.std.specs.Prelude.{slice_get, if◌then◌else◌}
use Rattle.std.specs.Option.{option_map}
use Rattle.std.proofs.Common.{Bool, ◌≡◌, inl, inr, sym, subst, ◌∙◌, ap, ℕ, suc, zero, true, false, List, [], ◌∷◌, Option, Some, None, refl, arith, ◌+◌, ◌/◌, ◌%◌, ◌<◌, ◌≤◌, length}
use Rattle.std.proofs.lemmas.Bool.{cases_eq, and_parts, eqb-true, ltb-true, leb-true, false≢true}
use Rattle.lists.specs.TestLaws.{by_test}
use Rattle.alf_ops.specs.Histories.{is_byte_of}
use Rattle.alf_ops.specs.TableLaws.{above_cell}
use Rattle.pointer_rules.specs.AbstractValues.{AbstractValue}
use Rattle.memory_pages.specs.declared.byte.Byte.{Byte}
use Rattle.memory_pages.specs.declared.held.Held.{Held}
use Rattle.memory_pages.specs.Slots.{HeldSlot, table, cell_of}
use Rattle.memory_rules.specs.Frames.{Cell, is_same, share_byte}
use Rattle.memory_model.specs.HeldFrames.{is_cell_size, cell_seen, cell_held, byte_in, cell_in, frame_of}
use Rattle.memory_model.specs.SlotStores.{CellChange, ByteChange, stored_frame, cell_stored, slot_stored, changed, SlotsStored, PinIsStored}

abbrev pub slot_at : Byte → (ℕ → Option Held) → HeldSlot
slot_at byte f = record { byte = byte; cells = table f }

-- the sizes of cells, one by one
by_size : (P : ℕ → Type 0) (size : ℕ) → size % 8 ≡ 0 → 0 < size → size ≤ 64 → P 8 → P 16 → P 24 → P 32 → P 40 → P 48
    → P 56 → P 64 → P size
by_size P size whole some most a b c d e f g h = elim (cases_eq size 8) [
  | inl is ↦ subst P (sym is) a
  | inr not_8 ↦ elim (cases_eq size 16) [
    | inl is ↦ subst P (sym is) b
    | inr not_16 ↦ elim (cases_eq size 24) [
      | inl is ↦ subst P (sym is) c
      | inr not_24 ↦ elim (cases_eq size 32) [
        | inl is ↦ subst P (sym is) d
        | inr not_32 ↦ elim (cases_eq size 40) [
          | inl is ↦ subst P (sym is) e
          | inr not_40 ↦ elim (cases_eq size 48) [
            | inl is ↦ subst P (sym is) f
            | inr not_48 ↦ elim (cases_eq size 56) [
              | inl is ↦ subst P (sym is) g
              | inr not_56 ↦ elim (cases_eq size 64) [
                | inl is ↦ subst P (sym is) h
                | inr not_64 ↦ absurd (omega (arith, whole, some, most, not_8, not_16, not_24, not_32, not_40, not_48, not_56, not_64))
              ]
            ]
          ]
        ]
      ]
    ]
  ]
]

-- a table at the size of a cell
pub table_at : (byte : Byte) (f : ℕ → Option Held) (size : ℕ) → is_cell_size size ≡ true
    → cell_of (slot_at byte f) size ≡ f size
table_at byte f size is =
    let parts = and_parts _ _ is in
    let bounds = and_parts _ _ parts.1 in
    by_size (λ (n : ℕ). cell_of (slot_at byte f) n ≡ f n) size (eqb-true (size % 8) 0 parts.0) (ltb-true 0 size bounds.0) (leb-true size 64 bounds.1)
    refl refl refl refl refl refl refl refl

pub seen_held : (cell : Option (Cell AbstractValue)) → cell_seen (cell_held cell) ≡ cell
seen_held None = refl
seen_held (Some cell) = refl

get_changed : (f : ℕ → HeldSlot → HeldSlot) (place : ℕ) (slots : List HeldSlot) (i : ℕ)
    → slice_get (changed f place slots) i ≡ option_map (f (place + i)) (slice_get slots i)
get_changed f place [] i = refl
get_changed f place (slot ∷ slots) zero =
    let e : place ≡ place + 0 = omega arith in
    ap (λ (n : ℕ). Some (f n slot)) e
get_changed f place (slot ∷ slots) (suc i) =
    let e : suc place + i ≡ place + suc i = omega arith in
    get_changed f (suc place) slots i ∙ ap (λ (n : ℕ). option_map (f n) (slice_get slots i)) e

none_past : {A : Type 0} (xs : List A) (i : ℕ) → slice_get xs i ≡ None → length xs ≤ i
none_past [] i none = omega arith
none_past (x ∷ xs) zero none = cc
none_past (x ∷ xs) (suc i) none = let past = none_past xs i none in omega arith

module _ (slots : List HeldSlot) (offset size : ℕ) (new : Cell AbstractValue) (others : CellChange) (byte : ByteChange)
    (sized : is_cell_size size ≡ true) (inside : offset + size / 8 ≤ length slots) (keeps : others None ≡ None) where
  some_bytes : 0 < size / 8
  some_bytes =
      let parts = and_parts _ _ sized in
      let bounds = and_parts _ _ parts.1 in
      let whole : size % 8 ≡ 0 = eqb-true (size % 8) 0 parts.0 in
      let some : 0 < size = ltb-true 0 size bounds.0 in
      omega arith

  byte_at : (o : Option HeldSlot) (b : ℕ) → (o ≡ None → length slots ≤ b)
      → byte_in (option_map (slot_stored offset size new others byte b) o) ≡ (if is_byte_of offset size b then byte b (byte_in o) else byte_in o)
  byte_at None b past = rw (above_cell offset size b (let far = past refl in omega arith)) refl
  byte_at (Some slot) b past = by_test (is_byte_of offset size b) (λ on. rw on refl) (λ off. rw off refl)

  not_same : (place width : ℕ) → (is_same offset size place width ≡ true → ⊥) → is_same offset size place width ≡ false
  not_same place width no_way = by_test (is_same offset size place width) (λ same. absurd (no_way same)) (λ differ. differ)

  cell_at : (o : Option HeldSlot) (place width : ℕ) → (o ≡ None → length slots ≤ place)
      → cell_in (option_map (slot_stored offset size new others byte place) o) width
      ≡ (if is_same offset size place width then Some new else (if share_byte offset size place width then others (cell_in o width) else cell_in o width))
  cell_at None place width past =
      let apart : is_same offset size place width ≡ false = not_same place width (λ same.
      let here : place ≡ offset = eqb-true place offset (and_parts _ _ same).0 in
      let far = past refl in
      let some = some_bytes in
      absurd (omega arith)) in
      rw apart (by_test (share_byte offset size place width) (λ share. rw share (sym keeps)) (λ alone. rw alone refl))
  cell_at (Some slot) place width past = by_test (is_cell_size width)
      (λ cell. rw (cell, table_at _ (λ w. cell_held (cell_stored offset size new others place slot w)) width cell) (seen_held (cell_stored offset size new others place slot width)))
      (λ other.
      let apart : is_same offset size place width ≡ false = not_same place width (λ same.
      let one : width ≡ size = eqb-true width size (and_parts _ _ same).1 in
      false≢true (sym other ∙ (ap is_cell_size one ∙ sized))) in
      rw (other, apart) (by_test (share_byte offset size place width) (λ share. rw share (sym keeps)) (λ alone. rw alone refl)))

  after : frame_of (changed (slot_stored offset size new others byte) 0 slots) ≡ stored_frame (frame_of slots) offset size new others byte
  after = λ i. record {
    bytes = λ b. bytes_after b i;
    cells = λ place width. cells_after place width i;
  }
    where
      found : (b : ℕ) → slice_get (changed (slot_stored offset size new others byte) 0 slots) b ≡ option_map (slot_stored offset size new others byte b) (slice_get slots b)
      found b =
          let e : 0 + b ≡ b = omega arith in
          get_changed (slot_stored offset size new others byte) 0 slots b ∙ ap (λ (n : ℕ). option_map (slot_stored offset size new others byte n) (slice_get slots b)) e

      bytes_after : (b : ℕ) → byte_in (slice_get (changed (slot_stored offset size new others byte) 0 slots) b) ≡ (stored_frame (frame_of slots) offset size new others byte).bytes b
      bytes_after b = ap byte_in (found b) ∙ byte_at (slice_get slots b) b (none_past slots b)

      cells_after : (place width : ℕ) → cell_in (slice_get (changed (slot_stored offset size new others byte) 0 slots) place) width ≡ (stored_frame (frame_of slots) offset size new others byte).cells place width
      cells_after place width = ap (λ slot. cell_in slot width) (found place) ∙ cell_at (slice_get slots place) place width (none_past slots place)

pub slots_stored : SlotsStored
slots_stored slots offset size new others byte sized inside keeps = after slots offset size new others byte sized inside keeps

either_way : {A : Type 0} (v : Bool) (x : A) → x ≡ (if v then x else x)
either_way true x = refl
either_way false x = refl

pub pin_is_stored : PinIsStored
pin_is_stored m offset size value =
    λ i. record {
      bytes = λ b. either_way (is_byte_of offset size b) (m.bytes b) i;
      cells = λ place width.
          if is_same offset size place width then Some (record { value = Some value; u = false; x = false })
          else either_way (share_byte offset size place width) (m.cells place width) i;
    }
