-- Cells of a table of bytes, before and after a store.
--   in_cell, cell_ends, below_cell, above_cell   the bytes of a cell lie between its ends
--   whole_cell, put_same                         a cell of one store holds its value
--   put_elsewhere, put_other, same_cell          a store leaves what it does not cover
--   origin_stored, origin_elsewhere              the table of a frame after a store in it, and in another
--   one_store                                    bytes that come from stores of exactly one cell come from one store
use Rattle.std.proofs.Common.{◌≡◌, ◌≢◌, ◌⊎◌, inl, inr, sym, ◌∙◌, ap, ℕ, suc, zero, true, false, List, [], ◌∷◌, map, Option, Some, None, Ok, refl, arith, ◌+◌, ◌<◌, ◌≤◌, ◌/◌}
use Rattle.std.specs.Prelude.{◌==◌}
use Rattle.std.specs.List.{list_all, list_any}
use Rattle.std.proofs.lemmas.Bool.{and_parts, and_from, and_left, and_right, leb-true, ltb-true, le-leb, lt-ltb, lt-leb, le-ltb, eq-eqb, ne_eqb, false≢true}
use Rattle.alf_ops.specs.declared.history.Value.{Value}
use Rattle.alf_ops.specs.declared.history.RunEvent.{RunEvent}
use Rattle.alf_ops.specs.declared.history.RunEvent.TheVariants.{Enter, Leave, Store}
use Rattle.alf_ops.specs.Histories.{Byte, origin, is_owner, is_byte_of, left_by, put, offsets, bytes_of, is_empty, is_from, first_value, contents, cell_in}
use Rattle.lists.specs.TestLaws.{by_test}
use Rattle.alf_ops.specs.SpanLaws.{same_bytes, all_pass, none_passes}

-- a byte between the ends of a cell is one of its bytes
pub in_cell : (offset size byte : ℕ) → offset ≤ byte → byte < offset + size / 8 → is_byte_of offset size byte ≡ true
in_cell offset size byte low high = and_from _ _ (le-leb offset byte low) (lt-ltb byte (offset + size / 8) high)

-- and a byte of the cell lies between its ends
pub cell_ends : (offset size byte : ℕ) → is_byte_of offset size byte ≡ true
    → (offset ≤ byte) × (byte < offset + size / 8)
cell_ends offset size byte is =
    let parts = and_parts _ _ is in
    (leb-true offset byte parts.0, ltb-true byte (offset + size / 8) parts.1)

pub below_cell : (offset size byte : ℕ) → byte < offset → is_byte_of offset size byte ≡ false
below_cell offset size byte low = and_left _ _ (lt-leb offset byte low)

pub above_cell : (offset size byte : ℕ) → offset + size / 8 ≤ byte → is_byte_of offset size byte ≡ false
above_cell offset size byte high = and_right _ _ (le-ltb byte (offset + size / 8) high)

-- a cell whose bytes all come from one store of exactly this cell holds its value
pub whole_cell : (from : ℕ → Option Byte) (offset size : ℕ) (value : Value) → 0 < size / 8
    → ((byte : ℕ) → offset ≤ byte → byte < offset + size / 8 → from byte ≡ Some (left_by offset size value byte))
    → cell_in from offset size ≡ Ok value
whole_cell from offset size value some each =
    let full : list_any is_empty (map from (bytes_of offset size)) ≡ false = none_passes is_empty from offset (size / 8) (λ byte low high. ap is_empty (each byte low high)) in
    let whole : list_all (is_from offset size) (map from (bytes_of offset size)) ≡ true =
    all_pass (is_from offset size) from offset (size / 8) (λ byte low high. ap (is_from offset size) (each byte low high) ∙ and_from _ _ (eq-eqb offset offset refl) (eq-eqb size size refl)) in
    rw (full, whole) (first (size / 8) some (each offset (omega arith) (omega arith)))
  where
    first : (count : ℕ) → 0 < count → from offset ≡ Some (left_by offset size value offset)
        → first_value (map from (offsets offset count)) ≡ Ok value
    first zero none is = absurd (omega arith)
    first (suc count) some is = rw is refl

-- a store and then the same cell
pub put_same : (from : ℕ → Option Byte) (offset size : ℕ) (value : Value) → 0 < size / 8
    → cell_in (put offset size value from) offset size ≡ Ok value
put_same from offset size value some = whole_cell (put offset size value from) offset size value some (λ byte low high. rw (in_cell offset size byte low high) refl)

-- a store leaves a byte that it does not cover
pub put_elsewhere : (from : ℕ → Option Byte) (offset size : ℕ) (value : Value) (byte : ℕ)
    → is_byte_of offset size byte ≡ false
    → put offset size value from byte ≡ from byte
put_elsewhere from offset size value byte other = rw other refl

-- tables that agree on the bytes of a cell hold the same in it
pub same_cell : (f g : ℕ → Option Byte) (offset size : ℕ)
    → ((byte : ℕ) → offset ≤ byte → byte < offset + size / 8 → f byte ≡ g byte)
    → cell_in f offset size ≡ cell_in g offset size
same_cell f g offset size agree = ap (λ (taken : List (Option Byte)). contents taken offset size) (same_bytes f g offset (size / 8) agree)

-- a store leaves a cell that shares no byte with it
pub put_other : (from : ℕ → Option Byte) (offset size : ℕ) (value : Value) (place width : ℕ)
    → (place + width / 8 ≤ offset) ⊎ (offset + size / 8 ≤ place) → cell_in (put offset size value from) place width ≡ cell_in from place width
put_other from offset size value place width apart =
    same_cell (put offset size value from) from place width
    (λ byte low high. put_elsewhere from offset size value byte (elim apart [ inl below ↦ below_cell offset size byte (omega arith) | inr above ↦ above_cell offset size byte (omega arith) ]))

-- the table of a frame after a store in it, and in another
pub origin_stored : (owner : Option ℕ) (frame offset size : ℕ) (value : Value) (history : List RunEvent) (byte : ℕ)
    → origin owner frame (Store frame offset size value ∷ history) byte ≡ put offset size value (origin owner frame history) byte
origin_stored owner frame offset size value history byte = rw (eq-eqb frame frame refl) refl

pub origin_elsewhere : (owner : Option ℕ) (frame other offset size : ℕ) (value : Value) (history : List RunEvent) (byte : ℕ) → other ≢ frame
    → origin owner frame (Store other offset size value ∷ history) byte ≡ origin owner frame history byte
origin_elsewhere owner frame other offset size value history byte apart = rw (ne_eqb other frame apart) refl

-- a byte of a cell that comes from a store of exactly this cell: the newest such store
pub one_store : (owner : Option ℕ) (frame : ℕ) (history : List RunEvent) (offset size first second : ℕ) (one other : Byte)
    → is_byte_of offset size first ≡ true → is_byte_of offset size second ≡ true
    → origin owner frame history first ≡ Some one → origin owner frame history second ≡ Some other
    → one.offset ≡ offset → one.size ≡ size → other.offset ≡ offset → other.size ≡ size
    → one.value ≡ other.value
one_store owner frame [] offset size first second one other in_one in_two from_one from_two o1 s1 o2 s2 = cc
one_store owner frame (Enter entered ∷ history) offset size first second one other in_one in_two from_one from_two o1 s1 o2 s2 = by_test (is_owner owner entered)
    (λ mine. let e : None ≡ Some one = rw mine at from_one in cc)
    (λ not_mine. one_store owner frame history offset size first second one other in_one in_two (rw not_mine at from_one) (rw not_mine at from_two) o1 s1 o2 s2)
one_store owner frame (Leave left ∷ history) offset size first second one other in_one in_two from_one from_two o1 s1 o2 s2 =
    one_store owner frame history offset size first second one other in_one in_two from_one from_two o1 s1 o2 s2
one_store owner frame (Store f o s v ∷ history) offset size first second one other in_one in_two from_one from_two o1 s1 o2 s2 = by_test (f == frame)
    (λ here. put_one (rw here at from_one) (rw here at from_two) (λ a b. one_store owner frame history offset size first second one other in_one in_two a b o1 s1 o2 s2))
    (λ there. one_store owner frame history offset size first second one other in_one in_two (rw there at from_one) (rw there at from_two) o1 s1 o2 s2)
  where
    put_one : put o s v (origin owner frame history) first ≡ Some one
        → put o s v (origin owner frame history) second ≡ Some other
        → (origin owner frame history first ≡ Some one → origin owner frame history second ≡ Some other → one.value ≡ other.value)
        → one.value ≡ other.value
    put_one one_is two_is older = by_test (is_byte_of o s first)
        (λ covers_one.
        let a : Some (left_by o s v first) ≡ Some one = rw covers_one at one_is in
        let oo : o ≡ offset = ap offset_in a ∙ o1 in
        let ss : s ≡ size = ap size_in a ∙ s1 in
        let covers_two : is_byte_of o s second ≡ true = rw (oo, ss) in_two in
        let b : Some (left_by o s v second) ≡ Some other = rw covers_two at two_is in
        sym (ap value_in a) ∙ ap value_in b)
        (λ no_one. by_test (is_byte_of o s second)
        (λ covers_two.
        let b : Some (left_by o s v second) ≡ Some other = rw covers_two at two_is in
        let oo : o ≡ offset = ap offset_in b ∙ o2 in
        let ss : s ≡ size = ap size_in b ∙ s2 in
        let covers_one : is_byte_of o s first ≡ true = rw (oo, ss) in_one in
        absurd (false≢true (sym no_one ∙ covers_one)))
        (λ no_two. older (rw no_one at one_is) (rw no_two at two_is)))
      where
        offset_in : Option Byte → ℕ
        offset_in None = 0
        offset_in (Some byte) = byte.offset

        size_in : Option Byte → ℕ
        size_in None = 0
        size_in (Some byte) = byte.size

        value_in : Option Byte → Value
        value_in None = v
        value_in (Some byte) = byte.value
