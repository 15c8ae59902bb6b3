-- Loads from what bytes hold.
--   IsLeft byte stored   a byte of a sound history comes from a store of a value that fits, from which on it has its place
--   left                 each byte of a sound history does
--   held_as_stored       where each byte holds what the history left there, a cell gives what it gives by its stores
use Rattle.std.proofs.Common.{◌≡◌, inl, inr, sym, subst, ◌∙◌, ap, ℕ, suc, zero, Bool, true, false, List, [], ◌∷◌, map, Option, Some, None, Result, Ok, refl, arith, ◌+◌, ◌-◌, ◌/◌, ◌<◌, ◌≤◌}
use Rattle.std.specs.Prelude.{◌==◌, ◌&&◌}
use Rattle.std.specs.List.{list_all, list_any}
use Rattle.std.proofs.lemmas.Bool.{and_parts, and_from, and_right, or_parts, eq-eqb, eqb-true, false≢true, cases_eq}
use Rattle.lists.specs.TestLaws.{by_test}
use Rattle.alf_ops.specs.declared.history.Value.{Value}
use Rattle.alf_ops.specs.declared.history.Value.TheVariants.{Int, Ptr}
use Rattle.alf_ops.specs.declared.history.RunFault.{RunFault}
use Rattle.alf_ops.specs.declared.history.RunEvent.{RunEvent}
use Rattle.alf_ops.specs.declared.history.RunEvent.TheVariants.{Enter, Leave, Store}
use Rattle.alf_ops.specs.Values.{FitsValue, is_pointer, bits_of}
use Rattle.alf_ops.specs.Histories.{Byte, origin, is_owner, is_byte_of, put, left_by, offsets, bytes_of, is_empty, is_from, byte_of, bits_at, word_of, first_value, cell_in, IsSoundHistory}
use Rattle.alf_ops.specs.Histories as histories
use Rattle.alf_ops.specs.SpanLaws.{offsets_step, same_bytes, all_pass, each_fails}
use Rattle.alf_ops.specs.TableLaws.{in_cell, cell_ends}
use Rattle.alf_ops.specs.Readings.{Reading, reads_empty, reads_whole, reads_pointers, reads_word}
use Rattle.alf_ops.specs.ReadingLaws.{reading}
use Rattle.alf_ops.specs.WholeCells.{IsCell}
use Rattle.alf_ops.specs.WholeCellLaws.{knows, origin_is_table, whole_word}
use Rattle.alf_values.specs.declared.bytes.Content.{Content}
use Rattle.alf_values.specs.declared.bytes.Content.TheVariants.{Word, Pointer}
use Rattle.alf_values.specs.Contents.{part, content_of, is_blank, of_pointer, is_part, are_parts, pointer_in, pointer_of, bits_held, word_held, cell_of, cell_held}

-- ---- where a byte comes from

-- the store begins at the byte or before it, the byte has its place in it, and the value fits
pub record IsLeft (byte : ℕ) (stored : Byte) : Type 0 where
  pub low : stored.offset ≤ byte
  pub place : stored.place ≡ byte - stored.offset
  pub fits : FitsValue stored.size stored.value

-- the store begins at the byte or before it
low_end : (owner : Option ℕ) (frame : ℕ) (history : List RunEvent) (byte : ℕ) (stored : Byte)
    → origin owner frame history byte ≡ Some stored → stored.offset ≤ byte
low_end owner frame [] byte stored is = cc
low_end owner frame (Enter function ∷ history) byte stored is = by_test (is_owner owner function)
    (λ mine. let e : None ≡ Some stored = rw mine at is in cc)
    (λ other. low_end owner frame history byte stored (rw other at is))
low_end owner frame (Leave function ∷ history) byte stored is = low_end owner frame history byte stored is
low_end owner frame (Store f o s v ∷ history) byte stored is = by_test (f == frame)
    (λ here. in_frame (rw here at is) (λ e. low_end owner frame history byte stored e))
    (λ there. low_end owner frame history byte stored (rw there at is))
  where
    in_frame : put o s v (origin owner frame history) byte ≡ Some stored
        → (origin owner frame history byte ≡ Some stored → stored.offset ≤ byte)
        → stored.offset ≤ byte
    in_frame e older = by_test (is_byte_of o s byte)
        (λ inside.
        let same : Some (left_by o s v byte) ≡ Some stored = rw inside at e in
        let b : left_by o s v byte ≡ stored = cc in
        subst (λ (x : Byte). x.offset ≤ byte) b (cell_ends o s byte inside).0)
        (λ outside. older (rw outside at e))

-- each byte of a sound history comes from such a store
pub left : (owner : Option ℕ) (frame : ℕ) (history : List RunEvent) (byte : ℕ) (stored : Byte) → IsSoundHistory history
    → origin owner frame history byte ≡ Some stored → IsLeft byte stored
left owner frame history byte stored sound is =
    let k = knows owner frame history byte stored sound is in
    record { low = low_end owner frame history byte stored is; place = k.place; fits = k.fits }

-- ---- tests of what bytes hold

-- one test of two lists of bytes
any_same : {A B : Type 0} (p : A → Bool) (q : B → Bool) (f : ℕ → A) (g : ℕ → B) (offset count : ℕ)
    → ((byte : ℕ) → p (f byte) ≡ q (g byte))
    → list_any p (map f (offsets offset count)) ≡ list_any q (map g (offsets offset count))
any_same p q f g offset zero same = refl
any_same p q f g offset (suc count) same = rw (same offset, any_same p q f g (suc offset) count same) refl

blank_same : (byte : Option Byte) → is_blank (content_of byte) ≡ is_empty byte
blank_same None = refl
blank_same (Some byte) = refl

pointer_same : (byte : Option Byte) → of_pointer (content_of byte) ≡ histories.of_pointer byte
pointer_same None = refl
pointer_same (Some byte) = of_part byte.value byte.place
  where
    of_part : (value : Value) (place : ℕ) → of_pointer (Some (part value place)) ≡ is_pointer value
    of_part (Int size word) place = refl
    of_part (Ptr frame offset) place = refl

-- bytes of words hold the bits that the stores left
word_same : (from : ℕ → Option Byte) (offset count : ℕ)
    → list_any histories.of_pointer (map from (offsets offset count)) ≡ false
    → word_held (map (λ byte. content_of (from byte)) (offsets offset count)) ≡ word_of (map from (offsets offset count))
word_same from offset zero none = refl
word_same from offset (suc count) none =
    let parts : (histories.of_pointer (from offset) ≡ false) × (list_any histories.of_pointer (map from (offsets (suc offset) count)) ≡ false) = or_parts _ _ none in
    rw (word_same from (suc offset) count parts.1, bits_same (from offset) parts.0) refl
  where
    of_part : (value : Value) (place : ℕ) → is_pointer value ≡ false
        → bits_held (Some (part value place)) ≡ byte_of place (bits_of value)
    of_part (Int size word) place is = refl
    of_part (Ptr frame offset) place is = absurd (false≢true (sym is))

    bits_same : (byte : Option Byte) → histories.of_pointer byte ≡ false → bits_held (content_of byte) ≡ bits_at byte
    bits_same None is = refl
    bits_same (Some byte) is = of_part byte.value byte.place is

-- ---- bytes of pointers in their order

-- bytes of pointers, each at its place, are in order
in_order : (held : ℕ → Option Content) (frame target offset place count start : ℕ) → start ≡ offset + place
    → ((byte : ℕ) → start ≤ byte → byte < start + count → held byte ≡ Some (Pointer frame target (byte - offset)))
    → are_parts place (map held (offsets start count)) ≡ true
in_order held frame target offset place zero start at each = refl
in_order held frame target offset place (suc count) start at each =
    let here : is_part place (held start) ≡ true = ap (is_part place) (each start (omega arith) (omega arith)) ∙ eq-eqb (start - offset) place (omega arith) in
    and_from _ _ here (in_order held frame target offset (suc place) count (suc start) (omega arith) (λ byte low high. each byte (omega arith) (omega arith)))

-- each of bytes in order is a byte of a pointer, at its place
each_part : (held : ℕ → Option Content) (offset place count start : ℕ) → start ≡ offset + place
    → are_parts place (map held (offsets start count)) ≡ true
    → (byte : ℕ) → start ≤ byte → byte < start + count → is_part (byte - offset) (held byte) ≡ true
each_part held offset place zero start at all byte low high = absurd (omega arith)
each_part held offset place (suc count) start at all byte low high =
    let parts : (is_part place (held start) ≡ true) × (are_parts (suc place) (map held (offsets (suc start) count)) ≡ true) = and_parts _ _ all in
    elim (cases_eq byte start) [
      | inl same ↦
          let number : byte - offset ≡ place = omega arith in
          subst (λ (n : ℕ). is_part n (held byte) ≡ true) (sym number) (subst (λ (b : ℕ). is_part place (held b) ≡ true) (sym same) parts.0)
      | inr other ↦ each_part held offset (suc place) count (suc start) (omega arith) parts.1 byte (omega arith) (omega arith)
    ]

-- a byte of a pointer is of a pointer
part_of_pointer : (place : ℕ) (held : Option Content) → is_part place held ≡ true → of_pointer held ≡ true
part_of_pointer place None is = absurd (false≢true is)
part_of_pointer place (Some (Word low)) is = absurd (false≢true is)
part_of_pointer place (Some (Pointer frame offset own)) is = refl

-- the byte at this place of a pointer comes from a store of exactly the cell that has it there
part_from : (value : Value) (stored : Byte) (byte offset : ℕ) → stored.value ≡ value → IsLeft byte stored
    → offset ≤ byte
    → is_part (byte - offset) (Some (part value stored.place)) ≡ true → is_from offset 32 (Some stored) ≡ true
part_from (Int own word) stored byte offset v is low h = absurd (false≢true h)
part_from (Ptr frame target) stored byte offset v is low h =
    let p : stored.place ≡ byte - offset = eqb-true stored.place (byte - offset) h in
    let same : stored.offset ≡ offset = omega (arith, is.place, is.low) in
    let fits : FitsValue stored.size (Ptr frame target) = subst (λ (x : Value). FitsValue stored.size x) v is.fits in
    and_from _ _ (eq-eqb stored.offset offset same) (eq-eqb stored.size 32 fits.0)

-- ---- cells

module _ (from : ℕ → Option Byte) (offset size : ℕ) (is : IsCell size) (each : (byte : ℕ) (stored : Byte) → from byte ≡ Some stored → IsLeft byte stored) where
  -- where not all bytes are of this cell, they are no pointer
  no_parts : list_all (is_from offset size) (map from (bytes_of offset size)) ≡ false
      → ((size == 32) && are_parts 0 (map (λ byte. content_of (from byte)) (bytes_of offset size))) ≡ false
  no_parts many = by_test ((size == 32) && are_parts 0 (map (λ byte. content_of (from byte)) (bytes_of offset size)))
      (λ both.
      let parts = and_parts _ _ both in
      let wide : size ≡ 32 = eqb-true size 32 parts.0 in
      let one : (byte : ℕ) → offset ≤ byte → byte < offset + size / 8 → is_from offset 32 (from byte) ≡ true =
      λ byte low high. go byte low (from byte) refl (each_part (λ byte. content_of (from byte)) offset 0 (size / 8) offset (omega arith) parts.1 byte low high) in
      let all : list_all (is_from offset size) (map from (bytes_of offset size)) ≡ true =
      all_pass (is_from offset size) from offset (size / 8) (λ byte low high. subst (λ (n : ℕ). is_from offset n (from byte) ≡ true) (sym wide) (one byte low high)) in
      absurd (false≢true (sym many ∙ all)))
      (λ apart. apart)
    where
      go : (byte : ℕ) → offset ≤ byte → (stored : Option Byte) → from byte ≡ stored
          → is_part (byte - offset) (content_of stored) ≡ true → is_from offset 32 stored ≡ true
      go byte low None at h = absurd (false≢true h)
      go byte low (Some stored) at h = part_from stored.value stored byte offset refl (each byte stored at) low h

  -- where no byte is of a pointer, they are no pointer
  no_pointers : list_any of_pointer (map (λ byte. content_of (from byte)) (bytes_of offset size)) ≡ false
      → ((size == 32) && are_parts 0 (map (λ byte. content_of (from byte)) (bytes_of offset size))) ≡ false
  no_pointers none = by_test (are_parts 0 (map (λ byte. content_of (from byte)) (bytes_of offset size)))
      (λ parts.
      let first : is_part (offset - offset) (content_of (from offset)) ≡ true =
      each_part (λ byte. content_of (from byte)) offset 0 (size / 8) offset (omega arith) parts offset (omega arith) (omega (arith, is.0)) in
      let no : of_pointer (content_of (from offset)) ≡ false =
      each_fails of_pointer (λ byte. content_of (from byte)) offset (size / 8) none offset (omega arith) (omega (arith, is.0)) in
      absurd (false≢true (sym no ∙ part_of_pointer (offset - offset) (content_of (from offset)) first)))
      (λ apart. and_right _ _ apart)

  -- a cell of one store gives its value
  one_store : (value : Value) → FitsValue size value
      → ((byte : ℕ) → is_byte_of offset size byte ≡ true → from byte ≡ Some (left_by offset size value byte))
      → list_any is_blank (map (λ byte. content_of (from byte)) (bytes_of offset size)) ≡ false
      → cell_held (λ byte. content_of (from byte)) offset size ≡ Ok value
  one_store (Int own word) fits all full =
      let w = whole_word from offset size own word is fits all in
      let none : list_any of_pointer (map (λ byte. content_of (from byte)) (bytes_of offset size)) ≡ false =
      any_same of_pointer histories.of_pointer (λ byte. content_of (from byte)) from offset (size / 8) (λ byte. pointer_same (from byte)) ∙ w.0 in
      let bits : word_held (map (λ byte. content_of (from byte)) (bytes_of offset size)) ≡ word = word_same from offset (size / 8) w.0 ∙ w.2 in
      rw (full, no_pointers none, none, bits, w.1) refl
  one_store (Ptr frame target) fits all full =
      let held : (byte : ℕ) → offset ≤ byte → byte < offset + size / 8 → content_of (from byte) ≡ Some (Pointer frame target (byte - offset)) =
      λ byte low high. ap content_of (all byte (in_cell offset size byte low high)) in
      let parts : are_parts 0 (map (λ byte. content_of (from byte)) (bytes_of offset size)) ≡ true =
      in_order (λ byte. content_of (from byte)) frame target offset 0 (size / 8) offset (omega arith) held in
      let both : ((size == 32) && are_parts 0 (map (λ byte. content_of (from byte)) (bytes_of offset size))) ≡ true = and_from _ _ (eq-eqb size 32 fits.0) parts in
      let first : pointer_of (map (λ byte. content_of (from byte)) (bytes_of offset size)) ≡ pointer_in (content_of (from offset)) =
      ap (λ taken. pointer_of (map (λ byte. content_of (from byte)) taken)) (offsets_step offset (size / 8) is.0) in
      rw (full, both) (first ∙ ap pointer_in (held offset (omega arith) (omega (arith, is.0))))

-- where each byte holds what the history left there, a cell gives what it gives by its stores
pub held_as_stored : (owner : Option ℕ) (frame : ℕ) (history : List RunEvent) (held : ℕ → Option Content) (offset size : ℕ) → IsSoundHistory history → IsCell size
    → ((byte : ℕ) → offset ≤ byte → byte < offset + size / 8 → held byte ≡ content_of (origin owner frame history byte))
    → cell_held held offset size ≡ cell_in (origin owner frame history) offset size
held_as_stored owner frame history held offset size sound is agree =
    ap (λ taken. cell_of taken size) (same_bytes held (λ byte. content_of (origin owner frame history byte)) offset (size / 8) agree)
    ∙ go (reading (origin owner frame history) offset size)
  where
    each : (byte : ℕ) (stored : Byte) → origin owner frame history byte ≡ Some stored → IsLeft byte stored
    each byte stored at = left owner frame history byte stored sound at

    blanks : list_any is_blank (map (λ byte. content_of (origin owner frame history byte)) (bytes_of offset size)) ≡ list_any is_empty (map (origin owner frame history) (bytes_of offset size))
    blanks = any_same is_blank is_empty (λ byte. content_of (origin owner frame history byte)) (origin owner frame history) offset (size / 8) (λ byte. blank_same (origin owner frame history byte))

    pointers : list_any of_pointer (map (λ byte. content_of (origin owner frame history byte)) (bytes_of offset size)) ≡ list_any histories.of_pointer (map (origin owner frame history) (bytes_of offset size))
    pointers = any_same of_pointer histories.of_pointer (λ byte. content_of (origin owner frame history byte)) (origin owner frame history) offset (size / 8) (λ byte. pointer_same (origin owner frame history byte))

    go : {r : Result Value RunFault} → Reading (map (origin owner frame history) (bytes_of offset size)) offset size r
        → cell_held (λ byte. content_of (origin owner frame history byte)) offset size ≡ r
    go (reads_empty none r) = rw (blanks ∙ none) (sym r)
    go (reads_whole some one r) =
        let store = origin_is_table owner frame history sound offset size is one in
        let value = one_store (origin owner frame history) offset size is each store.value store.fits store.each (blanks ∙ some) in
        value ∙ (sym (first (size / 8) is.0 (store.each offset (in_cell offset size offset (omega arith) (omega (arith, is.0))))) ∙ sym r)
      where
        first : {value : Value} (count : ℕ) → 0 < count
            → origin owner frame history offset ≡ Some (left_by offset size value offset)
            → first_value (map (origin owner frame history) (offsets offset count)) ≡ Ok value
        first zero none at = absurd (omega arith)
        first (suc count) some at = rw at refl
    go (reads_pointers some many pointer r) =
        rw (blanks ∙ some, no_parts (origin owner frame history) offset size is each many, pointers ∙ pointer) (sym r)
    go (reads_word some many words r) =
        rw (blanks ∙ some, no_parts (origin owner frame history) offset size is each many, pointers ∙ words, word_same (origin owner frame history) offset (size / 8) words) (sym r)
