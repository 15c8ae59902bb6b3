-- Laws of whole cells.
--   knows                       each byte of a sound history does
--   origin_is_table             the bytes of a sound history are a table
--   whole_word                  a whole word is what its bytes say
use Rattle.std.proofs.Common.{◌≡◌, subst, ◌∙◌, ap, ℕ, true, false, List, [], ◌∷◌, map, Option, Some, None, refl, arith, ◌+◌, ◌-◌, ◌*◌, ◌<◌, ◌≤◌, ◌/◌, ◌%◌, ◌^◌}
use Rattle.std.specs.Prelude.{◌==◌}
use Rattle.std.specs.List.{list_any}
use Rattle.std.proofs.lemmas.Bool.{and_parts, eqb-true, false≢true}
use Rattle.std.proofs.Math.Nat.{div-one, mod-eq_of_lt}
use Rattle.alf_ops.specs.declared.history.Value.TheVariants.{Int}
use Rattle.alf_ops.specs.declared.history.RunEvent.{RunEvent}
use Rattle.alf_ops.specs.declared.history.RunEvent.TheVariants.{Enter, Leave, Store}
use Rattle.alf_ops.specs.Values.{FitsValue}
use Rattle.alf_ops.specs.Histories.{Byte, origin, is_owner, is_byte_of, is_from, put, left_by, bytes_of, of_pointer, word_of, IsSoundHistory}
use Rattle.lists.specs.TestLaws.{by_test}
use Rattle.alf_ops.specs.SpanLaws.{each_passes, none_passes}
use Rattle.alf_ops.specs.TableLaws.{in_cell, cell_ends, one_store}
use Rattle.alf_ops.specs.WordByteLaws.{stored_word}
use Rattle.alf_ops.specs.WholeCells.{IsCell, OneStore, IsTable, KnowsPlace}

-- each byte of a sound history does
pub knows : (owner : Option ℕ) (frame : ℕ) (history : List RunEvent) (byte : ℕ) (stored : Byte) → IsSoundHistory history
    → origin owner frame history byte ≡ Some stored → KnowsPlace byte stored
knows owner frame [] byte stored sound is = cc
knows owner frame (Enter function ∷ history) byte stored sound is = by_test (is_owner owner function)
    (λ mine. let e : None ≡ Some stored = rw mine at is in cc)
    (λ other. knows owner frame history byte stored sound (rw other at is))
knows owner frame (Leave function ∷ history) byte stored sound is = knows owner frame history byte stored sound is
knows owner frame (Store f o s v ∷ history) byte stored sound is = by_test (f == frame)
    (λ here. in_frame (rw here at is) (λ e. knows owner frame history byte stored sound.1 e))
    (λ there. knows owner frame history byte stored sound.1 (rw there at is))
  where
    in_frame : put o s v (origin owner frame history) byte ≡ Some stored
        → (origin owner frame history byte ≡ Some stored → KnowsPlace byte stored)
        → KnowsPlace byte stored
    in_frame e older = by_test (is_byte_of o s byte)
        (λ inside.
        let same : Some (left_by o s v byte) ≡ Some stored = rw inside at e in
        let b : left_by o s v byte ≡ stored = cc in
        subst (λ (x : Byte). KnowsPlace byte x) b (record { place = refl; fits = sound.0 }))
        (λ outside. older (rw outside at e))

-- the bytes of a sound history are a table
pub origin_is_table : (owner : Option ℕ) (frame : ℕ) (history : List RunEvent) → IsSoundHistory history
    → IsTable (origin owner frame history)
origin_is_table owner frame history sound offset size is whole = go (origin owner frame history offset) refl (from_cell offset (omega arith) (omega (arith, is.0)))
  where
    from_cell : (byte : ℕ) → offset ≤ byte → byte < offset + size / 8
        → is_from offset size (origin owner frame history byte) ≡ true
    from_cell byte low high = each_passes (is_from offset size) (origin owner frame history) offset (size / 8) whole byte low high

    go : (first : Option Byte) → origin owner frame history offset ≡ first → is_from offset size first ≡ true
        → OneStore (origin owner frame history) offset size
    go None at h = absurd (false≢true h)
    go (Some first) at h =
        let parts = and_parts _ _ h in
        let o : first.offset ≡ offset = eqb-true first.offset offset parts.0 in
        let s : first.size ≡ size = eqb-true first.size size parts.1 in
        let k = knows owner frame history offset first sound at in
        record {
          value = first.value;
          fits = subst (λ (n : ℕ). FitsValue n first.value) s k.fits;
          each = λ byte inside.
              let ends = cell_ends offset size byte inside in
              also byte inside first at o s (origin owner frame history byte) refl (from_cell byte ends.0 ends.1);
        }
      where
        also : (byte : ℕ) → is_byte_of offset size byte ≡ true → (first : Byte)
            → origin owner frame history offset ≡ Some first
            → first.offset ≡ offset → first.size ≡ size
            → (stored : Option Byte) → origin owner frame history byte ≡ stored → is_from offset size stored ≡ true → stored ≡ Some (left_by offset size first.value byte)
        also byte inside first at o s None is h = absurd (false≢true h)
        also byte inside first at o s (Some stored) is h =
            let parts = and_parts _ _ h in
            let p : stored.offset ≡ offset = eqb-true stored.offset offset parts.0 in
            let t : stored.size ≡ size = eqb-true stored.size size parts.1 in
            let v : stored.value ≡ first.value =
            one_store owner frame history offset size byte offset stored first inside (in_cell offset size offset (omega arith) (omega (arith, cell_ends offset size byte inside))) is at p t o s in
            let k = knows owner frame history byte stored sound is in
            let place : stored.place ≡ byte - offset = k.place ∙ ap (λ (n : ℕ). byte - n) p in
            ap Some (same_byte stored (left_by offset size first.value byte) p t v place)
          where
            same_byte : (a b : Byte) → a.offset ≡ b.offset → a.size ≡ b.size → a.value ≡ b.value → a.place ≡ b.place
                → a ≡ b
            same_byte a b o s v p = λ i. record { offset = o i; size = s i; value = v i; place = p i }

-- a whole word
pub whole_word : (from : ℕ → Option Byte) (offset size own bits : ℕ) → IsCell size → FitsValue size (Int own bits)
    → ((byte : ℕ) → is_byte_of offset size byte ≡ true → from byte ≡ Some (left_by offset size (Int own bits) byte))
    → (list_any of_pointer (map from (bytes_of offset size)) ≡ false) × (own ≡ size) × (word_of (map from (bytes_of offset size)) ≡ bits)
whole_word from offset size own bits is fits each =
    let at : (byte : ℕ) → offset ≤ byte → byte < offset + size / 8 → from byte ≡ Some (left_by offset size (Int own bits) byte) =
    λ byte low high. each byte (in_cell offset size byte low high) in
    let same : (byte : ℕ) → offset ≤ byte → byte < offset + size / 8 → from byte ≡ Some (left_by offset size (Int size bits) byte) =
    λ byte low high. subst (λ (n : ℕ). from byte ≡ Some (left_by offset size (Int n bits) byte)) fits.0 (at byte low high) in
    let w : word_of (map from (bytes_of offset size)) ≡ bits / 2 ^ (8 * 0) % 2 ^ (8 * (size / 8)) = stored_word from offset size bits offset 0 (size / 8) (omega arith) same in
    let n : 8 * (size / 8) ≡ size = omega (arith, is.1) in
    let small : bits / 2 ^ (8 * 0) % 2 ^ size ≡ bits = ap (λ (k : ℕ). k % 2 ^ size) (div-one bits) ∙ mod-eq_of_lt fits.1 in (
      none_passes of_pointer from offset (size / 8) (λ byte low high. ap of_pointer (at byte low high)),
      fits.0,
      w ∙ ap (λ (k : ℕ). bits / 2 ^ (8 * 0) % 2 ^ k) n ∙ small,
    )
