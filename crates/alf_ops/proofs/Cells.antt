-- What a load gives, by what its bytes come from.
use Rattle.std.proofs.Common.{◌≡◌, ◌≢◌, ◌⊎◌, inl, inr, sym, subst, ◌∙◌, ap, ℕ, true, false, List, map, Option, Some, None, Result, Ok, Err, refl, arith, ◌+◌, ◌*◌, ◌/◌, ◌%◌, ◌^◌, ◌<◌, ◌≤◌}
use Rattle.std.specs.Prelude.{◌==◌, ◌&&◌}
use Rattle.std.specs.List.{list_all, list_any}
use Rattle.std.proofs.lemmas.Bool.{and_parts, and_from, eqb-true, eq-eqb, false≢true}
use Rattle.std.proofs.Math.Nat.{div-one, mod-eq_of_lt}
use Rattle.std.proofs.Math.Pow.{pow_mono}
use Rattle.alf_ops.specs.declared.history.Value.{Value}
use Rattle.alf_ops.specs.declared.history.Value.TheVariants.{Int, Ptr}
use Rattle.alf_ops.specs.declared.history.RunFault.{RunFault}
use Rattle.alf_ops.specs.declared.history.RunFault.TheVariants.{Uninit, Mixed}
use Rattle.alf_ops.specs.declared.history.FrameShape.{FrameShape}
use Rattle.alf_ops.specs.declared.history.RunEvent.{RunEvent}
use Rattle.alf_ops.specs.Values.{is_pointer, FitsValue}
use Rattle.alf_ops.specs.Histories.{Byte, origin, bytes_of, is_byte_of, is_empty, is_from, of_pointer, word_of, left_by, cell_in, load, store, IsSoundHistory}
use Rattle.alf_ops.specs.HistoryLaws.{IsCellOf, IsOfSeveral, GivesWord}
use Rattle.alf_ops.specs.SpanLaws.{each_passes, none_passes, some_pass}
use Rattle.alf_ops.specs.TableLaws.{in_cell, cell_ends, whole_cell}
use Rattle.alf_ops.specs.Readings.{Reading, reads_empty, reads_whole, reads_pointers, reads_word}
use Rattle.alf_ops.specs.ReadingLaws.{reading}
use Rattle.alf_ops.specs.WholeCells.{IsCell, IsTable}
use Rattle.alf_ops.specs.WholeCellLaws.{origin_is_table}
use Rattle.alf_ops.proofs.WordByteLemmas.{word_of_below, byte_at}
use Rattle.alf_ops.specs.WordByteLaws.{stored_word}
use Rattle.alf_ops.proofs.LoadsAndStores.{load_cell, cell_loaded, is_stored, stored_table, cell_after}
use Rattle.lists.specs.TestLaws.{by_test}

-- the word of the bytes of a cell is below 2 to its size
word_below_size : (from : ℕ → Option Byte) (offset size : ℕ) → word_of (map from (bytes_of offset size)) < 2 ^ size
word_below_size from offset size =
    let below : word_of (map from (bytes_of offset size)) < 2 ^ (8 * (size / 8)) = word_of_below from offset (size / 8) in
    let few : 8 * (size / 8) ≤ size = omega arith in
    let power : 2 ^ (8 * (size / 8)) ≤ 2 ^ size = pow_mono few in
    omega arith

not_empty : (o : Option Byte) → o ≢ None → is_empty o ≡ false
not_empty None some = absurd (some refl)
not_empty (Some byte) some = refl

module _ (from : ℕ → Option Byte) (offset size : ℕ) where
  -- a byte without a store
  empty_byte : (byte : ℕ) → is_byte_of offset size byte ≡ true → from byte ≡ None
      → cell_in from offset size ≡ Err Uninit
  empty_byte byte inside none =
      let ends = cell_ends offset size byte inside in
      let some : list_any is_empty (map from (bytes_of offset size)) ≡ true = some_pass is_empty from offset (size / 8) byte ends.0 ends.1 (ap is_empty none) in
      rw some refl

  module _ (full : (byte : ℕ) → is_byte_of offset size byte ≡ true → from byte ≢ None) (other : ℕ) (inside : is_byte_of offset size other ≡ true)
      (apart : is_from offset size (from other) ≡ false) where
    all_full : list_any is_empty (map from (bytes_of offset size)) ≡ false
    all_full = none_passes is_empty from offset (size / 8) (λ byte low high. not_empty (from byte) (full byte (in_cell offset size byte low high)))

    not_whole : list_all (is_from offset size) (map from (bytes_of offset size)) ≡ false
    not_whole =
        let ends = cell_ends offset size other inside in
        by_test (list_all (is_from offset size) (map from (bytes_of offset size)))
        (λ all. absurd (false≢true (sym apart ∙ each_passes (is_from offset size) from offset (size / 8) all other ends.0 ends.1)))
        (λ e. e)

    pointer_byte : (byte : ℕ) → is_byte_of offset size byte ≡ true → of_pointer (from byte) ≡ true
        → cell_in from offset size ≡ Err Mixed
    pointer_byte byte at pointer =
        let ends = cell_ends offset size byte at in
        let some : list_any of_pointer (map from (bytes_of offset size)) ≡ true = some_pass of_pointer from offset (size / 8) byte ends.0 ends.1 pointer in
        rw (all_full, not_whole, some) refl

    word_bytes : ((byte : ℕ) → is_byte_of offset size byte ≡ true → of_pointer (from byte) ≡ false)
        → cell_in from offset size ≡ Ok (Int size (word_of (map from (bytes_of offset size))))
    word_bytes words =
        let none : list_any of_pointer (map from (bytes_of offset size)) ≡ false =
        none_passes of_pointer from offset (size / 8) (λ byte low high. words byte (in_cell offset size byte low high)) in
        rw (all_full, not_whole, none) refl

pub load_empty : (row : FrameShape) (frames : List FrameShape) (history : List RunEvent) (frame offset size byte : ℕ)
    → IsCellOf row frames history frame offset size → is_byte_of offset size byte ≡ true
    → origin row.owner frame history byte ≡ None → load frames history (Ptr frame offset) size ≡ Err Uninit
load_empty row frames history frame offset size byte is inside none =
    load_cell row frames history frame offset size is ∙ empty_byte (origin row.owner frame history) offset size byte inside none

pub load_pointer : (row : FrameShape) (frames : List FrameShape) (history : List RunEvent) (frame offset size byte : ℕ) (left : Byte)
    → IsCellOf row frames history frame offset size → IsOfSeveral row.owner history frame offset size
    → is_byte_of offset size byte ≡ true → origin row.owner frame history byte ≡ Some left → is_pointer left.value ≡ true
    → load frames history (Ptr frame offset) size ≡ Err Mixed
load_pointer row frames history frame offset size byte left is several inside comes pointer =
    load_cell row frames history frame offset size is
    ∙ pointer_byte (origin row.owner frame history) offset size several.full several.other several.inside several.apart byte inside (ap of_pointer comes ∙ pointer)

pub load_word : (row : FrameShape) (frames : List FrameShape) (history : List RunEvent) (frame offset size : ℕ)
    → IsCellOf row frames history frame offset size → IsOfSeveral row.owner history frame offset size
    → ((byte : ℕ) (left : Byte) → is_byte_of offset size byte ≡ true → origin row.owner frame history byte ≡ Some left → is_pointer left.value ≡ false)
    → GivesWord row.owner frames history frame offset size
load_word row frames history frame offset size is several words = record {
  word = word_of (map (origin row.owner frame history) (bytes_of offset size));
  gives = load_cell row frames history frame offset size is
      ∙ word_bytes (origin row.owner frame history) offset size several.full several.other several.inside several.apart
      (λ byte inside. no_pointer (origin row.owner frame history byte) (λ left comes. words byte left inside comes));
  below = word_below_size (origin row.owner frame history) offset size;
  bytes = byte_at (origin row.owner frame history) offset (size / 8);
}
  where
    no_pointer : (o : Option Byte) → ((left : Byte) → o ≡ Some left → is_pointer left.value ≡ false)
        → of_pointer o ≡ false
    no_pointer None each = refl
    no_pointer (Some left) each = each left refl

-- a load within a word that was stored
module _ (from : ℕ → Option Byte) (offset size bits place width : ℕ) (small : bits < 2 ^ size) (is : IsCell width) (within : 8 * place + width ≤ size)
    (each : (byte : ℕ) → offset + place ≤ byte → byte < offset + place + width / 8 → from byte ≡ Some (left_by offset size (Int size bits) byte)) where
  -- of the whole word
  whole_read : place ≡ 0 → width ≡ size
      → cell_in from (offset + place) width ≡ Ok (Int width (bits / 2 ^ (8 * place) % 2 ^ width))
  whole_read none same =
      let start : offset ≡ offset + place = omega arith in
      let value : bits ≡ bits / 2 ^ (8 * place) % 2 ^ width =
      sym (ap (λ (n : ℕ). bits / 2 ^ (8 * n) % 2 ^ width) none ∙ ap (λ (n : ℕ). n % 2 ^ width) (div-one bits) ∙ ap (λ (n : ℕ). bits % 2 ^ n) same ∙ mod-eq_of_lt small) in
      whole_cell from (offset + place) width (Int size bits) is.0 (λ byte low high. each byte low high ∙ (λ i. Some (left_by (start i) (sym same i) (Int size bits) byte)))
      ∙ (λ i. Ok (Int (sym same i) (value i)))

  -- of a part of it
  part_read : ((place ≡ 0) → (width ≡ size) → ⊥)
      → cell_in from (offset + place) width ≡ Ok (Int width (bits / 2 ^ (8 * place) % 2 ^ width))
  part_read part =
      let first : offset + place < offset + place + width / 8 = omega (arith, is.0) in
      let apart : is_from (offset + place) width (from (offset + place)) ≡ false =
      ap (is_from (offset + place) width) (each (offset + place) (omega arith) first)
      ∙ by_test ((offset == offset + place) && (size == width))
      (λ same. let parts = and_parts _ _ same in let a = eqb-true offset (offset + place) parts.0 in let b = eqb-true size width parts.1 in absurd (part (omega arith) (sym b)))
      (λ e. e) in
      let comes : (byte : ℕ) → is_byte_of (offset + place) width byte ≡ true → from byte ≡ Some (left_by offset size (Int size bits) byte) =
      λ byte inside. (let ends = cell_ends (offset + place) width byte inside in each byte ends.0 ends.1) in
      let eights : 8 * (width / 8) ≡ width = omega (arith, is.1) in
      word_bytes from (offset + place) width (λ byte inside none. none_some (sym none ∙ comes byte inside))
      (offset + place) (in_cell (offset + place) width (offset + place) (omega arith) first) apart (λ byte inside. ap of_pointer (comes byte inside))
      ∙ ap (λ (n : ℕ). Ok (Int width n)) (stored_word from offset size bits (offset + place) place (width / 8) refl each ∙ ap (λ (n : ℕ). bits / 2 ^ (8 * place) % 2 ^ n) eights)
    where
      none_some : {left : Byte} → None ≡ Some left → ⊥
      none_some e = cc

  pub read_within : cell_in from (offset + place) width ≡ Ok (Int width (bits / 2 ^ (8 * place) % 2 ^ width))
  read_within = by_test ((place == 0) && (width == size))
      (λ same. let parts = and_parts _ _ same in whole_read (eqb-true place 0 parts.0) (eqb-true width size parts.1))
      (λ other. part_read (λ none same. false≢true (sym other ∙ and_from _ _ (eq-eqb place 0 none) (eq-eqb width size same))))

pub reads_back : (frames : List FrameShape) (history after : List RunEvent) (frame offset size bits place width : ℕ)
    → store frames history (Ptr frame offset) (Int size bits) ≡ Ok after → bits < 2 ^ size → IsCell width → 8 * place + width ≤ size
    → load frames after (Ptr frame (offset + place)) width ≡ Ok (Int width (bits / 2 ^ (8 * place) % 2 ^ width))
reads_back frames history after frame offset size bits place width is small cell within =
    let s = is_stored frames history after frame offset (Int size bits) is in
    let inside : (offset + place) * 8 + width ≤ s.0.bits = omega (arith, s.1.cell.within) in
    load_cell s.0 frames after frame (offset + place) width (cell_after s.0 frames history after frame offset (Int size bits) (offset + place) width s.1 inside)
    ∙ read_within (origin s.0.owner frame after) offset size bits place width small cell within (λ byte low high.
    stored_table s.0 frames history after frame offset (Int size bits) s.1 byte
    ∙ (let covered : is_byte_of offset size byte ≡ true = in_cell offset size byte (omega arith) (omega (arith, cell.1)) in rw covered refl))

-- a cell of a table whose bytes are of sound stores gives a value of its size
by_reading : (from : ℕ → Option Byte) (offset size : ℕ) (value : Value) (r : Result Value RunFault) → IsTable from
    → IsCell size
    → r ≡ cell_in from offset size → Reading (map from (bytes_of offset size)) offset size r → r ≡ Ok value → FitsValue size value
by_reading from offset size value r table cell same (reads_empty none e) is = let f : Err Uninit ≡ Ok value = sym e ∙ is in cc
by_reading from offset size value r table cell same (reads_whole some whole e) is =
    let one = table offset size cell whole in
    let v : Ok one.value ≡ Ok value = sym (whole_cell from offset size one.value cell.0 (λ byte low high. one.each byte (in_cell offset size byte low high))) ∙ sym same ∙ is in
    let w : one.value ≡ value = cc in
    subst (λ (x : Value). FitsValue size x) w one.fits
by_reading from offset size value r table cell same (reads_pointers some many pointer e) is = let f : Err Mixed ≡ Ok value = sym e ∙ is in cc
by_reading from offset size value r table cell same (reads_word some many words e) is =
    let v : Ok (Int size (word_of (map from (bytes_of offset size)))) ≡ Ok value = sym e ∙ is in
    let w : Int size (word_of (map from (bytes_of offset size))) ≡ value = cc in
    subst (λ (x : Value). FitsValue size x) w (refl, word_below_size from offset size)

-- a load of a sound history gives a value of the size that is loaded
pub load_fits : (frames : List FrameShape) (history : List RunEvent) (place value : Value) (size : ℕ) → IsSoundHistory history
    → IsCell size
    → load frames history place size ≡ Ok value → FitsValue size value
load_fits frames history (Int own word) value size sound cell is = cc
load_fits frames history (Ptr frame offset) value size sound cell is =
    let c = cell_loaded frames history frame offset size value is in
    by_reading (origin c.0.owner frame history) offset size value (cell_in (origin c.0.owner frame history) offset size) (origin_is_table c.0.owner frame history sound) cell refl
    (reading (origin c.0.owner frame history) offset size) (sym (load_cell c.0 frames history frame offset size c.1) ∙ is)

-- a result is exactly one of a value and a fault
pub exactly_one : {A B : Type 0} (r : Result A B)
    → (((a : A) × (r ≡ Ok a)) ⊎ ((b : B) × (r ≡ Err b))) × ((a : A) (b : B) → r ≡ Ok a → r ≡ Err b → ⊥)
exactly_one (Ok a) = (inl (a, refl), λ b c e f. cc)
exactly_one (Err b) = (inr (b, refl), λ a c e f. cc)
