-- Laws of cells.
--   same_is, apart, shared   cells that are the same, lie apart or share a byte
--   broken                              after a store no other cell that shares a byte with it is whole
--   not_kept_holds, stands_holds        a cell as it stands covers what it gives
use Rattle.std.proofs.Common.{◌≡◌, ◌⊎◌, inl, inr, sym, subst, ◌∙◌, ℕ, max, true, false, map, Option, Some, None, refl, arith, ◌+◌, ◌<◌, ◌≤◌, ◌/◌, ◌&&◌, ◌==◌}
use Rattle.std.proofs.lemmas.Bool.{and_parts, and_cases, and_from, ltb-true, ltb-false, eqb-true, eq-eqb, false≢true}
use Rattle.lists.specs.TestLaws.{by_test}
use Rattle.alf_ops.specs.declared.history.Value.{Value}
use Rattle.alf_ops.specs.Histories.{Byte, left_by, put, bytes_of, is_from, cell_in, fits_in}
use Rattle.alf_ops.specs.SpanLaws.{each_passes}
use Rattle.alf_ops.specs.TableLaws.{in_cell}
use Rattle.alf_ops.specs.WholeCells.{is_whole}
use Rattle.alf_ops.specs.Readings.{Reading, reads_empty, reads_whole, reads_pointers, reads_word}
use Rattle.alf_ops.specs.ReadingLaws.{reading}
use Rattle.memory_rules.specs.ValueSets.{ValueSets, IsValueSets}
use Rattle.memory_rules.specs.Frames.{Cell, FrameMem, taken, stands, not_kept, kept_or, is_same, share_byte}
use Rattle.memory_rules.specs.Covers.{IsCellSize}
use Rattle.memory_rules.specs.FromByteLaws.{some_u, all_stored}
use Rattle.memory_rules.specs.Flags.{FlagCovers}
use Rattle.memory_rules.specs.Holds.{FrameHolds}

pub same_is : (offset size place width : ℕ) → is_same offset size place width ≡ true → (place ≡ offset) × (width ≡ size)
same_is offset size place width same =
    let parts = and_parts _ _ same in
    (eqb-true place offset parts.0, eqb-true width size parts.1)

-- cells that share no byte lie apart
pub apart : (offset size place width : ℕ) → share_byte offset size place width ≡ false
    → (place + width / 8 ≤ offset) ⊎ (offset + size / 8 ≤ place)
apart offset size place width none = elim (and_cases _ _ none) [
  | inl a ↦ inl (ltb-false offset (place + width / 8) a)
  | inr b ↦ inr (ltb-false place (offset + size / 8) b)
]

-- cells that share a byte
pub shared : (offset size place width : ℕ) → IsCellSize size → IsCellSize width
    → share_byte offset size place width ≡ true
    → (byte : ℕ) × (offset ≤ byte) × (byte < offset + size / 8) × (place ≤ byte) × (byte < place + width / 8)
shared offset size place width is is_too share =
    let parts = and_parts _ _ share in
    let a : offset < place + width / 8 = ltb-true offset (place + width / 8) parts.0 in
    let b : place < offset + size / 8 = ltb-true place (offset + size / 8) parts.1 in
    (max offset place, omega arith, omega (arith, is.0), omega arith, omega (arith, is_too.0))

-- after a store no other cell that shares a byte with it is whole
pub broken : (from : ℕ → Option Byte) (offset size : ℕ) (value : Value) (place width : ℕ) → IsCellSize size
    → IsCellSize width
    → is_same offset size place width ≡ false → share_byte offset size place width ≡ true → is_whole (put offset size value from) place width ≡ false
broken from offset size value place width is is_too differ share = by_test (is_whole (put offset size value from) place width)
    (λ whole.
    let found = shared offset size place width is is_too share in
    let from_cell : is_from place width (put offset size value from found.0) ≡ true = each_passes (is_from place width) (put offset size value from) place (width / 8) whole found.0 found.3 found.4 in
    let at : put offset size value from found.0 ≡ Some (left_by offset size value found.0) = rw (in_cell offset size found.0 found.1 found.2) refl in
    let same : ((offset == place) && (size == width)) ≡ true = subst (λ (byte : Option Byte). is_from place width byte ≡ true) at from_cell in
    let parts = and_parts _ _ same in
    let o : place ≡ offset = sym (eqb-true offset place parts.0) in
    let s : width ≡ size = sym (eqb-true size width parts.1) in
    absurd (false≢true (sym differ ∙ and_from _ _ (eq-eqb place offset o) (eq-eqb width size s))))
    (λ no_whole. no_whole)

module _ (d : ValueSets) (laws : IsValueSets d) (bits : ℕ) (m : FrameMem d) (from : ℕ → Option Byte) (h : FrameHolds d bits m from) where
  -- what is not kept covers the load by its flags
  pub not_kept_holds : (offset size : ℕ) → is_whole from offset size ≡ false
      → FlagCovers d (not_kept (taken d m offset size)) (cell_in from offset size)
  not_kept_holds offset size many = go (reading from offset size)
    where
      go : Reading (map from (bytes_of offset size)) offset size (cell_in from offset size)
          → FlagCovers d (not_kept (taken d m offset size)) (cell_in from offset size)
      go (reads_empty none r) = rw r (some_u d laws m.bytes from h.bytes offset (size / 8) none)
      go (reads_whole some one r) = absurd (false≢true (sym many ∙ one))
      go (reads_pointers some more pointer r) = rw r (all_stored d laws m.bytes from h.bytes offset (size / 8) some)
      go (reads_word some more no_pointer r) = rw r (inr (all_stored d laws m.bytes from h.bytes offset (size / 8) some, refl))

  -- a cell as it stands covers the load
  pub stands_holds : (offset size : ℕ) → IsCellSize size → fits_in bits offset size ≡ true
      → FlagCovers d (stands d m offset size) (cell_in from offset size)
  stands_holds offset size is fits = go (m.cells offset size) refl
    where
      go : (kept : Option (Cell d.Val)) → m.cells offset size ≡ kept
          → FlagCovers d (kept_or kept (not_kept (taken d m offset size))) (cell_in from offset size)
      go None at = not_kept_holds offset size (h.others offset size at is)
      go (Some cell) at = h.kept offset size cell at is fits
