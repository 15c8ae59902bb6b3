-- Laws of sharp frames.
--   load_exact                              a load gives exactly the run's result
--   strong_sharp, pinned_sharp, empty_sharp   calls
use Rattle.std.specs.Prelude.{IsSomeAnd}
use Rattle.std.proofs.Common.{◌≡◌, ◌⊎◌, inl, inr, sym, subst, ◌∙◌, ap, ℕ, zero, suc, true, false, List, map, Option, Some, None, Ok, refl, arith, ◌+◌, ◌-◌, ◌*◌, ◌<◌, ◌≤◌, ◌/◌}
use Rattle.std.specs.List.{list_all, list_any}
use Rattle.std.proofs.lemmas.Bool.{false≢true, cases_eq}
use Rattle.lists.specs.TestLaws.{by_test}
use Rattle.alf_ops.specs.declared.history.Value.{Value}
use Rattle.alf_ops.specs.declared.history.Value.TheVariants.{Int, Ptr}
use Rattle.alf_ops.specs.Histories.{Byte, put, offsets, bytes_of, bits_at, byte_of, is_byte_of, is_empty, of_pointer, word_of, cell_in, fits_in}
use Rattle.alf_ops.specs.Values.{bits_of, is_pointer, FitsValue}
use Rattle.alf_ops.specs.SpanLaws.{same_bytes, one_passes, each_passes, each_fails, none_passes}
use Rattle.alf_ops.specs.TableLaws.{put_same, put_other, cell_ends, below_cell, above_cell}
use Rattle.alf_ops.specs.WholeCells.{is_whole}
use Rattle.alf_ops.specs.Readings.{Reading, reads_empty, reads_whole, reads_pointers, reads_word}
use Rattle.alf_ops.specs.ReadingLaws.{reading}
use Rattle.memory_rules.specs.ValueSets.{ValueSets, IsValueSets, OnlyHas, OnlyCovers}
use Rattle.memory_rules.specs.Frames.{AbstractByte, Cell, FrameMem, is_stored, values_in, and_values, taken, not_kept, kept_or, is_same, share_byte, strong, new_byte, byte_part, pinned, empty, results, load_results}
use Rattle.memory_rules.specs.Covers.{ByteCovers, HoldsByte, IsCellSize, FrameSized, FrameCovers}
use Rattle.memory_rules.specs.Sharp.{ExactlyOne, Exactly, FrameSharp}
use Rattle.memory_rules.specs.FromBytes.{Concatenates, OnlyMember}
use Rattle.memory_rules.specs.FromByteLaws.{some_u, some_p, all_stored, bytes_concatenate, one_word, only_conc, both_hold}
use Rattle.memory_rules.specs.CellLaws.{same_is, apart}
use Rattle.memory_rules.specs.SharpFrames.{SharpValue, SharpByte}

-- a byte without a value: not all have one
missing : {W : Type 0} (bytes : ℕ → AbstractByte W) (offset count byte : ℕ) → offset ≤ byte → byte < offset + count
    → (bytes byte).value ≡ None
    → values_in (map bytes (offsets offset count)) ≡ None
missing bytes offset zero byte low high none = absurd (omega arith)
missing {W} bytes offset (suc count) byte low high none = elim (cases_eq byte offset) [
  | inl same ↦ let here : (bytes offset).value ≡ None = subst (λ (b : ℕ). (bytes b).value ≡ None) same none in rw here refl
  | inr differ ↦ rw (missing bytes (suc offset) count byte (omega arith) (omega arith) none) (further (bytes offset).value)
]
  where
    further : (value : Option W) → and_values value None ≡ None
    further None = refl
    further (Some word) = refl

module _ (d : ValueSets) (laws : IsValueSets d) where
  sharp_byte : (byte : AbstractByte d.Word) (stored : Option Byte) → ByteCovers d byte stored → ExactlyOne d byte
      → SharpByte d byte stored
  sharp_byte byte None covers (inl one) = one
  sharp_byte byte None covers (inr (inl one)) = absurd (false≢true (sym one.0 ∙ covers))
  sharp_byte byte None covers (inr (inr one)) = absurd (false≢true (sym one.0 ∙ covers))
  sharp_byte byte (Some stored) covers one = go stored.value stored.place covers one
    where
      no_value : (P : d.Word → Type 0) → byte.value ≡ None → IsSomeAnd byte.value P → ⊥
      no_value P none h = rw none at h

      go : (value : Value) (place : ℕ) → HoldsByte d byte value place → ExactlyOne d byte
          → SharpValue d byte value place
      go (Int size bits) place h (inl one) = absurd (no_value _ one.2 h)
      go (Int size bits) place h (inr (inl one)) = absurd (no_value _ one.2 h)
      go (Int size bits) place h (inr (inr (u, p, (word, k, is, only)))) =
          let has : d.has word 8 (byte_of place bits) = rw is at h in
          let same : byte_of place bits ≡ k = (only.1 8 (byte_of place bits) has).1 in
          (u, p, rw is (subst (λ (n : ℕ). OnlyHas d word 8 n) (sym same) only))
      go (Ptr frame offset) place h (inl one) = absurd (false≢true (sym one.1 ∙ h))
      go (Ptr frame offset) place h (inr (inl one)) = one
      go (Ptr frame offset) place h (inr (inr one)) = absurd (false≢true (sym one.1 ∙ h))

  module _ (bits : ℕ) (m : FrameMem d) (from : ℕ → Option Byte) (sized : FrameSized d m) (sharp : FrameSharp d bits m from) where
    at_byte : (byte : ℕ) → SharpByte d (m.bytes byte) (from byte)
    at_byte byte = sharp_byte (m.bytes byte) (from byte) (sharp.covers.bytes byte) (sharp.bytes byte)

    empty_at : (byte : ℕ) → is_empty (from byte) ≡ true → is_stored (m.bytes byte) ≡ false
    empty_at byte none = go (from byte) (at_byte byte) none
      where
        go : (stored : Option Byte) → SharpByte d (m.bytes byte) stored → is_empty stored ≡ true
            → is_stored (m.bytes byte) ≡ false
        go None one none = rw (one.2, one.1) refl
        go (Some stored) one none = absurd (false≢true none)

    stored_at : (byte : ℕ) → is_empty (from byte) ≡ false → (m.bytes byte).u ≡ false
    stored_at byte some = go (from byte) (at_byte byte) some
      where
        at : (value : Value) (place : ℕ) → SharpValue d (m.bytes byte) value place → (m.bytes byte).u ≡ false
        at (Int size bits) place one = one.0
        at (Ptr frame offset) place one = one.0

        go : (stored : Option Byte) → SharpByte d (m.bytes byte) stored → is_empty stored ≡ false
            → (m.bytes byte).u ≡ false
        go None one some = absurd (false≢true (sym some))
        go (Some stored) one some = at stored.value stored.place one

    pointer_at : (byte : ℕ) → of_pointer (from byte) ≡ true → (m.bytes byte).value ≡ None
    pointer_at byte pointer = go (from byte) (at_byte byte) pointer
      where
        at : (value : Value) (place : ℕ) → SharpValue d (m.bytes byte) value place → is_pointer value ≡ true
            → (m.bytes byte).value ≡ None
        at (Int size bits) place one pointer = absurd (false≢true pointer)
        at (Ptr frame offset) place one pointer = one.2

        go : (stored : Option Byte) → SharpByte d (m.bytes byte) stored → of_pointer stored ≡ true
            → (m.bytes byte).value ≡ None
        go None one pointer = absurd (false≢true pointer)
        go (Some stored) one pointer = at stored.value stored.place one pointer

    word_at : (byte : ℕ) → is_empty (from byte) ≡ false → of_pointer (from byte) ≡ false
        → ((m.bytes byte).p ≡ false) × IsSomeAnd (m.bytes byte).value (λ word. OnlyHas d word 8 (bits_at (from byte)))
    word_at byte some words = go (from byte) (at_byte byte) some words
      where
        at : (value : Value) (place : ℕ) → SharpValue d (m.bytes byte) value place → is_pointer value ≡ false
            → ((m.bytes byte).p ≡ false) × IsSomeAnd (m.bytes byte).value (λ word. OnlyHas d word 8 (byte_of place (bits_of value)))
        at (Int size bits) place one words = (one.1, one.2)
        at (Ptr frame offset) place one words = absurd (false≢true (sym words))

        go : (stored : Option Byte) → SharpByte d (m.bytes byte) stored → is_empty stored ≡ false
            → of_pointer stored ≡ false
            → ((m.bytes byte).p ≡ false) × IsSomeAnd (m.bytes byte).value (λ word. OnlyHas d word 8 (bits_at stored))
        go None one some words = absurd (false≢true (sym some))
        go (Some stored) one some words = at stored.value stored.place one words

    -- what is not kept gives exactly the load
    not_kept_exact : (offset size : ℕ) → IsCellSize size → is_whole from offset size ≡ false
        → Exactly d (cell_in from offset size) (results d (taken d m offset size) (not_kept (taken d m offset size)))
    not_kept_exact offset size is many = go (reading from offset size)
      where
        covered : (byte : ℕ) → ByteCovers d (m.bytes byte) (from byte)
        covered = sharp.covers.bytes

        no_u : list_any is_empty (map from (bytes_of offset size)) ≡ false
            → list_any (λ (byte : AbstractByte d.Word). byte.u) (taken d m offset size) ≡ false
        no_u some =
            none_passes (λ (byte : AbstractByte d.Word). byte.u) m.bytes offset (size / 8) (λ byte low high. stored_at byte (each_fails is_empty from offset (size / 8) some byte low high))

        go : Reading (map from (bytes_of offset size)) offset size (cell_in from offset size)
            → Exactly d (cell_in from offset size) (results d (taken d m offset size) (not_kept (taken d m offset size)))
        go (reads_empty none r) =
            let found = one_passes is_empty from offset (size / 8) none in
            let x : list_all is_stored (taken d m offset size) ≡ false = by_test (list_all is_stored (taken d m offset size))
            (λ all. absurd (false≢true (sym (empty_at found.0 found.3) ∙ each_passes is_stored m.bytes offset (size / 8) all found.0 found.1 found.2)))
            (λ not_all. not_all) in
            rw (r, some_u d laws m.bytes from covered offset (size / 8) none, x) (inl refl, (refl, tt))
        go (reads_whole some one r) = absurd (false≢true (sym many ∙ one))
        go (reads_pointers some more pointer r) =
            let found = one_passes of_pointer from offset (size / 8) pointer in
            let no_words : values_in (taken d m offset size) ≡ None = missing m.bytes offset (size / 8) found.0 found.1 found.2 (pointer_at found.0 found.3) in
            rw (r, no_u some, all_stored d laws m.bytes from covered offset (size / 8) some, no_words, some_p d laws m.bytes from covered offset (size / 8) pointer) (inl refl, (refl, tt))
        go (reads_word some more no_pointer r) =
            let each : (byte : ℕ) → offset ≤ byte → byte < offset + size / 8 → ((m.bytes byte).p ≡ false) × IsSomeAnd (m.bytes byte).value (λ word. OnlyHas d word 8 (bits_at (from byte))) =
            λ byte low high. word_at byte (each_fails is_empty from offset (size / 8) some byte low high) (each_fails of_pointer from offset (size / 8) no_pointer byte low high) in
            let n : size / 8 * 8 ≡ size = omega (arith, is.1) in
            let c = bytes_concatenate d (OnlyMember d) (only_conc d laws) m.bytes from offset (size / 8) (omega (arith, is.2)) (λ byte low high. both_hold (λ word. d.sized word 8) (λ word. OnlyHas d word 8 (bits_at (from byte))) (m.bytes byte).value (sized.bytes byte) (each byte low high).1) in
            let w = one_word d (OnlyMember d) (only_conc d laws) (taken d m offset size) size (word_of (map from (bytes_of offset size))) (omega (arith, is.0)) (subst (λ (k : ℕ). Concatenates d (OnlyMember d) (taken d m offset size) k (word_of (map from (bytes_of offset size)))) n c) in
            let no_p : list_any (λ (byte : AbstractByte d.Word). byte.p) (taken d m offset size) ≡ false = none_passes (λ (byte : AbstractByte d.Word). byte.p) m.bytes offset (size / 8) (λ byte low high. (each byte low high).0) in
            let only : OnlyCovers d (d.of_word w.0) (Int size (word_of (map from (bytes_of offset size)))) = only_of w.0 size (word_of (map from (bytes_of offset size))) w.2.1 in
            rw (r, no_u some, all_stored d laws m.bytes from covered offset (size / 8) some, w.1, no_p) (inl only.0, (only, tt))
          where
            only_of : (word : d.Word) (size bits : ℕ) → OnlyHas d word size bits
                → OnlyCovers d (d.of_word word) (Int size bits)
            only_of word size bits h = (
              laws.word_covers word size bits h.0,
              λ other covers.
                  let w = laws.covers_word word other covers in
                  let same = h.1 w.size w.bits w.member in
                  w.is ∙ (ap (λ (n : ℕ). Int n w.bits) same.0 ∙ ap (λ (n : ℕ). Int size n) same.1),
            )

    -- a load from a sharp frame is exact
    pub load_exact : (offset size : ℕ) → IsCellSize size → fits_in bits offset size ≡ true
        → Exactly d (cell_in from offset size) (load_results d m offset size)
    load_exact offset size is fits = go (m.cells offset size) refl
      where
        go : (kept : Option (Cell d.Val)) → m.cells offset size ≡ kept
            → Exactly d (cell_in from offset size) (results d (taken d m offset size) (kept_or kept (not_kept (taken d m offset size))))
        go None at = not_kept_exact offset size is (sharp.covers.others offset size at is)
        go (Some cell) at = sharp.kept offset size cell at is fits

  -- the byte that a sharp store leaves
  new_byte_sharp : (set : d.Val) (value : Value) (size place : ℕ) → d.val_sized set size → OnlyCovers d set value
      → FitsValue size value
      → 8 * place + 8 ≤ size → ExactlyOne d (new_byte d set place)
  new_byte_sharp set (Int own k) size place s only fits room =
      let w = laws.only_word set size own k s only in
      let inside : 8 * place + 8 ≤ own = omega (arith, fits.0) in
      let kept : d.sized w.word own = subst (λ (n : ℕ). d.sized w.word n) (sym fits.0) (laws.word_part_sized set size w.word s w.is) in
      let part : byte_part d place (d.word_part set) ≡ Some (d.byte place w.word) = rw w.is refl in
      inr (inr (refl, w.no_pointer, (d.byte place w.word, byte_of place k, part, laws.byte_only w.word own k place inside kept w.member)))
  new_byte_sharp set (Ptr frame offset) size place s only fits room =
      let p = laws.only_pointer set size frame offset s only in
      let part : byte_part d place (d.word_part set) ≡ None = rw p.0 refl in
      inr (inl (refl, p.1, part))

  -- results and loads depend on the bytes of the cell alone
  exact_same : (m n : FrameMem d) (from to : ℕ → Option Byte) (offset size : ℕ) (cell : Cell d.Val)
      → ((byte : ℕ) → offset ≤ byte → byte < offset + size / 8 → n.bytes byte ≡ m.bytes byte)
      → cell_in to offset size ≡ cell_in from offset size
      → Exactly d (cell_in from offset size) (results d (taken d m offset size) cell)
      → Exactly d (cell_in to offset size) (results d (taken d n offset size) cell)
  exact_same m n from to offset size cell bytes loads h =
      rw loads (subst (λ (taken : List (AbstractByte d.Word)). Exactly d (cell_in from offset size) (results d taken cell))
      (sym (same_bytes n.bytes m.bytes offset (size / 8) bytes)) h)

  -- a cell that is kept with one value gives exactly this value
  kept_exact : (bytes : List (AbstractByte d.Word)) (set : d.Val) (value : Value) → OnlyCovers d set value
      → Exactly d (Ok value) (results d bytes (record { value = Some set; u = false; x = false }))
  kept_exact bytes set value only = (inl only.0, (only, tt))

  -- after a store at the one possible cell
  pub strong_sharp : (bits : ℕ) (m : FrameMem d) (from : ℕ → Option Byte) (offset size : ℕ) (set : d.Val) (value : Value) → FrameSharp d bits m from
      → FrameCovers d bits (strong d m offset size set) (put offset size value from)
      → IsCellSize size → d.val_sized set size → OnlyCovers d set value → FitsValue size value
      → FrameSharp d bits (strong d m offset size set) (put offset size value from)
  strong_sharp bits m from offset size set value sharp covers is set_sized only fits = record {
    covers = covers;
    bytes = λ byte. by_test (is_byte_of offset size byte)
        (λ inside.
        let ends = cell_ends offset size byte inside in
        let room : 8 * (byte - offset) + 8 ≤ size = omega (arith, ends.0, ends.1) in
        rw inside (new_byte_sharp set value size (byte - offset) set_sized only fits room))
        (λ outside. rw outside (sharp.bytes byte));
    kept = λ place width cell kept width_is room. by_test (is_same offset size place width)
        (λ same.
        let at = same_is offset size place width same in
        let e : Some (record { value = Some set; u = false; x = false }) ≡ Some cell = rw same at kept in
        let c : record { value = Some set; u = false; x = false } ≡ cell = cc in
        let r : cell_in (put offset size value from) place width ≡ Ok value = rw (at.0, at.1) (put_same from offset size value is.0) in
        rw r (subst (λ (k : Cell d.Val). Exactly d (Ok value) (results d (taken d (strong d m offset size set) place width) k)) c (kept_exact (taken d (strong d m offset size set) place width) set value only)))
        (λ differ. by_test (share_byte offset size place width)
        (λ share. let none : None ≡ Some cell = rw (differ, share) at kept in cc)
        (λ alone.
        let same : m.cells place width ≡ Some cell = rw (differ, alone) at kept in
        let away : (place + width / 8 ≤ offset) ⊎ (offset + size / 8 ≤ place) = apart offset size place width alone in
        exact_same m (strong d m offset size set) from (put offset size value from) place width cell
        (λ byte low high.
        let outside : is_byte_of offset size byte ≡ false = elim away [ inl below ↦ below_cell offset size byte (omega arith) | inr above ↦ above_cell offset size byte (omega arith) ] in
        rw outside refl)
        (put_other from offset size value place width away) (sharp.kept place width cell same width_is room)));
  }

  -- after a cell is pinned to the one value that it holds
  pub pinned_sharp : (bits : ℕ) (m : FrameMem d) (from : ℕ → Option Byte) (offset size : ℕ) (set : d.Val) (value : Value) → FrameSharp d bits m from
      → FrameCovers d bits (pinned d m offset size set) from
      → cell_in from offset size ≡ Ok value → OnlyCovers d set value → FrameSharp d bits (pinned d m offset size set) from
  pinned_sharp bits m from offset size set value sharp covers gives only = record {
    covers = covers;
    bytes = sharp.bytes;
    kept = λ place width cell kept width_is room. by_test (is_same offset size place width)
        (λ same.
        let at = same_is offset size place width same in
        let e : Some (record { value = Some set; u = false; x = false }) ≡ Some cell = rw same at kept in
        let c : record { value = Some set; u = false; x = false } ≡ cell = cc in
        rw (at.0, at.1, gives) (subst (λ (k : Cell d.Val). Exactly d (Ok value) (results d (taken d m offset size) k)) c (kept_exact (taken d m offset size) set value only)))
        (λ differ. sharp.kept place width cell (rw differ at kept) width_is room);
  }

  pub empty_sharp : (bits : ℕ) → FrameCovers d bits (empty d) (λ byte. None)
      → FrameSharp d bits (empty d) (λ byte. None)
  empty_sharp bits covers = record {
    covers = covers;
    bytes = λ byte. inl (refl, refl, refl);
    kept = λ offset size cell kept is room. cc;
  }
