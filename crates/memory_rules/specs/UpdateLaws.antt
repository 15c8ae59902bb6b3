-- Each call on a frame keeps covering.
--   strong_holds                a store to the one possible cell
--   weak_stores, weak_holds     to one of several, where it is this one, and where it is another
--   joined_holds_left, joined_holds_right, pinned_holds, empty_holds
--   weak_sized, strong_sized, joined_sized, pinned_sized, empty_sized, stands_sized   the values keep their sizes
use Rattle.std.specs.Prelude.{IfSome, is_some}
use Rattle.std.proofs.Common.{◌≡◌, ◌⊎◌, inl, inr, sym, subst, ◌∙◌, ap, ℕ, zero, suc, true, false, List, map, Option, Some, None, Result, Ok, Err, refl, arith, ◌+◌, ◌-◌, ◌*◌, ◌<◌, ◌≤◌, ◌/◌, ◌||◌}
use Rattle.std.specs.List.{list_all, list_any}
use Rattle.std.proofs.lemmas.Bool.{or_parts, false≢true}
use Rattle.lists.specs.TestLaws.{by_test}
use Rattle.alf_ops.specs.declared.history.Value.{Value}
use Rattle.alf_ops.specs.declared.history.RunFault.{RunFault}
use Rattle.alf_ops.specs.declared.history.RunFault.TheVariants.{Uninit}
use Rattle.alf_ops.specs.Histories.{Byte, left_by, put, offsets, bytes_of, is_byte_of, is_from, is_empty, cell_in, fits_in}
use Rattle.alf_ops.specs.SpanLaws.{same_bytes, one_passes, some_pass}
use Rattle.alf_ops.specs.TableLaws.{put_same, put_other, put_elsewhere, cell_ends, below_cell, above_cell}
use Rattle.alf_ops.specs.Values.{FitsValue}
use Rattle.alf_ops.specs.WholeCells.{is_whole}
use Rattle.alf_ops.specs.Readings.{Reading, reads_empty, reads_whole, reads_pointers, reads_word}
use Rattle.alf_ops.specs.ReadingLaws.{reading}
use Rattle.memory_rules.specs.ValueSets.{ValueSets, IsValueSets}
use Rattle.memory_rules.specs.Frames.{Cell, FrameMem, taken, stands, not_kept, kept_or, is_same, share_byte, strong, weak, with_x, weak_cell, new_byte, byte_part, joined, join_cells, pinned, empty}
use Rattle.memory_rules.specs.Covers.{HoldsByte, IsCellSize, FrameSized}
use Rattle.memory_rules.specs.Flags.{FlagCovers}
use Rattle.memory_rules.specs.Holds.{FrameHolds}
use Rattle.memory_rules.specs.CellLaws.{same_is, apart, broken, stands_holds}
use Rattle.memory_rules.specs.AboveLaws.{new_byte_holds, weak_old, weak_new, weak_cell_old, weak_cell_new, join_bytes_left, join_bytes_right, join_cells_left, join_cells_right, cell_above, either_alike}

-- a cell that lies apart from a store is whole where it was
pub whole_apart : (from : ℕ → Option Byte) (offset size : ℕ) (value : Value) (place width : ℕ)
    → (place + width / 8 ≤ offset) ⊎ (offset + size / 8 ≤ place)
    → is_whole (put offset size value from) place width ≡ is_whole from place width
whole_apart from offset size value place width apart =
    ap (λ (bytes : List (Option Byte)). list_all (is_from place width) bytes)
    (same_bytes (put offset size value from) from place (width / 8)
    (λ byte low high. put_elsewhere from offset size value byte (elim apart [ inl below ↦ below_cell offset size byte (omega arith) | inr above ↦ above_cell offset size byte (omega arith) ])))

module _ (d : ValueSets) (laws : IsValueSets d) where
  pub stands_sized : (m : FrameMem d) → FrameSized d m → (offset size : ℕ)
      → IfSome (stands d m offset size).value (λ set. d.val_sized set size)
  stands_sized m sized offset size = go (m.cells offset size) refl
    where
      go : (kept : Option (Cell d.Val)) → m.cells offset size ≡ kept
          → IfSome (kept_or kept (not_kept (taken d m offset size))).value (λ set. d.val_sized set size)
      go None at = tt
      go (Some cell) at = sized.kept offset size cell at

  new_byte_sized : (set : d.Val) (size place : ℕ) → 8 * place + 8 ≤ size → d.val_sized set size
      → IfSome (new_byte d set place).value (λ word. d.sized word 8)
  new_byte_sized set size place room s = go (d.word_part set) (λ word is. laws.word_part_sized set size word s is)
    where
      go : (part : Option d.Word) → ((word : d.Word) → part ≡ Some word → d.sized word size)
          → IfSome (byte_part d place part) (λ word. d.sized word 8)
      go None each = tt
      go (Some word) each = laws.byte_sized word size place room (each word refl)

-- a byte of a cell has room in it
pub byte_room : (offset size byte : ℕ) → IsCellSize size → is_byte_of offset size byte ≡ true
    → 8 * (byte - offset) + 8 ≤ size
byte_room offset size byte is inside =
    let ends = cell_ends offset size byte inside in
    omega (arith, is.0, is.1, ends.0, ends.1)

module _ (d : ValueSets) (laws : IsValueSets d) (bits : ℕ) (m : FrameMem d) (from : ℕ → Option Byte) (h : FrameHolds d bits m from) where
  module _ (offset size : ℕ) (set : d.Val) (is : IsCellSize size) (set_sized : d.val_sized set size) where
    module _ (value : Value) (covers : d.covers set value) (fits : FitsValue size value) where
      in_room : (byte : ℕ) → is_byte_of offset size byte ≡ true
          → HoldsByte d (new_byte d set (byte - offset)) value (byte - offset)
      in_room byte inside =
          let ends = cell_ends offset size byte inside in
          let room : 8 * (byte - offset) + 8 ≤ size = omega (arith, ends.0, ends.1) in
          new_byte_holds d laws set value size (byte - offset) set_sized covers fits room

      -- the one possible cell
      pub strong_holds : FrameHolds d bits (strong d m offset size set) (put offset size value from)
      strong_holds = record {
        bytes = λ byte. by_test (is_byte_of offset size byte) (λ inside. rw inside (in_room byte inside)) (λ outside. rw outside (h.bytes byte));
        kept = λ place width cell kept width_is room. by_test (is_same offset size place width)
            (λ same.
            let at = same_is offset size place width same in
            let e : Some (record { value = Some set; u = false; x = false }) ≡ Some cell = rw same at kept in
            let c : record { value = Some set; u = false; x = false } ≡ cell = cc in
            let r : cell_in (put offset size value from) place width ≡ Ok value = rw (at.0, at.1) (put_same from offset size value is.0) in
            rw r (subst (λ (k : Cell d.Val). FlagCovers d k (Ok value)) c (inl covers)))
            (λ differ. by_test (share_byte offset size place width)
            (λ share. let none : None ≡ Some cell = rw (differ, share) at kept in cc)
            (λ alone.
            let same : m.cells place width ≡ Some cell = rw (differ, alone) at kept in
            rw (put_other from offset size value place width (apart offset size place width alone)) (h.kept place width cell same width_is room)));
        others = λ place width none width_is. by_test (is_same offset size place width)
            (λ same. let e : Some (record { value = Some set; u = false; x = false }) ≡ None = rw same at none in cc)
            (λ differ. by_test (share_byte offset size place width)
            (λ share. broken from offset size value place width is width_is differ share)
            (λ alone.
            let same : m.cells place width ≡ None = rw (differ, alone) at none in
            whole_apart from offset size value place width (apart offset size place width alone) ∙ h.others place width same width_is));
      }

      -- a byte that the store leaves empty was empty, so a load that is uninit was uninit
      was_uninit : (place width : ℕ)
          → list_any is_empty (map (put offset size value from) (bytes_of place width)) ≡ true
          → cell_in from place width ≡ Err Uninit
      was_uninit place width none =
          let found = one_passes is_empty (put offset size value from) place (width / 8) none in
          let bare : is_empty (from found.0) ≡ true = by_test (is_byte_of offset size found.0)
          (λ inside. let e : false ≡ true = rw inside at found.3 in absurd (false≢true e))
          (λ outside. rw outside at found.3) in
          let some : list_any is_empty (map from (bytes_of place width)) ≡ true = some_pass is_empty from place (width / 8) found.0 found.1 found.2 bare in
          rw some refl

      -- after the store a kept cell that shares a byte with it is read from bytes
      shared_holds : (place width : ℕ) (cell : Cell d.Val) → IsCellSize width → is_same offset size place width ≡ false
          → share_byte offset size place width ≡ true → FlagCovers d cell (cell_in from place width)
          → FlagCovers d (record { value = cell.value; u = cell.u; x = true }) (cell_in (put offset size value from) place width)
      shared_holds place width cell width_is differ share old = go (reading (put offset size value from) place width)
        where
          go : Reading (map (put offset size value from) (bytes_of place width)) place width (cell_in (put offset size value from) place width)
              → FlagCovers d (record { value = cell.value; u = cell.u; x = true }) (cell_in (put offset size value from) place width)
          go (reads_empty none r) =
              let u : cell.u ≡ true = subst (λ (r : Result Value RunFault). FlagCovers d cell r) (was_uninit place width none) old in
              rw r u
          go (reads_whole some one r) = absurd (false≢true (sym (broken from offset size value place width is width_is differ share) ∙ one))
          go (reads_pointers some many pointer r) = rw r refl
          go (reads_word some many no_pointer r) = rw r (inr (refl, refl))

      -- one of several possible cells, and the one that is stored
      pub weak_stores : FrameSized d m → fits_in bits offset size ≡ true
          → FrameHolds d bits (weak d m offset size set) (put offset size value from)
      weak_stores sized in_frame = record {
        bytes = λ byte. by_test (is_byte_of offset size byte)
            (λ inside. rw inside (weak_new d laws (m.bytes byte) (new_byte d set (byte - offset)) (sized.bytes byte) (new_byte_sized d laws set size (byte - offset) (byte_room offset size byte is inside) set_sized) (left_by offset size value byte) (in_room byte inside)))
            (λ outside. rw outside (h.bytes byte));
        kept = λ place width cell kept width_is room. by_test (is_same offset size place width)
            (λ same.
            let at = same_is offset size place width same in
            let e : Some (weak_cell d (stands d m offset size) set) ≡ Some cell = rw same at kept in
            let c : weak_cell d (stands d m offset size) set ≡ cell = cc in
            let r : cell_in (put offset size value from) place width ≡ Ok value = rw (at.0, at.1) (put_same from offset size value is.0) in
            rw r (subst (λ (k : Cell d.Val). FlagCovers d k (Ok value)) c (weak_cell_new d laws size (stands d m offset size) set (stands_sized d laws m sized offset size) set_sized value covers)))
            (λ differ. by_test (share_byte offset size place width)
            (λ share. marked place width cell (m.cells place width) refl (rw (differ, share) at kept) width_is room differ share)
            (λ alone.
            let same : m.cells place width ≡ Some cell = rw (differ, alone) at kept in
            rw (put_other from offset size value place width (apart offset size place width alone)) (h.kept place width cell same width_is room)));
        others = λ place width none width_is. by_test (is_same offset size place width)
            (λ same. let e : Some (weak_cell d (stands d m offset size) set) ≡ None = rw same at none in cc)
            (λ differ. by_test (share_byte offset size place width)
            (λ share. broken from offset size value place width is width_is differ share)
            (λ alone.
            let same : m.cells place width ≡ None = rw (differ, alone) at none in
            whole_apart from offset size value place width (apart offset size place width alone) ∙ h.others place width same width_is));
      }
        where
          marked : (place width : ℕ) (cell : Cell d.Val) (kept : Option (Cell d.Val)) → m.cells place width ≡ kept
              → with_x d kept ≡ Some cell
              → IsCellSize width → fits_in bits place width ≡ true → is_same offset size place width ≡ false → share_byte offset size place width ≡ true
              → FlagCovers d cell (cell_in (put offset size value from) place width)
          marked place width cell None at e width_is room differ share = cc
          marked place width cell (Some old) at e width_is room differ share =
              let c : record { value = old.value; u = old.u; x = true } ≡ cell = cc in
              subst (λ (k : Cell d.Val). FlagCovers d k (cell_in (put offset size value from) place width)) c
              (shared_holds place width old width_is differ share (h.kept place width old at width_is room))

    -- one of several possible cells, where another is stored
    pub weak_holds : FrameSized d m → fits_in bits offset size ≡ true
        → FrameHolds d bits (weak d m offset size set) from
    weak_holds sized in_frame = record {
      bytes = λ byte. by_test (is_byte_of offset size byte)
          (λ inside. rw inside (weak_old d laws (m.bytes byte) (new_byte d set (byte - offset)) (sized.bytes byte) (new_byte_sized d laws set size (byte - offset) (byte_room offset size byte is inside) set_sized) (from byte) (h.bytes byte)))
          (λ outside. rw outside (h.bytes byte));
      kept = λ place width cell kept width_is room. by_test (is_same offset size place width)
          (λ same.
          let at = same_is offset size place width same in
          let e : Some (weak_cell d (stands d m offset size) set) ≡ Some cell = rw same at kept in
          let c : weak_cell d (stands d m offset size) set ≡ cell = cc in
          rw (at.0, at.1) (subst (λ (k : Cell d.Val). FlagCovers d k (cell_in from offset size)) c
          (weak_cell_old d laws size (stands d m offset size) set (stands_sized d laws m sized offset size) set_sized (cell_in from offset size) (stands_holds d laws bits m from h offset size is in_frame))))
          (λ differ. by_test (share_byte offset size place width)
          (λ share. marked place width cell (m.cells place width) refl (rw (differ, share) at kept) width_is room)
          (λ alone. h.kept place width cell (rw (differ, alone) at kept) width_is room));
      others = λ place width none width_is. by_test (is_same offset size place width)
          (λ same. let e : Some (weak_cell d (stands d m offset size) set) ≡ None = rw same at none in cc)
          (λ differ. by_test (share_byte offset size place width)
          (λ share. h.others place width (unmarked (m.cells place width) (rw (differ, share) at none)) width_is)
          (λ alone. h.others place width (rw (differ, alone) at none) width_is));
    }
      where
        unmarked : (kept : Option (Cell d.Val)) → with_x d kept ≡ None → kept ≡ None
        unmarked None e = refl
        unmarked (Some cell) e = cc

        marked : (place width : ℕ) (cell : Cell d.Val) (kept : Option (Cell d.Val)) → m.cells place width ≡ kept
            → with_x d kept ≡ Some cell
            → IsCellSize width → fits_in bits place width ≡ true → FlagCovers d cell (cell_in from place width)
        marked place width cell None at e width_is room = cc
        marked place width cell (Some old) at e width_is room =
            let c : record { value = old.value; u = old.u; x = true } ≡ cell = cc in
            subst (λ (k : Cell d.Val). FlagCovers d k (cell_in from place width)) c
            (cell_above d laws old (record { value = old.value; u = old.u; x = true }) (λ value v. v) (λ u. u) (λ x. refl) (cell_in from place width) (h.kept place width old at width_is room))

    -- a cell is pinned to a value that covers what it holds
    pub pinned_holds : (value : Value) → cell_in from offset size ≡ Ok value → d.covers set value
        → FrameHolds d bits (pinned d m offset size set) from
    pinned_holds value gives covers = record {
      bytes = h.bytes;
      kept = λ place width cell kept width_is room. by_test (is_same offset size place width)
          (λ same.
          let at = same_is offset size place width same in
          let e : Some (record { value = Some set; u = false; x = false }) ≡ Some cell = rw same at kept in
          let c : record { value = Some set; u = false; x = false } ≡ cell = cc in
          rw (at.0, at.1, gives) (subst (λ (k : Cell d.Val). FlagCovers d k (Ok value)) c (inl covers)))
          (λ differ. h.kept place width cell (rw differ at kept) width_is room);
      others = λ place width none width_is. by_test (is_same offset size place width)
          (λ same. let e : Some (record { value = Some set; u = false; x = false }) ≡ None = rw same at none in cc)
          (λ differ. h.others place width (rw differ at none) width_is);
    }

-- two sides: what covers on one side covers after the join
module _ (d : ValueSets) (laws : IsValueSets d) (bits : ℕ) (a b : FrameMem d) (from : ℕ → Option Byte) where
  join_kept : (offset size : ℕ) (cell : Cell d.Val) → (joined d a b).cells offset size ≡ Some cell
      → join_cells d (stands d a offset size) (stands d b offset size) ≡ cell
  join_kept offset size cell kept = by_test (is_some (a.cells offset size) || is_some (b.cells offset size))
      (λ some. let e : Some (join_cells d (stands d a offset size) (stands d b offset size)) ≡ Some cell = rw some at kept in cc)
      (λ none. let e : None ≡ Some cell = rw none at kept in cc)

  join_none : (offset size : ℕ) → (joined d a b).cells offset size ≡ None
      → (a.cells offset size ≡ None) × (b.cells offset size ≡ None)
  join_none offset size none = by_test (is_some (a.cells offset size) || is_some (b.cells offset size))
      (λ some. let e : Some (join_cells d (stands d a offset size) (stands d b offset size)) ≡ None = rw some at none in cc)
      (λ neither. let parts = or_parts _ _ neither in (not_some (a.cells offset size) parts.0, not_some (b.cells offset size) parts.1))
    where
      not_some : (kept : Option (Cell d.Val)) → is_some kept ≡ false → kept ≡ None
      not_some None e = refl
      not_some (Some cell) e = cc

  pub joined_holds_left : FrameSized d a → FrameSized d b → FrameHolds d bits a from
      → FrameHolds d bits (joined d a b) from
  joined_holds_left s t h = record {
    bytes = λ byte. join_bytes_left d laws (a.bytes byte) (b.bytes byte) (s.bytes byte) (t.bytes byte) (from byte) (h.bytes byte);
    kept = λ offset size cell kept is room. subst (λ (k : Cell d.Val). FlagCovers d k (cell_in from offset size)) (join_kept offset size cell kept)
        (join_cells_left d laws size (stands d a offset size) (stands d b offset size) (stands_sized d laws a s offset size) (stands_sized d laws b t offset size) (cell_in from offset size) (stands_holds d laws bits a from h offset size is room));
    others = λ offset size none is. h.others offset size (join_none offset size none).0 is;
  }

  pub joined_holds_right : FrameSized d a → FrameSized d b → FrameHolds d bits b from
      → FrameHolds d bits (joined d a b) from
  joined_holds_right s t h = record {
    bytes = λ byte. join_bytes_right d laws (a.bytes byte) (b.bytes byte) (s.bytes byte) (t.bytes byte) (from byte) (h.bytes byte);
    kept = λ offset size cell kept is room. subst (λ (k : Cell d.Val). FlagCovers d k (cell_in from offset size)) (join_kept offset size cell kept)
        (join_cells_right d laws size (stands d a offset size) (stands d b offset size) (stands_sized d laws a s offset size) (stands_sized d laws b t offset size) (cell_in from offset size) (stands_holds d laws bits b from h offset size is room));
    others = λ offset size none is. h.others offset size (join_none offset size none).1 is;
  }

-- a frame whose function is entered
pub empty_holds : (d : ValueSets) (bits : ℕ) → FrameHolds d bits (empty d) (λ byte. None)
empty_holds d bits = record {
  bytes = λ byte. refl;
  kept = λ offset size cell kept is room. cc;
  others = λ offset size none is. first offset (size / 8) size is.0;
}
  where
    first : (offset count size : ℕ) → 0 < count
        → list_all (is_from offset size) (map (λ byte. None) (offsets offset count)) ≡ false
    first offset zero size some = absurd (omega arith)
    first offset (suc count) size some = refl

-- each call keeps the sizes
module _ (d : ValueSets) (laws : IsValueSets d) where
  pub weak_sized : (m : FrameMem d) (offset size : ℕ) (set : d.Val) → IsCellSize size → FrameSized d m
      → d.val_sized set size
      → FrameSized d (weak d m offset size set)
  weak_sized m offset size set is sized set_sized = record {
    bytes = λ byte. by_test (is_byte_of offset size byte)
        (λ inside. rw inside (either_alike d.join_words (λ w. d.sized w 8) (λ w. d.sized w 8) (λ x y. laws.joined_words_sized x y 8) (m.bytes byte).value (new_byte d set (byte - offset)).value (sized.bytes byte) (new_byte_sized d laws set size (byte - offset) (byte_room offset size byte is inside) set_sized)))
        (λ outside. rw outside (sized.bytes byte));
    kept = λ place width cell kept. by_test (is_same offset size place width)
        (λ same.
        let at = same_is offset size place width same in
        let e : Some (weak_cell d (stands d m offset size) set) ≡ Some cell = rw same at kept in
        let c : weak_cell d (stands d m offset size) set ≡ cell = cc in
        rw at.1 (subst (λ (k : Cell d.Val). IfSome k.value (λ v. d.val_sized v size)) c
        (either_alike d.join (λ v. d.val_sized v size) (λ v. d.val_sized v size) (λ x y. laws.joined_sized x y size) (stands d m offset size).value (Some set) (stands_sized d laws m sized offset size) set_sized)))
        (λ differ. by_test (share_byte offset size place width)
        (λ share. marked place width cell (m.cells place width) refl (rw (differ, share) at kept))
        (λ alone. sized.kept place width cell (rw (differ, alone) at kept)));
  }
    where
      marked : (place width : ℕ) (cell : Cell d.Val) (kept : Option (Cell d.Val)) → m.cells place width ≡ kept
          → with_x d kept ≡ Some cell
          → IfSome cell.value (λ v. d.val_sized v width)
      marked place width cell None at e = cc
      marked place width cell (Some old) at e =
          let c : record { value = old.value; u = old.u; x = true } ≡ cell = cc in
          subst (λ (k : Cell d.Val). IfSome k.value (λ v. d.val_sized v width)) c (sized.kept place width old at)

  pub strong_sized : (m : FrameMem d) (offset size : ℕ) (set : d.Val) → IsCellSize size → FrameSized d m
      → d.val_sized set size
      → FrameSized d (strong d m offset size set)
  strong_sized m offset size set is sized set_sized = record {
    bytes =
        λ byte. by_test (is_byte_of offset size byte) (λ inside. rw inside (new_byte_sized d laws set size (byte - offset) (byte_room offset size byte is inside) set_sized)) (λ outside. rw outside (sized.bytes byte));
    kept = λ place width cell kept. by_test (is_same offset size place width)
        (λ same.
        let at = same_is offset size place width same in
        let e : Some (record { value = Some set; u = false; x = false }) ≡ Some cell = rw same at kept in
        let c : record { value = Some set; u = false; x = false } ≡ cell = cc in
        rw at.1 (subst (λ (k : Cell d.Val). IfSome k.value (λ v. d.val_sized v size)) c set_sized))
        (λ differ. by_test (share_byte offset size place width)
        (λ share. let none : None ≡ Some cell = rw (differ, share) at kept in cc)
        (λ alone. sized.kept place width cell (rw (differ, alone) at kept)));
  }

  pub joined_sized : (a b : FrameMem d) → FrameSized d a → FrameSized d b → FrameSized d (joined d a b)
  joined_sized a b s t = record {
    bytes =
        λ byte. either_alike d.join_words (λ w. d.sized w 8) (λ w. d.sized w 8) (λ x y. laws.joined_words_sized x y 8) (a.bytes byte).value (b.bytes byte).value (s.bytes byte) (t.bytes byte);
    kept =
        λ offset size cell kept. subst (λ (k : Cell d.Val). IfSome k.value (λ v. d.val_sized v size)) (join_kept d laws 0 a b (λ byte. None) offset size cell kept)
        (either_alike d.join (λ v. d.val_sized v size) (λ v. d.val_sized v size) (λ x y. laws.joined_sized x y size) (stands d a offset size).value (stands d b offset size).value (stands_sized d laws a s offset size) (stands_sized d laws b t offset size));
  }

  pub pinned_sized : (m : FrameMem d) (offset size : ℕ) (set : d.Val) → FrameSized d m → d.val_sized set size
      → FrameSized d (pinned d m offset size set)
  pinned_sized m offset size set sized set_sized = record {
    bytes = sized.bytes;
    kept = λ place width cell kept. by_test (is_same offset size place width)
        (λ same.
        let at = same_is offset size place width same in
        let e : Some (record { value = Some set; u = false; x = false }) ≡ Some cell = rw same at kept in
        let c : record { value = Some set; u = false; x = false } ≡ cell = cc in
        rw at.1 (subst (λ (k : Cell d.Val). IfSome k.value (λ v. d.val_sized v size)) c set_sized))
        (λ differ. sized.kept place width cell (rw differ at kept));
  }

  pub empty_sized : FrameSized d (empty d)
  empty_sized = record {
    bytes = λ byte. tt;
    kept = λ offset size cell kept. cc;
  }
