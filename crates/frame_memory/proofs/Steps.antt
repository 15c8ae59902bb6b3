-- A store, place by place.
--   before_is, inside_is   what a store makes of a place before its cell, and in it
--   begun, gone_on, ended  no place is changed at first, one more at each step, and all at the end
use Rattle.std.specs.Prelude.{slice_get, ◌==◌, nat_lt, if◌then◌else◌}
use Rattle.std.proofs.Common.{Bool, ◌≡◌, ◌≢◌, ◌⊎◌, inl, inr, sym, subst, ◌∙◌, ℕ, true, false, List, Option, Some, None, refl, arith, ◌+◌, ◌-◌, ◌*◌, ◌/◌, ◌<◌, ◌≤◌}
use Rattle.std.proofs.lemmas.Bool.{and_parts, and_from, eqb-true, eq-eqb, ltb-true, ltb-false, lt-ltb, le-ltb, false≢true}
use Rattle.lists.specs.TestLaws.{by_test}
use Rattle.alf_ops.specs.TableLaws.{in_cell, below_cell, above_cell}
use Rattle.strided_rules.specs.Strides.{Stride}
use Rattle.pointer_rules.specs.AbstractValues.{AbstractValue}
use Rattle.memory_pages.specs.Slots.{HeldSlot}
use Rattle.memory_rules.specs.Frames.{AbstractByte, Cell, FrameMem, is_same, share_byte}
use Rattle.memory_rules.specs.AbstractSets.{abstract_sets}
use Rattle.memory_model.specs.HeldFrames.{is_cell_size, cell_in, frame_of}
use Rattle.memory_model.specs.SlotStores.{CellChange, ByteChange, stored_frame}
use Rattle.frame_memory.specs.Places.{CellsBySize, at_place, below, with_place, wider}
use Rattle.frame_memory.proofs.SlotFrames.{cell_bounds}

-- ---- frames that agree

-- what begins at a place alone counts there
pub at_place_same : (place : ℕ) (a b m : FrameMem abstract_sets) → a.bytes place ≡ b.bytes place
    → ((width : ℕ) → a.cells place width ≡ b.cells place width)
    → at_place place a m ≡ at_place place b m
at_place_same place a b m bytes cells = λ i. record { bytes = λ p. byte_at p i; cells = λ p width. cell_at p width i }
  where
    byte_at : (p : ℕ) → (at_place place a m).bytes p ≡ (at_place place b m).bytes p
    byte_at p = by_test (p == place)
        (λ same. rw same (subst (λ (n : ℕ). a.bytes n ≡ b.bytes n) (sym (eqb-true p place same)) bytes))
        (λ differ. rw differ refl)

    cell_at : (p width : ℕ) → (at_place place a m).cells p width ≡ (at_place place b m).cells p width
    cell_at p width = by_test (p == place)
        (λ same. rw same (subst (λ (n : ℕ). a.cells n width ≡ b.cells n width) (sym (eqb-true p place same)) (cells width)))
        (λ differ. rw differ refl)

-- both frames have the same at this place
abbrev SameAt : FrameMem abstract_sets → FrameMem abstract_sets → ℕ → Type 0
SameAt a b place = (a.bytes place ≡ b.bytes place) × ((width : ℕ) → a.cells place width ≡ b.cells place width)

below_none : (n : ℕ) (after m : FrameMem abstract_sets) → ((place : ℕ) → place < n → SameAt after m place)
    → below n after m ≡ m
below_none n after m same = λ i. record {
  bytes = λ p. byte_at p i;
  cells = λ p width. cell_at p width i;
}
  where
    byte_at : (p : ℕ) → (below n after m).bytes p ≡ m.bytes p
    byte_at p = by_test (nat_lt p n) (λ low. rw low (same p (ltb-true p n low)).0) (λ high. rw high refl)

    cell_at : (p width : ℕ) → (below n after m).cells p width ≡ m.cells p width
    cell_at p width = by_test (nat_lt p n) (λ low. rw low ((same p (ltb-true p n low)).1 width)) (λ high. rw high refl)

below_all : (n : ℕ) (after m : FrameMem abstract_sets) → ((place : ℕ) → n ≤ place → SameAt after m place)
    → below n after m ≡ after
below_all n after m same = λ i. record {
  bytes = λ p. byte_at p i;
  cells = λ p width. cell_at p width i;
}
  where
    byte_at : (p : ℕ) → (below n after m).bytes p ≡ after.bytes p
    byte_at p = by_test (nat_lt p n) (λ low. rw low refl) (λ high. rw high (sym (same p (ltb-false p n high)).0))

    cell_at : (p width : ℕ) → (below n after m).cells p width ≡ after.cells p width
    cell_at p width = by_test (nat_lt p n) (λ low. rw low refl) (λ high. rw high (sym ((same p (ltb-false p n high)).1 width)))

-- a frame keeps cells of their sizes alone
abbrev pub KeepsCells : FrameMem abstract_sets → Type 0
KeepsCells m = (place width : ℕ) → is_cell_size width ≡ false → m.cells place width ≡ None

pub frames_keep_cells : (slots : List HeldSlot) → KeepsCells (frame_of slots)
frames_keep_cells slots place width other = go (slice_get slots place)
  where
    go : (o : Option HeldSlot) → cell_in o width ≡ None
    go None = refl
    go (Some slot) = rw other refl

either_none : {A : Type 0} (v : Bool) (x : Option A) → x ≡ None → (if v then x else None) ≡ None
either_none true x none = none
either_none false x none = refl

module _ (offset size : ℕ) (new : Cell AbstractValue) (others : CellChange) (byte : ByteChange) (sized : is_cell_size size ≡ true) (keeps : others None ≡ None) where
  abbrev after : FrameMem abstract_sets → FrameMem abstract_sets
  after m = stored_frame m offset size new others byte

  some_bytes : 0 < size / 8
  some_bytes = let bounds = cell_bounds size sized in omega arith

  not_same : (place width : ℕ) → place ≢ offset → is_same offset size place width ≡ false
  not_same place width far = by_test (is_same offset size place width) (λ same. absurd (far (eqb-true place offset (and_parts _ _ same).0))) (λ differ. differ)

  -- cells of another place
  cells_off : (m : FrameMem abstract_sets) (place width : ℕ) → place ≢ offset
      → (after m).cells place width ≡ (if share_byte offset size place width then others (m.cells place width) else m.cells place width)
  cells_off m place width far = rw (not_same place width far) refl

  module _ (m : FrameMem abstract_sets) (kept : KeepsCells m) (place : ℕ) where
    -- before the cell
    module _ (before : place < offset) where
      shares : (width : ℕ) → is_cell_size width ≡ true
          → share_byte offset size place width ≡ nat_lt (8 * (offset - place)) width
      shares width is =
          let bounds = cell_bounds width is in
          by_test (nat_lt (8 * (offset - place)) width)
          (λ wide.
          let more = ltb-true (8 * (offset - place)) width wide in
          let first : offset < place + width / 8 = omega (arith, before, more, bounds.0) in
          let second : place < offset + size / 8 = omega (arith, before) in
          rw wide (and_from _ _ (lt-ltb offset (place + width / 8) first) (lt-ltb place (offset + size / 8) second)))
          (λ small.
          let less = ltb-false (8 * (offset - place)) width small in
          let past : place + width / 8 ≤ offset = omega (arith, before, less, bounds.0) in
          rw (small, le-ltb offset (place + width / 8) past) refl)

      before_cells : (width : ℕ)
          → wider others (8 * (offset - place)) (m.cells place) width ≡ (after m).cells place width
      before_cells width = by_test (is_cell_size width)
          (λ is. sym (cells_off m place width far ∙ rw (shares width is) refl))
          (λ other. none_before width (kept place width other) ∙ sym (none_after width (kept place width other)))
        where
          far : place ≢ offset
          far e = absurd (omega (arith, e, before))

          none_before : (width : ℕ) → m.cells place width ≡ None
              → wider others (8 * (offset - place)) (m.cells place) width ≡ None
          none_before width none = rw none (either_none (nat_lt (8 * (offset - place)) width) (others None) keeps)

          none_shared : (width : ℕ) → m.cells place width ≡ None
              → (if share_byte offset size place width then others (m.cells place width) else m.cells place width) ≡ None
          none_shared width none = rw none (either_none (share_byte offset size place width) (others None) keeps)

          none_after : (width : ℕ) → m.cells place width ≡ None → (after m).cells place width ≡ None
          none_after width none = cells_off m place width far ∙ none_shared width none

      pub before_is : with_place m place (m.bytes place) (wider others (8 * (offset - place)) (m.cells place)) ≡ at_place place (after m) m
      before_is = at_place_same place _ (after m) m (rw (below_cell offset size place before) refl) before_cells

    -- in the cell
    module _ (low : offset ≤ place) (high : place < offset + size / 8) where
      pub inside_is : (b : AbstractByte Stride) (cells : CellsBySize) → b ≡ byte place (m.bytes place)
          → ((width : ℕ) → cells width ≡ (if is_same offset size place width then Some new else others (m.cells place width)))
          → with_place m place b cells ≡ at_place place (after m) m
      inside_is b cells is_byte are_cells = at_place_same place _ (after m) m (is_byte ∙ rw (in_cell offset size place low high) refl) (λ width. are_cells width ∙ by_share width)
        where
          by_share : (width : ℕ) → (if is_same offset size place width then Some new else others (m.cells place width)) ≡ (after m).cells place width
          by_share width = by_test (share_byte offset size place width)
              (λ share. rw share refl)
              (λ alone.
              let other : is_cell_size width ≡ false = by_test (is_cell_size width)
              (λ is.
              let bounds = cell_bounds width is in
              let first : offset < place + width / 8 = omega (arith, low, bounds.0, bounds.1) in
              absurd (false≢true (sym alone ∙ and_from _ _ (lt-ltb offset (place + width / 8) first) (lt-ltb place (offset + size / 8) high))))
              (λ other. other) in
              rw (alone, kept place width other, keeps) refl)

    -- apart from the cell
    unchanged : (place + 7 < offset) ⊎ (offset + size / 8 ≤ place) → SameAt (after m) m place
    unchanged apart = (elim apart [ inl low ↦ rw (below_cell offset size place (omega (arith, low))) refl | inr high ↦ rw (above_cell offset size place high) refl ], λ width. cells_same width)
      where
        far : place ≢ offset
        far e = elim apart [ inl low ↦ absurd (omega (arith, e, low)) | inr high ↦ absurd (omega (arith, e, high, some_bytes)) ]

        no_share : (width : ℕ) → is_cell_size width ≡ true → share_byte offset size place width ≡ true → ⊥
        no_share width is share =
            let parts = and_parts _ _ share in
            let first = ltb-true offset (place + width / 8) parts.0 in
            let second = ltb-true place (offset + size / 8) parts.1 in
            let bounds = cell_bounds width is in
            elim apart [ inl low ↦ absurd (omega (arith, low, first, bounds.2)) | inr high ↦ absurd (omega (arith, high, second)) ]

        cells_same : (width : ℕ) → (after m).cells place width ≡ m.cells place width
        cells_same width = cells_off m place width far ∙ by_test (is_cell_size width)
            (λ is. by_test (share_byte offset size place width) (λ share. absurd (no_share width is share)) (λ alone. rw alone refl))
            (λ other. let none = kept place width other in rw none (either_none (share_byte offset size place width) (others None) keeps))

  -- no place is changed at first
  pub begun : (m : FrameMem abstract_sets) → KeepsCells m → m ≡ below (offset - 7) (after m) m
  begun m kept = sym (below_none (offset - 7) (after m) m (λ place low. unchanged m kept place (inl (omega (arith, low)))))

  -- and all at the end
  pub ended : (m : FrameMem abstract_sets) → KeepsCells m → below (offset + size / 8) (after m) m ≡ after m
  ended m kept = below_all (offset + size / 8) (after m) m (λ place high. unchanged m kept place (inr high))

  -- one more at each step
  pub gone_on : (m : FrameMem abstract_sets) (n : ℕ)
      → at_place n (after (below n (after m) m)) (below n (after m) m) ≡ below (n + 1) (after m) m
  gone_on m n = λ i. record { bytes = λ p. byte_at p i; cells = λ p width. cell_at p width i }
    where
      here : nat_lt n n ≡ false
      here = le-ltb n n (omega arith)

      next : nat_lt n (n + 1) ≡ true
      next = lt-ltb n (n + 1) (omega arith)

      turned : (p : ℕ) → p ≢ n → nat_lt p (n + 1) ≡ nat_lt p n
      turned p far = by_test (nat_lt p n)
          (λ low. let l = ltb-true p n low in rw low (lt-ltb p (n + 1) (omega (arith, l))))
          (λ high. let h = ltb-false p n high in rw high (le-ltb p (n + 1) (omega (arith, h, far))))

      byte_at : (p : ℕ) → (at_place n (after (below n (after m) m)) (below n (after m) m)).bytes p ≡ (below (n + 1) (after m) m).bytes p
      byte_at p = by_test (p == n)
          (λ same. subst (λ (q : ℕ). (at_place n (after (below n (after m) m)) (below n (after m) m)).bytes q ≡ (below (n + 1) (after m) m).bytes q)
          (sym (eqb-true p n same)) (rw (eq-eqb n n refl, here, next) refl))
          (λ differ. rw (differ, turned p (λ e. false≢true (sym differ ∙ eq-eqb p n e))) refl)

      cell_at : (p width : ℕ) → (at_place n (after (below n (after m) m)) (below n (after m) m)).cells p width ≡ (below (n + 1) (after m) m).cells p width
      cell_at p width = by_test (p == n)
          (λ same. subst (λ (q : ℕ). (at_place n (after (below n (after m) m)) (below n (after m) m)).cells q width ≡ (below (n + 1) (after m) m).cells q width)
          (sym (eqb-true p n same)) (rw (eq-eqb n n refl, here, next) refl))
          (λ differ. rw (differ, turned p (λ e. false≢true (sym differ ∙ eq-eqb p n e))) refl)
