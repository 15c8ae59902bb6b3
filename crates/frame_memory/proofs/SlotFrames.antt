-- Slots that are put, as frames.
--   put_becomes, same_becomes   after a slot is put, or none, the frame has what the slot holds at its place
--   cells_in_table              the cells of a slot that keeps them by size
--   bare_cells, with_cell_cells, narrow_cells, marked_cells   those of the changed slots
--   none_wider                  where no cell has more bits nothing is done to them
--   byte_found, cells_found     what a frame has at the place of a slot
use Rattle.std.specs.Prelude.{slice_get, slice_set, ◌==◌, nat_lt, if◌then◌else◌}
use Rattle.std.proofs.Common.{◌≡◌, ◌≢◌, inl, inr, sym, subst, ◌∙◌, ap, ℕ, suc, zero, true, false, List, [], ◌∷◌, map, Option, Some, None, refl, arith, ◌%◌, ◌<◌, ◌≤◌, length}
use Rattle.std.proofs.lemmas.Bool.{cases_eq, and_parts, eqb-true, eq-eqb, ltb-true, leb-true, false≢true}
use Rattle.lists.specs.TestLaws.{by_test}
use Rattle.strided_rules.specs.Strides.{Stride}
use Rattle.memory_pages.specs.declared.byte.Byte.{Byte}
use Rattle.memory_pages.specs.declared.held.Held.{Held}
use Rattle.memory_pages.specs.Slots.{HeldSlot, table, cell_of, bare, with_cell, without_wider, with_wider_marked, marked}
use Rattle.memory_rules.specs.Frames.{AbstractByte, with_x}
use Rattle.memory_rules.specs.AbstractSets.{abstract_sets}
use Rattle.memory_model.specs.HeldFrames.{is_cell_size, byte_seen, cell_seen, byte_in, cell_in, frame_of}
use Rattle.memory_model.specs.SlotStores.{CellChange}
use Rattle.frame_memory.specs.Places.{CellsBySize, with_place, wider, canonical, Becomes}

-- ---- lists with one member set

get_same : {A : Type 0} (xs : List A) (i : ℕ) (x : A) → i < length xs → slice_get (slice_set xs i x) i ≡ Some x
get_same [] i x low = absurd (omega arith)
get_same (y ∷ ys) zero x low = refl
get_same (y ∷ ys) (suc i) x low = get_same ys i x (omega arith)

get_other : {A : Type 0} (xs : List A) (i j : ℕ) (x : A) → j ≢ i → slice_get (slice_set xs i x) j ≡ slice_get xs j
get_other [] i j x differ = refl
get_other (y ∷ ys) zero zero x differ = absurd (differ refl)
get_other (y ∷ ys) zero (suc j) x differ = refl
get_other (y ∷ ys) (suc i) zero x differ = refl
get_other (y ∷ ys) (suc i) (suc j) x differ = get_other ys i j x (λ e. differ (ap (λ (n : ℕ). suc n) e))

apart : (i j : ℕ) → (j == i) ≡ false → j ≢ i
apart i j differ e = false≢true (sym differ ∙ eq-eqb j i e)

-- what is seen of a list where one member is set
get_set : {A B : Type 0} (f : Option A → B) (xs : List A) (i j : ℕ) (x : A) → i < length xs
    → f (slice_get (slice_set xs i x) j) ≡ (if j == i then f (Some x) else f (slice_get xs j))
get_set f xs i j x low = by_test (j == i)
    (λ same. rw same (ap (λ (n : ℕ). f (slice_get (slice_set xs i x) n)) (eqb-true j i same) ∙ ap f (get_same xs i x low)))
    (λ differ. rw differ (ap f (get_other xs i j x (apart i j differ))))

pub set_length : {A : Type 0} (xs : List A) (i : ℕ) (x : A) → length (slice_set xs i x) ≡ length xs
set_length [] i x = refl
set_length (y ∷ ys) zero x = refl
set_length (y ∷ ys) (suc i) x = ap (λ (n : ℕ). suc n) (set_length ys i x)

map_set : (slots : List HeldSlot) (i : ℕ) (slot : HeldSlot)
    → map canonical (slice_set slots i slot) ≡ slice_set (map canonical slots) i (canonical slot)
map_set [] i slot = refl
map_set (first ∷ slots) zero slot = refl
map_set (first ∷ slots) (suc i) slot = ap (λ ss. canonical first ∷ ss) (map_set slots i slot)

-- a member that is set to itself
pub set_same : {A : Type 0} (xs : List A) (i : ℕ) (x : A) → slice_get xs i ≡ Some x → slice_set xs i x ≡ xs
set_same [] i x found = refl
set_same (y ∷ ys) zero x found =
    let same : y ≡ x = cc in
    ap (λ z. z ∷ ys) (sym same)
set_same (y ∷ ys) (suc i) x found = ap (λ zs. y ∷ zs) (set_same ys i x found)

-- ---- cells by size

abbrev pub slot_at : Byte → (ℕ → Option Held) → HeldSlot
slot_at byte f = record { byte = byte; cells = table f }

-- the sizes of cells, one by one
by_size : (P : ℕ → Type 0) (size : ℕ) → size % 8 ≡ 0 → 0 < size → size ≤ 64 → P 8 → P 16 → P 24 → P 32 → P 40 → P 48
    → P 56 → P 64 → P size
by_size P size whole some most a b c d e f g h = elim (cases_eq size 8) [
  | inl is ↦ subst P (sym is) a
  | inr not_8 ↦ elim (cases_eq size 16) [
    | inl is ↦ subst P (sym is) b
    | inr not_16 ↦ elim (cases_eq size 24) [
      | inl is ↦ subst P (sym is) c
      | inr not_24 ↦ elim (cases_eq size 32) [
        | inl is ↦ subst P (sym is) d
        | inr not_32 ↦ elim (cases_eq size 40) [
          | inl is ↦ subst P (sym is) e
          | inr not_40 ↦ elim (cases_eq size 48) [
            | inl is ↦ subst P (sym is) f
            | inr not_48 ↦ elim (cases_eq size 56) [
              | inl is ↦ subst P (sym is) g
              | inr not_56 ↦ elim (cases_eq size 64) [
                | inl is ↦ subst P (sym is) h
                | inr not_64 ↦ absurd (omega (arith, whole, some, most, not_8, not_16, not_24, not_32, not_40, not_48, not_56, not_64))
              ]
            ]
          ]
        ]
      ]
    ]
  ]
]

-- the size of a cell is a multiple of 8, from 8 to 64
pub cell_bounds : (size : ℕ) → is_cell_size size ≡ true → (size % 8 ≡ 0) × (0 < size) × (size ≤ 64)
cell_bounds size is =
    let parts = and_parts _ _ is in
    let bounds = and_parts _ _ parts.1 in
    (eqb-true (size % 8) 0 parts.0, ltb-true 0 size bounds.0, leb-true size 64 bounds.1)

table_at : (byte : Byte) (f : ℕ → Option Held) (size : ℕ) → is_cell_size size ≡ true
    → cell_of (slot_at byte f) size ≡ f size
table_at byte f size is =
    let bounds = cell_bounds size is in
    by_size (λ (n : ℕ). cell_of (slot_at byte f) n ≡ f n) size bounds.0 bounds.1 bounds.2 refl refl refl refl refl refl refl refl

pub cells_in_table : (byte : Byte) (f : ℕ → Option Held) (width : ℕ)
    → cell_in (Some (slot_at byte f)) width ≡ (if is_cell_size width then cell_seen (f width) else None)
cells_in_table byte f width = by_test (is_cell_size width)
    (λ is. rw is (ap cell_seen (table_at byte f width is)))
    (λ other. rw other refl)

-- ---- the cells of changed slots

pub bare_cells : (byte : Byte) (width : ℕ) → cell_in (Some (bare byte)) width ≡ None
bare_cells byte width = cells_in_table byte (λ w. None) width ∙ by_test (is_cell_size width) (λ is. rw is refl) (λ other. rw other refl)

pub with_cell_cells : (slot : HeldSlot) (size : ℕ) (cell : Held) (width : ℕ) → is_cell_size size ≡ true
    → cell_in (Some (with_cell slot size cell)) width ≡ (if width == size then cell_seen (Some cell) else cell_in (Some slot) width)
with_cell_cells slot size cell width sized =
    cells_in_table slot.byte (λ w. if w == size then Some cell else cell_of slot w) width ∙ by_test (width == size)
    (λ same.
    let is : is_cell_size width ≡ true = subst (λ (n : ℕ). is_cell_size n ≡ true) (sym (eqb-true width size same)) sized in
    rw (is, same) refl)
    (λ differ. rw differ refl)

pub narrow_cells : (slot : HeldSlot) (than width : ℕ)
    → cell_in (Some (without_wider slot than)) width ≡ wider (λ cell. None) than (cell_in (Some slot)) width
narrow_cells slot than width =
    cells_in_table slot.byte (λ w. if nat_lt than w then None else cell_of slot w) width ∙ by_test (nat_lt than width)
    (λ wide. by_test (is_cell_size width) (λ is. rw (is, wide) refl) (λ other. rw (other, wide) refl))
    (λ small. rw small refl)

seen_marked : (cell : Option Held) → cell_seen (marked cell) ≡ with_x abstract_sets (cell_seen cell)
seen_marked None = refl
seen_marked (Some cell) = refl

pub marked_cells : (slot : HeldSlot) (than width : ℕ)
    → cell_in (Some (with_wider_marked slot than)) width ≡ wider (with_x abstract_sets) than (cell_in (Some slot)) width
marked_cells slot than width =
    cells_in_table slot.byte (λ w. if nat_lt than w then marked (cell_of slot w) else cell_of slot w) width ∙ by_test (nat_lt than width)
    (λ wide. by_test (is_cell_size width) (λ is. rw (is, wide) (seen_marked (cell_of slot width))) (λ other. rw (other, wide) refl))
    (λ small. rw small refl)

-- where no cell has more bits
pub none_wider : (slot : HeldSlot) (than : ℕ) (others : CellChange) → others None ≡ None
    → ((width : ℕ) → is_cell_size width ≡ true → than < width → cell_of slot width ≡ None) → (width : ℕ)
    → wider others than (cell_in (Some slot)) width ≡ cell_in (Some slot) width
none_wider slot than others keeps none width = by_test (nat_lt than width)
    (λ wide. by_test (is_cell_size width)
    (λ is. rw (wide, is, none width is (ltb-true than width wide)) keeps)
    (λ other. rw (wide, other) keeps))
    (λ small. rw small refl)

-- ---- frames

module _ (slots : List HeldSlot) (place : ℕ) where
  pub byte_found : (slot : HeldSlot) → slice_get slots place ≡ Some slot
      → (frame_of slots).bytes place ≡ byte_seen slot.byte
  byte_found slot found = ap byte_in found

  pub cells_found : (slot : HeldSlot) → slice_get slots place ≡ Some slot
      → (frame_of slots).cells place ≡ cell_in (Some slot)
  cells_found slot found = ap cell_in found

  -- a slot is put
  pub put_becomes : (slot : HeldSlot) → place < length slots → canonical slot ≡ slot
      → Becomes slots (slice_set slots place slot) (with_place (frame_of slots) place (byte_seen slot.byte) (cell_in (Some slot)))
  put_becomes slot low is = record {
    frame = λ i. record {
      bytes = λ b. get_set byte_in slots place b slot low i;
      cells = λ p width. get_set (λ o. cell_in o width) slots place p slot low i;
    };
    length = set_length slots place slot;
    canonical = λ are. map_set slots place slot ∙ (ap (λ s. slice_set (map canonical slots) place s) is ∙ ap (λ ss. slice_set ss place slot) are);
  }

  here_same : {A : Type 0} (f : ℕ → A) (x : A) (p : ℕ) → x ≡ f place → f p ≡ (if p == place then x else f p)
  here_same f x p is = by_test (p == place)
      (λ same. rw same (ap f (eqb-true p place same) ∙ sym is))
      (λ differ. rw differ refl)

  -- no slot is put
  pub same_becomes : (byte : AbstractByte Stride) (cells : CellsBySize) → byte ≡ (frame_of slots).bytes place
      → ((width : ℕ) → cells width ≡ (frame_of slots).cells place width) → Becomes slots slots (with_place (frame_of slots) place byte cells)
  same_becomes byte cells same_byte same_cells = record {
    frame = λ i. record {
      bytes = λ b. here_same (frame_of slots).bytes byte b same_byte i;
      cells = λ p width. here_same (λ q. (frame_of slots).cells q width) (cells width) p (same_cells width) i;
    };
    length = refl;
    canonical = λ are. are;
  }
