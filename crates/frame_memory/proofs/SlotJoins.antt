-- Slots joined.
--   stands_sized, suit_values, suit_words   values that are joined have one size
--   held_is           a cell that is seen as the join is the one that is held
--   kept_more         the cells of a join are kept size by size
--   slot_self         the join of two frames at a place where both have the same slot is this slot
use Rattle.std.specs.Prelude.{slice_get, if◌then◌else◌, ◌==◌, nat_lt, ◌||◌, is_some}
use Rattle.std.proofs.Common.{Bool, ◌≡◌, ◌≢◌, ◌∙◌, ap, subst, sym, inl, inr, ℕ, suc, true, false, List, [], ◌∷◌, Option, Some, None, IfSome, refl, arith, ◌*◌, ◌%◌, ◌<◌, ◌≤◌}
use Rattle.std.proofs.lemmas.Bool.{cases_eq, and_parts, eqb-true, eq-eqb, ltb-true, ltb-false, leb-true, lt-ltb, le-ltb, le-leb, and_from, false≢true}
use Rattle.lists.specs.TestLaws.{by_test}
use Rattle.domain_core.specs.WordSets.{IsOfSize}
use Rattle.strided_rules.specs.Strides.{Stride, joined as joined_words}
use Rattle.strided_rules.specs.Domains.{stride_sets}
use Rattle.pointer_rules.specs.AbstractValues.{AbstractValue, joined}
use Rattle.pointer_rules.specs.Covering.{IsValue}
use Rattle.pointer_rules.specs.ApplyLaws.{alike}
use Rattle.memory_rules.specs.SelfStrideLaws.{stride_self}
use Rattle.memory_rules.specs.SelfValueLaws.{value_self}
use Rattle.memory_pages.specs.declared.byte.Byte.{Byte}
use Rattle.memory_pages.specs.declared.held.Held.{Held}
use Rattle.memory_pages.specs.Slots.{HeldSlot, table, cell_of}
use Rattle.memory_rules.specs.Frames.{Cell, FrameMem, either, join_bytes, join_cells, kept_or, not_kept, stands, taken}
use Rattle.memory_rules.specs.Covers.{FrameSized}
use Rattle.memory_rules.specs.AbstractSets.{abstract_sets}
use Rattle.memory_model.specs.HeldFrames.{is_cell_size, byte_seen, byte_held, cell_seen, cell_held, byte_in, cell_in, frame_of}
use Rattle.memory_model.specs.HeldMemories.{joined_slot}
use Rattle.frame_memory.specs.FrameJoins.{seen, SuitWords, SuitValues, with_held}

-- ---- sizes

pub stands_sized : (f : FrameMem abstract_sets) → FrameSized abstract_sets f → (offset size : ℕ)
    → IfSome (stands abstract_sets f offset size).value (IsValue size)
stands_sized f sized offset size = go (f.cells offset size) refl
  where
    go : (kept : Option (Cell AbstractValue)) → f.cells offset size ≡ kept
        → IfSome (kept_or kept (not_kept (taken abstract_sets f offset size))).value (IsValue size)
    go None at = tt
    go (Some cell) at = sized.kept offset size cell at

pub suit_values : (size : ℕ) (a b : Option AbstractValue) → IfSome a (IsValue size) → IfSome b (IsValue size)
    → SuitValues a b
suit_values size None b first second = tt
suit_values size (Some v) None first second = tt
suit_values size (Some v) (Some w) first second = alike size v w first second

pub suit_words : (size : ℕ) (a b : Option Stride) → IfSome a (λ word. IsOfSize stride_sets size word)
    → IfSome b (λ word. IsOfSize stride_sets size word) → SuitWords a b
suit_words size None b first second = tt
suit_words size (Some x) None first second = tt
suit_words size (Some x) (Some y) first second = first.size ∙ sym second.size

-- a cell that is seen so is held so
pub held_is : (cell : Held) (other : Cell AbstractValue) → seen cell ≡ other → Some cell ≡ cell_held (Some other)
held_is cell other is = ap (λ (c : Cell AbstractValue). cell_held (Some c)) is

-- ---- cells kept size by size

by_size : (P : ℕ → Type 0) (size : ℕ) → size % 8 ≡ 0 → 0 < size → size ≤ 64 → P 8 → P 16 → P 24 → P 32 → P 40 → P 48
    → P 56 → P 64 → P size
by_size P size whole some most a b c d e f g h = elim (cases_eq size 8) [
  | inl is ↦ subst P (sym is) a
  | inr not_8 ↦ elim (cases_eq size 16) [
    | inl is ↦ subst P (sym is) b
    | inr not_16 ↦ elim (cases_eq size 24) [
      | inl is ↦ subst P (sym is) c
      | inr not_24 ↦ elim (cases_eq size 32) [
        | inl is ↦ subst P (sym is) d
        | inr not_32 ↦ elim (cases_eq size 40) [
          | inl is ↦ subst P (sym is) e
          | inr not_40 ↦ elim (cases_eq size 48) [
            | inl is ↦ subst P (sym is) f
            | inr not_48 ↦ elim (cases_eq size 56) [
              | inl is ↦ subst P (sym is) g
              | inr not_56 ↦ elim (cases_eq size 64) [
                | inl is ↦ subst P (sym is) h
                | inr not_64 ↦ absurd (omega (arith, whole, some, most, not_8, not_16, not_24, not_32, not_40, not_48, not_56, not_64))
              ]
            ]
          ]
        ]
      ]
    ]
  ]
]

whole_bytes : (size : ℕ) → is_cell_size size ≡ true → size % 8 ≡ 0
whole_bytes size is = eqb-true (size % 8) 0 (and_parts _ _ is).0

table_at : (byte : Byte) (f : ℕ → Option Held) (size : ℕ) → is_cell_size size ≡ true
    → cell_of (record { byte = byte; cells = table f }) size ≡ f size
table_at byte f size is =
    let parts = and_parts _ _ is in
    let bounds = and_parts _ _ parts.1 in
    by_size (λ (n : ℕ). cell_of (record { byte = byte; cells = table f }) n ≡ f n) size (eqb-true (size % 8) 0 parts.0) (ltb-true 0 size bounds.0) (leb-true size 64 bounds.1)
    refl refl refl refl refl refl refl refl

-- two functions that agree at the sizes of cells give one table
table_same : (f g : ℕ → Option Held) → ((size : ℕ) → is_cell_size size ≡ true → f size ≡ g size) → table f ≡ table g
table_same f g same =
    λ i. None ∷ same 8 refl i ∷ same 16 refl i ∷ same 24 refl i ∷ same 32 refl i ∷ same 40 refl i ∷ same 48 refl i ∷ same 56 refl i ∷ same 64 refl i ∷ []

-- the cells of fewer than so many bytes
abbrev pub so_far : (ℕ → Option Held) → ℕ → ℕ → Option Held
so_far f count size = if nat_lt size (8 * count) then f size else None

abbrev pub slot_so_far : Byte → (ℕ → Option Held) → ℕ → HeldSlot
slot_so_far byte f count = record { byte = byte; cells = table (so_far f count) }

so_far_others : (f : ℕ → Option Held) (count size : ℕ) → size % 8 ≡ 0 → size ≢ 8 * count
    → so_far f count size ≡ so_far f (suc count) size
so_far_others f count size whole other = by_test (nat_lt size (8 * count))
    (λ low. let below = ltb-true size (8 * count) low in rw (low, lt-ltb size (8 * suc count) (omega (arith, below))) refl)
    (λ high. let above = ltb-false size (8 * count) high in rw (high, le-ltb size (8 * suc count) (omega (arith, above, whole, other))) refl)

so_far_own : (f : ℕ → Option Held) (count : ℕ) → so_far f (suc count) (8 * count) ≡ f (8 * count)
so_far_own f count = rw (lt-ltb (8 * count) (8 * suc count) (omega arith)) refl

none_so_far : (f : ℕ → Option Held) (count : ℕ) → so_far f count (8 * count) ≡ None
none_so_far f count = rw (le-ltb (8 * count) (8 * count) (omega arith)) refl

-- the cell of the next size is kept
pub kept_more : (byte : Byte) (f : ℕ → Option Held) (count : ℕ)
    → with_held (slot_so_far byte f count) (8 * count) (f (8 * count)) ≡ slot_so_far byte f (suc count)
kept_more byte f count = go (f (8 * count)) refl
  where
    go : (cell : Option Held) → f (8 * count) ≡ cell
        → with_held (slot_so_far byte f count) (8 * count) cell ≡ slot_so_far byte f (suc count)
    go None none = λ i. record { byte = byte; cells = table_same (so_far f count) (so_far f (suc count)) at i }
      where
        at : (size : ℕ) → is_cell_size size ≡ true → so_far f count size ≡ so_far f (suc count) size
        at size is = by_test (size == 8 * count)
            (λ own.
            let e = eqb-true size (8 * count) own in
            subst (λ (n : ℕ). so_far f count n ≡ so_far f (suc count) n) (sym e) (none_so_far f count ∙ (sym none ∙ sym (so_far_own f count))))
            (λ other. so_far_others f count size (whole_bytes size is) (λ e. false≢true (sym other ∙ eq-eqb size (8 * count) e)))
    go (Some cell) some = λ i. record { byte = byte; cells = table_same (λ width. if width == 8 * count then Some cell else cell_of (slot_so_far byte f count) width) (so_far f (suc count)) at i }
      where
        at : (size : ℕ) → is_cell_size size ≡ true → (if size == 8 * count then Some cell else cell_of (slot_so_far byte f count) size) ≡ so_far f (suc count) size
        at size is = by_test (size == 8 * count)
            (λ own.
            let e = eqb-true size (8 * count) own in
            rw own (sym some ∙ (sym (so_far_own f count) ∙ ap (so_far f (suc count)) (sym e))))
            (λ other.
            rw other (table_at byte (so_far f count) size is
            ∙ so_far_others f count size (whole_bytes size is) (λ e. false≢true (sym other ∙ eq-eqb size (8 * count) e))))

-- ---- the same slot on both sides

held_seen : (cell : Option Held) → cell_held (cell_seen cell) ≡ cell
held_seen None = refl
held_seen (Some cell) = refl

or_self : (v : Bool) → (v || v) ≡ v
or_self true = refl
or_self false = refl

word_self : (word : Option Stride) → IfSome word (λ x. IsOfSize stride_sets 8 x) → either joined_words word word ≡ word
word_self None sized = refl
word_self (Some x) sized = ap (λ y. Some y) (stride_self x sized.kept)

option_self : (size : ℕ) (value : Option AbstractValue) → IfSome value (IsValue size)
    → either joined value value ≡ value
option_self size None sized = refl
option_self size (Some v) sized = ap (λ w. Some w) (value_self v sized.is)

cell_self : (size : ℕ) (cell : Cell AbstractValue) → IfSome cell.value (IsValue size)
    → join_cells abstract_sets cell cell ≡ cell
cell_self size cell sized = λ i. record { value = option_self size cell.value sized i; u = or_self cell.u i; x = or_self cell.x i }

-- the join of a cell that both sides keep, or neither
cells_self : (size : ℕ) (c : Option (Cell AbstractValue)) (x y : Cell AbstractValue)
    → ((cell : Cell AbstractValue) → c ≡ Some cell → IfSome cell.value (IsValue size))
    → (if is_some c || is_some c then Some (join_cells abstract_sets (kept_or c x) (kept_or c y)) else None) ≡ c
cells_self size None x y sized = refl
cells_self size (Some cell) x y sized = ap (λ k. Some k) (cell_self size cell (sized cell refl))

byte_self : (byte : Byte) → IfSome byte.value (λ x. IsOfSize stride_sets 8 x)
    → byte_held (join_bytes abstract_sets (byte_seen byte) (byte_seen byte)) ≡ byte
byte_self byte sized = λ i. record { value = word_self byte.value sized i; u = or_self byte.u i; p = or_self byte.p i }

-- the slot of a join, of what both sides have there and of cells that are not kept
abbrev joined_of : Option HeldSlot → Option HeldSlot → (ℕ → Cell AbstractValue) → (ℕ → Cell AbstractValue) → HeldSlot
joined_of o p x y = record {
  byte = byte_held (join_bytes abstract_sets (byte_in o) (byte_in p));
  cells = table (λ size. cell_held (if is_some (cell_in o size) || is_some (cell_in p size)
      then Some (join_cells abstract_sets (kept_or (cell_in o size) (x size)) (kept_or (cell_in p size) (y size))) else None));
}

both_the_same : (slot : HeldSlot) (x y : ℕ → Cell AbstractValue)
    → IfSome slot.byte.value (λ word. IsOfSize stride_sets 8 word)
    → ((size : ℕ) (cell : Cell AbstractValue) → cell_in (Some slot) size ≡ Some cell → IfSome cell.value (IsValue size))
    → joined_of (Some slot) (Some slot) x y ≡ record { byte = slot.byte; cells = table (cell_of slot) }
both_the_same slot x y word cells =
    (λ i. record {
      byte = byte_self slot.byte word i;
      cells = table (λ size. cell_held (cells_self size (cell_in (Some slot) size) (x size) (y size) (cells size) i));
    })
    ∙ (λ i. record { byte = slot.byte; cells = table (λ size. held_seen (cell_of slot size) i) })

-- the join of two frames at a place where both have the same slot
pub slot_self : (a b : List HeldSlot) (place : ℕ) (slot : HeldSlot) → FrameSized abstract_sets (frame_of a)
    → slice_get a place ≡ Some slot → slice_get b place ≡ Some slot
    → joined_slot a b place ≡ record { byte = slot.byte; cells = table (cell_of slot) }
slot_self a b place slot sized first second =
    let x = λ (size : ℕ). not_kept (taken abstract_sets (frame_of a) place size) in
    let y = λ (size : ℕ). not_kept (taken abstract_sets (frame_of b) place size) in
    ap (λ (o : Option HeldSlot). joined_of o (slice_get b place) x y) first
    ∙ (ap (λ (o : Option HeldSlot). joined_of (Some slot) o x y) second
    ∙ both_the_same slot x y
    (subst (λ (o : Option HeldSlot). IfSome (byte_in o).value (λ word. IsOfSize stride_sets 8 word)) first (sized.bytes place))
    (λ size cell is. sized.kept place size cell (ap (λ (o : Option HeldSlot). cell_in o size) first ∙ is)))
