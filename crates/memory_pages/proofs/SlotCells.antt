-- The cells of a slot, by size.
--   same_table         tables of cells that are the same at each size
--   kept_cell          a cell is kept in the place of that of its size
--   apart_cells        the cells of more bits are dropped
--   marked_cells       they are marked
use Rattle.std.specs.Prelude.{◌==◌, nat_lt, not, map, if◌then◌else◌}
use Rattle.std.specs.List.{filter}
use Rattle.std.proofs.Common.{◌≡◌, sym, subst, ◌∙◌, ℕ, Bool, true, false, List, [], ◌∷◌, ◌++◌, Option, Some, None, refl}
use Rattle.std.proofs.lemmas.Bool.{eqb-true, eq-eqb, false≢true}
use Rattle.memory_pages.specs.declared.byte.Byte.{Byte}
use Rattle.memory_pages.specs.declared.held.Held.{Held}
use Rattle.memory_pages.specs.Slots.{SizedCell, HeldSlot, table, kept_in, slot_of, with_cell, without_wider, with_wider_marked, marked, marked_kept}

by_test : {A : Type 0} (v : Bool) → (v ≡ true → A) → (v ≡ false → A) → A
by_test true holds fails = holds refl
by_test false holds fails = fails refl

-- a slot's cells are the same at each size
abbrev slot_at : Byte → (ℕ → Option Held) → HeldSlot
slot_at byte f = record { byte = byte; cells = table f }

same_cells : (byte : Byte) (f g : ℕ → Option Held) → ((size : ℕ) → f size ≡ g size) → slot_at byte f ≡ slot_at byte g
same_cells byte f g same = λ i. record { byte = byte; cells = table (λ size. same size i) }

-- the new cell in the place of that of its size
kept_more : (kept : List SizedCell) (size : ℕ) (cell : Held) (width : ℕ)
    → kept_in (filter (λ (k : SizedCell). not (k.size == size)) kept ++ record { size = size; cell = cell } ∷ []) width ≡ (if width == size then Some cell else kept_in kept width)
kept_more [] size cell width = by_test (size == width)
    (λ same. let turned : (width == size) ≡ true = eq-eqb width size (sym (eqb-true size width same)) in rw (same, turned) refl)
    (λ differ. let turned : (width == size) ≡ false = by_test (width == size) (λ same. absurd (false≢true (sym differ ∙ eq-eqb size width (sym (eqb-true width size same))))) (λ other. other) in
    rw (differ, turned) refl)
kept_more (first ∷ kept) size cell width = by_test (first.size == size)
    (λ gone. by_test (first.size == width)
    (λ here.
    let turned : (width == size) ≡ true = eq-eqb width size (sym (eqb-true first.size width here) ∙ eqb-true first.size size gone) in
    let rest : kept_in (filter (λ (k : SizedCell). not (k.size == size)) kept ++ record { size = size; cell = cell } ∷ []) width ≡ Some cell = kept_more kept size cell width ∙ rw turned refl in
    rw (gone, turned) rest)
    (λ there. rw (gone, there) (kept_more kept size cell width)))
    (λ stays. by_test (first.size == width)
    (λ here.
    let turned : (width == size) ≡ false = by_test (width == size) (λ same. absurd (false≢true (sym stays ∙ eq-eqb first.size size (eqb-true first.size width here ∙ eqb-true width size same)))) (λ other. other) in
    rw (stays, here, turned) refl)
    (λ there. rw (stays, there) (kept_more kept size cell width)))

pub kept_cell : (byte : Byte) (kept : List SizedCell) (size : ℕ) (cell : Held)
    → slot_of byte (filter (λ (k : SizedCell). not (k.size == size)) kept ++ record { size = size; cell = cell } ∷ []) ≡ with_cell (slot_of byte kept) size cell
kept_cell byte kept size cell = same_cells byte _ _ (kept_more kept size cell)

-- the cells of more bits are gone
less : (kept : List SizedCell) (than width : ℕ) → kept_in (filter (λ (k : SizedCell). not (nat_lt than k.size)) kept) width ≡ (if nat_lt than width then None else kept_in kept width)
less [] than width = by_test (nat_lt than width) (λ wide. rw wide refl) (λ small. rw small refl)
less (first ∷ kept) than width = by_test (nat_lt than first.size)
    (λ gone. by_test (first.size == width)
    (λ here.
    let wide : nat_lt than width ≡ true = subst (λ (n : ℕ). nat_lt than n ≡ true) (eqb-true first.size width here) gone in
    let rest : kept_in (filter (λ (k : SizedCell). not (nat_lt than k.size)) kept) width ≡ None = less kept than width ∙ rw wide refl in
    rw (gone, wide) rest)
    (λ there. rw (gone, there) (less kept than width)))
    (λ stays. by_test (first.size == width)
    (λ here.
    let small : nat_lt than width ≡ false = subst (λ (n : ℕ). nat_lt than n ≡ false) (eqb-true first.size width here) stays in
    rw (stays, here, small) refl)
    (λ there. rw (stays, there) (less kept than width)))

pub apart_cells : (byte : Byte) (kept : List SizedCell) (than : ℕ)
    → slot_of byte (filter (λ (k : SizedCell). not (nat_lt than k.size)) kept) ≡ without_wider (slot_of byte kept) than
apart_cells byte kept than = same_cells byte _ _ (less kept than)

-- the cells of more bits are marked
more_marked : (kept : List SizedCell) (than width : ℕ) → kept_in (map (marked_kept than) kept) width ≡ (if nat_lt than width then marked (kept_in kept width) else kept_in kept width)
more_marked [] than width = by_test (nat_lt than width) (λ wide. rw wide refl) (λ small. rw small refl)
more_marked (first ∷ kept) than width = by_test (nat_lt than first.size)
    (λ wider. by_test (first.size == width)
    (λ here.
    let wide : nat_lt than width ≡ true = subst (λ (n : ℕ). nat_lt than n ≡ true) (eqb-true first.size width here) wider in
    rw (wider, here, wide) refl)
    (λ there. rw (wider, there) (more_marked kept than width)))
    (λ stays. by_test (first.size == width)
    (λ here.
    let small : nat_lt than width ≡ false = subst (λ (n : ℕ). nat_lt than n ≡ false) (eqb-true first.size width here) stays in
    rw (stays, here, small) refl)
    (λ there. rw (stays, there) (more_marked kept than width)))

pub marked_cells : (byte : Byte) (kept : List SizedCell) (than : ℕ)
    → slot_of byte (map (marked_kept than) kept) ≡ with_wider_marked (slot_of byte kept) than
marked_cells byte kept than = same_cells byte _ _ (more_marked kept than)
