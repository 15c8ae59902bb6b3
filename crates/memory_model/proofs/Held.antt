-- Held memories are those of the definitions.
use Rattle.std.specs.Prelude.{slice_get, slice_set, if◌then◌else◌, ◌==◌}
use Rattle.std.proofs.Common.{◌≡◌, ◌≢◌, inl, inr, sym, ◌∙◌, ap, ℕ, suc, zero, true, false, List, [], ◌∷◌, map, replicate, Option, Some, None, refl, arith, ◌+◌, ◌/◌, ◌<◌, ◌≤◌, length}
use Rattle.std.proofs.lemmas.Bool.{cases_lt, eqb-true, eq-eqb, false≢true}
use Rattle.lists.specs.TestLaws.{by_test}
use Rattle.alf_ops.specs.declared.history.FrameShape.{FrameShape}
use Rattle.alf_ops.specs.Histories.{is_owner, offsets}
use Rattle.memory_pages.specs.Slots.{HeldSlot, bare}
use Rattle.memory_pages.specs.Pages.{list_or}
use Rattle.memory_rules.specs.Frames.{empty, joined, no_byte}
use Rattle.memory_rules.specs.AbstractSets.{abstract_sets}
use Rattle.memory_rules.specs.Memories.{owns}
use Rattle.memory_model.specs.HeldFrames.{is_cell_size, cell_held, cell_seen, byte_in, cell_in, frame_of}
use Rattle.memory_model.specs.HeldMemories.{held_no_byte, runs_or, blank_slots, entered_frames, joined_slot, joined_slots, joined_frames, FreshHeld, LeftHeld, EnteredHeld, FrameHeld, JoinedHeld}
use Rattle.memory_model.proofs.Stored.{table_at, seen_held}

get_same : {A : Type 0} (xs : List A) (i : ℕ) (x : A) → i < length xs → slice_get (slice_set xs i x) i ≡ Some x
get_same [] i x low = absurd (omega arith)
get_same (y ∷ ys) zero x low = refl
get_same (y ∷ ys) (suc i) x low = get_same ys i x (omega arith)

get_other : {A : Type 0} (xs : List A) (i j : ℕ) (x : A) → j ≢ i → slice_get (slice_set xs i x) j ≡ slice_get xs j
get_other [] i j x differ = refl
get_other (y ∷ ys) zero zero x differ = absurd (differ refl)
get_other (y ∷ ys) zero (suc j) x differ = refl
get_other (y ∷ ys) (suc i) zero x differ = refl
get_other (y ∷ ys) (suc i) (suc j) x differ = get_other ys i j x (λ e. differ (ap (λ (n : ℕ). suc n) e))

-- what is seen of a list where one member is set
get_set : {A B : Type 0} (f : Option A → B) (xs : List A) (i j : ℕ) (x : A) → i < length xs
    → f (slice_get (slice_set xs i x) j) ≡ (if j == i then f (Some x) else f (slice_get xs j))
get_set f xs i j x low = by_test (j == i)
    (λ same. rw same (ap (λ (n : ℕ). f (slice_get (slice_set xs i x) n)) (eqb-true j i same) ∙ ap f (get_same xs i x low)))
    (λ differ. rw differ (ap f (get_other xs i j x (λ e. false≢true (sym differ ∙ eq-eqb j i e)))))

-- ---- frames that hold nothing

blank_byte : (count b : ℕ) → byte_in (slice_get (blank_slots count) b) ≡ no_byte
blank_byte zero b = refl
blank_byte (suc count) zero = refl
blank_byte (suc count) (suc b) = blank_byte count b

bare_cell : (size : ℕ) → cell_in (Some (bare held_no_byte)) size ≡ None
bare_cell size = by_test (is_cell_size size)
    (λ cell. rw (cell, table_at held_no_byte (λ n. None) size cell) refl)
    (λ other. rw other refl)

blank_cell : (count offset size : ℕ) → cell_in (slice_get (blank_slots count) offset) size ≡ None
blank_cell zero offset size = refl
blank_cell (suc count) zero size = bare_cell size
blank_cell (suc count) (suc offset) size = blank_cell count offset size

blank_is : (count : ℕ) → frame_of (blank_slots count) ≡ empty abstract_sets
blank_is count = λ i. record { bytes = λ b. blank_byte count b i; cells = λ offset size. blank_cell count offset size i }

idle : (count function : ℕ) → runs_or (slice_get (replicate count false) function) ≡ false
idle zero function = refl
idle (suc count) zero = refl
idle (suc count) (suc function) = idle count function

none_held : (sizes : List ℕ) (frame : ℕ)
    → frame_of (list_or (slice_get (map blank_slots sizes) frame)) ≡ empty abstract_sets
none_held [] frame = refl
none_held (size ∷ sizes) zero = blank_is size
none_held (size ∷ sizes) (suc frame) = none_held sizes frame

pub fresh_held : FreshHeld
fresh_held count sizes = λ i. record { runs = λ function. idle count function i; frames = λ frame. none_held sizes frame i }

-- ---- functions left and entered, and one frame changed

pub left_held : LeftHeld
left_held running frames function low =
    λ i. record { runs = λ g. get_set runs_or running function g false low i; frames = λ frame. frame_of (list_or (slice_get frames frame)) }

entered_at : (rows : List FrameShape) (frames : List (List HeldSlot)) (function frame : ℕ) → length frames ≡ length rows
    → frame_of (list_or (slice_get (entered_frames rows function frames) frame))
    ≡ (if owns (slice_get rows frame) function then empty abstract_sets else frame_of (list_or (slice_get frames frame)))
entered_at [] frames function frame same = refl
entered_at (row ∷ rows) [] function frame same = absurd (omega arith)
entered_at (row ∷ rows) (slots ∷ frames) function zero same = by_test (is_owner row.owner function)
    (λ own. rw own (blank_is (row.bits / 8)))
    (λ other. rw other refl)
entered_at (row ∷ rows) (slots ∷ frames) function (suc frame) same = entered_at rows frames function frame (omega arith)

pub entered_held : EnteredHeld
entered_held rows running frames function low same =
    λ i. record { runs = λ g. get_set runs_or running function g true low i; frames = λ frame. entered_at rows frames function frame same i }

pub frame_held : FrameHeld
frame_held running frames frame slots low =
    λ i. record {
      runs = λ g. runs_or (slice_get running g);
      frames = λ f. get_set (λ found. frame_of (list_or found)) frames frame f slots low i;
    }

-- ---- joins

get_in : {A : Type 0} (g : ℕ → A) (from count i : ℕ) → i < count
    → slice_get (map g (offsets from count)) i ≡ Some (g (from + i))
get_in g from zero i low = absurd (omega arith)
get_in g from (suc count) zero low =
    let e : from ≡ from + 0 = omega arith in
    ap (λ (n : ℕ). Some (g n)) e
get_in g from (suc count) (suc i) low =
    let e : suc from + i ≡ from + suc i = omega arith in
    get_in g (suc from) count i (omega arith) ∙ ap (λ (n : ℕ). Some (g n)) e

get_out : {A : Type 0} (g : ℕ → A) (from count i : ℕ) → count ≤ i → slice_get (map g (offsets from count)) i ≡ None
get_out g from zero i past = refl
get_out g from (suc count) zero past = absurd (omega arith)
get_out g from (suc count) (suc i) past = get_out g (suc from) count i (omega arith)

get_past : {A : Type 0} (xs : List A) (i : ℕ) → length xs ≤ i → slice_get xs i ≡ None
get_past [] i past = refl
get_past (x ∷ xs) zero past = absurd (omega arith)
get_past (x ∷ xs) (suc i) past = get_past xs i (omega arith)

no_cell : (o : Option HeldSlot) (size : ℕ) → is_cell_size size ≡ false → cell_in o size ≡ None
no_cell None size other = refl
no_cell (Some slot) size other = rw other refl

module _ (a b : List HeldSlot) (same : length a ≡ length b) where
  joined_found : (place : ℕ) → place < length a → slice_get (joined_slots a b) place ≡ Some (joined_slot a b place)
  joined_found place low =
      let e : 0 + place ≡ place = omega arith in
      get_in (joined_slot a b) 0 (length a) place low ∙ ap (λ (n : ℕ). Some (joined_slot a b n)) e

  joined_byte : (place : ℕ)
      → byte_in (slice_get (joined_slots a b) place) ≡ (joined abstract_sets (frame_of a) (frame_of b)).bytes place
  joined_byte place = elim (cases_lt place (length a)) [
    | inl low ↦ ap byte_in (joined_found place low)
    | inr past ↦ rw (get_out (joined_slot a b) 0 (length a) place past, get_past a place past, get_past b place (omega arith)) refl
  ]

  joined_cell : (place size : ℕ) → cell_in (slice_get (joined_slots a b) place) size ≡ (joined abstract_sets (frame_of a) (frame_of b)).cells place size
  joined_cell place size = elim (cases_lt place (length a)) [
    | inl low ↦ ap (λ o. cell_in o size) (joined_found place low) ∙ by_test (is_cell_size size)
        (λ cell. rw cell (ap cell_seen (table_at (joined_slot a b place).byte (λ w. cell_held ((joined abstract_sets (frame_of a) (frame_of b)).cells place w)) size cell)
        ∙ seen_held ((joined abstract_sets (frame_of a) (frame_of b)).cells place size)))
        (λ other. no_cell (Some (joined_slot a b place)) size other ∙ rw (no_cell (slice_get a place) size other, no_cell (slice_get b place) size other) refl)
    | inr past ↦ rw (get_out (joined_slot a b) 0 (length a) place past, get_past a place past, get_past b place (omega arith)) refl
  ]

  joined_is : frame_of (joined_slots a b) ≡ joined abstract_sets (frame_of a) (frame_of b)
  joined_is = λ i. record { bytes = λ place. joined_byte place i; cells = λ place size. joined_cell place size i }

joined_at : (a b : List (List HeldSlot)) (frame : ℕ) → map length a ≡ map length b
    → frame_of (list_or (slice_get (joined_frames a b) frame)) ≡ joined abstract_sets (frame_of (list_or (slice_get a frame))) (frame_of (list_or (slice_get b frame)))
joined_at [] [] frame same = refl
joined_at [] (slots ∷ b) frame same = cc
joined_at (slots ∷ a) [] frame same = cc
joined_at (slots ∷ a) (others ∷ b) zero same =
    let e : length slots ≡ length others = cc in
    joined_is slots others e
joined_at (slots ∷ a) (others ∷ b) (suc frame) same =
    let e : map length a ≡ map length b = cc in
    joined_at a b frame e

pub joined_held : JoinedHeld
joined_held running other a b same =
    λ i. record { runs = λ g. runs_or (slice_get running g); frames = λ frame. joined_at a b frame same i }
