-- Frames joined, slot by slot.
--   JoinedUpTo a b slots place   below the place the slots are those of the join, and from there on those of the first frame
--   begun, skipped, put, over    before the first step, after the steps, and after the last
use Rattle.std.specs.Prelude.{slice_get, slice_set, ◌==◌}
use Rattle.std.specs.Option.{option_map}
use Rattle.std.proofs.Common.{◌≡◌, ◌≢◌, ◌∙◌, ap, subst, sym, inl, inr, ℕ, suc, zero, List, [], ◌∷◌, map, Option, Some, None, refl, arith, ◌+◌, ◌<◌, ◌≤◌, length}
use Rattle.std.proofs.lemmas.Bool.{cases_lt, eqb-true, eq-eqb, false≢true}
use Rattle.std.proofs.lemmas.Option.{none-some, same_Some, slice_get-map}
use Rattle.lists.specs.TestLaws.{by_test}
use Rattle.alf_ops.specs.Histories.{offsets}
use Rattle.memory_pages.specs.Slots.{HeldSlot, table, cell_of}
use Rattle.memory_rules.specs.Covers.{FrameSized}
use Rattle.memory_rules.specs.AbstractSets.{abstract_sets}
use Rattle.memory_model.specs.HeldFrames.{frame_of}
use Rattle.memory_model.specs.HeldMemories.{joined_slot, joined_slots}
use Rattle.frame_memory.specs.FrameJoins.{AreCanonical}
use Rattle.frame_memory.proofs.SlotJoins.{slot_self}

-- below the place the slots are those of the join, and from there on those of the first frame
pub record JoinedUpTo (a b slots : List HeldSlot) (place : ℕ) : Type 0 where
  pub count : length slots ≡ length a
  pub done : (at : ℕ) → at < place → slice_get slots at ≡ slice_get (joined_slots a b) at
  pub left : (at : ℕ) → place ≤ at → slice_get slots at ≡ slice_get a at

-- ---- lists

get_in : {A : Type 0} (g : ℕ → A) (from count i : ℕ) → i < count
    → slice_get (map g (offsets from count)) i ≡ Some (g (from + i))
get_in g from zero i low = absurd (omega arith)
get_in g from (suc count) zero low =
    let e : from ≡ from + 0 = omega arith in
    ap (λ (n : ℕ). Some (g n)) e
get_in g from (suc count) (suc i) low =
    let e : suc from + i ≡ from + suc i = omega arith in
    get_in g (suc from) count i (omega arith) ∙ ap (λ (n : ℕ). Some (g n)) e

get_out : {A : Type 0} (g : ℕ → A) (from count i : ℕ) → count ≤ i → slice_get (map g (offsets from count)) i ≡ None
get_out g from zero i past = refl
get_out g from (suc count) zero past = absurd (omega arith)
get_out g from (suc count) (suc i) past = get_out g (suc from) count i (omega arith)

get_past : {A : Type 0} (xs : List A) (i : ℕ) → length xs ≤ i → slice_get xs i ≡ None
get_past [] i past = refl
get_past (x ∷ xs) zero past = absurd (omega arith)
get_past (x ∷ xs) (suc i) past = get_past xs i (omega arith)

length_off : {A : Type 0} (g : ℕ → A) (from count : ℕ) → length (map g (offsets from count)) ≡ count
length_off g from zero = refl
length_off g from (suc count) = ap (λ (n : ℕ). suc n) (length_off g (suc from) count)

set_length : {A : Type 0} (xs : List A) (i : ℕ) (y : A) → length (slice_set xs i y) ≡ length xs
set_length [] i y = refl
set_length (x ∷ xs) zero y = refl
set_length (x ∷ xs) (suc i) y = ap (λ (n : ℕ). suc n) (set_length xs i y)

get_same : {A : Type 0} (xs : List A) (i : ℕ) (x : A) → i < length xs → slice_get (slice_set xs i x) i ≡ Some x
get_same [] i x low = absurd (omega arith)
get_same (y ∷ ys) zero x low = refl
get_same (y ∷ ys) (suc i) x low = get_same ys i x (omega arith)

get_other : {A : Type 0} (xs : List A) (i j : ℕ) (x : A) → j ≢ i → slice_get (slice_set xs i x) j ≡ slice_get xs j
get_other [] i j x differ = refl
get_other (y ∷ ys) zero zero x differ = absurd (differ refl)
get_other (y ∷ ys) zero (suc j) x differ = refl
get_other (y ∷ ys) (suc i) zero x differ = refl
get_other (y ∷ ys) (suc i) (suc j) x differ = get_other ys i j x (λ e. differ (ap (λ (n : ℕ). suc n) e))

-- lists that agree at each place are the same
same_lists : {A : Type 0} (xs ys : List A) → ((i : ℕ) → slice_get xs i ≡ slice_get ys i) → xs ≡ ys
same_lists [] [] same = refl
same_lists [] (y ∷ ys) same = absurd (none-some y (same 0))
same_lists (x ∷ xs) [] same = absurd (none-some x (sym (same 0)))
same_lists (x ∷ xs) (y ∷ ys) same =
    ap (λ z. z ∷ xs) (same_Some x y (same 0)) ∙ ap (λ zs. y ∷ zs) (same_lists xs ys (λ i. same (suc i)))

-- ---- steps

module _ (a b : List HeldSlot) (canonical : AreCanonical a) (sized : FrameSized abstract_sets (frame_of a)) where
  found : (place : ℕ) → place < length a → slice_get (joined_slots a b) place ≡ Some (joined_slot a b place)
  found place low =
      let e : 0 + place ≡ place = omega arith in
      get_in (joined_slot a b) 0 (length a) place low ∙ ap (λ (n : ℕ). Some (joined_slot a b n)) e

  own : (place : ℕ) (slot : HeldSlot) → slice_get a place ≡ Some slot
      → record { byte = slot.byte; cells = table (cell_of slot) } ≡ slot
  own place slot is =
      same_Some _ slot (sym (ap (option_map (λ (s : HeldSlot). record { byte = s.byte; cells = table (cell_of s) })) is)
      ∙ (sym (slice_get-map (λ (s : HeldSlot). record { byte = s.byte; cells = table (cell_of s) }) a place) ∙ (ap (λ slots. slice_get slots place) canonical ∙ is)))

  -- where both have the same, the join has it
  kept : (place : ℕ) → slice_get a place ≡ slice_get b place → slice_get a place ≡ slice_get (joined_slots a b) place
  kept place same = elim (cases_lt place (length a)) [
    | inl low ↦ go (slice_get a place) refl low
    | inr past ↦ get_past a place past ∙ sym (get_out (joined_slot a b) 0 (length a) place past)
  ]
    where
      go : (o : Option HeldSlot) → slice_get a place ≡ o → place < length a
          → slice_get a place ≡ slice_get (joined_slots a b) place
      go None is low = is ∙ absurd (none_there is low)
        where
          there : (xs : List HeldSlot) (i : ℕ) → slice_get xs i ≡ None → i < length xs → ⊥
          there [] i none below = omega arith
          there (x ∷ xs) zero none below = none-some x (sym none)
          there (x ∷ xs) (suc i) none below = there xs i none (omega arith)

          none_there : slice_get a place ≡ None → place < length a → ⊥
          none_there none below = there a place none below
      go (Some slot) is low =
          is ∙ (ap (λ s. Some s) (sym (own place slot is) ∙ sym (slot_self a b place slot sized is (sym same ∙ is))) ∙ sym (found place low))

  pub begun : JoinedUpTo a b a 0
  begun = record { count = refl; done = λ at below. absurd (omega arith); left = λ at from. refl }

  -- slots that are the same on both sides stay
  pub skipped : (slots : List HeldSlot) (place more : ℕ) → JoinedUpTo a b slots place
      → ((at : ℕ) → place ≤ at → at < place + more → slice_get a at ≡ slice_get b at)
      → JoinedUpTo a b slots (place + more)
  skipped slots place more so_far same = record {
    count = so_far.count;
    done = λ at below. elim (cases_lt at place) [
      | inl low ↦ so_far.done at low
      | inr from ↦ so_far.left at from ∙ kept at (same at from below)
    ];
    left = λ at from. so_far.left at (omega arith);
  }

  -- the slot of the join is put
  pub put : (slots : List HeldSlot) (place : ℕ) → JoinedUpTo a b slots place → place < length a
      → JoinedUpTo a b (slice_set slots place (joined_slot a b place)) (place + 1)
  put slots place so_far low = record {
    count = set_length slots place (joined_slot a b place) ∙ so_far.count;
    done = λ at below. by_test (at == place)
        (λ here.
        let e = eqb-true at place here in
        subst (λ (n : ℕ). slice_get (slice_set slots place (joined_slot a b place)) n ≡ slice_get (joined_slots a b) n) (sym e)
        (get_same slots place (joined_slot a b place) (subst (λ (n : ℕ). place < n) (sym so_far.count) low) ∙ sym (found place low)))
        (λ other.
        let differ : at ≢ place = λ e. false≢true (sym other ∙ eq-eqb at place e) in
        get_other slots place at (joined_slot a b place) differ ∙ so_far.done at (omega arith));
    left = λ at from.
        let differ : at ≢ place = λ e. absurd (omega arith) in
        get_other slots place at (joined_slot a b place) differ ∙ so_far.left at (omega arith);
  }

  -- past the last place the slots are those of the join
  pub over : (slots : List HeldSlot) (place : ℕ) → JoinedUpTo a b slots place → length a ≤ place
      → slots ≡ joined_slots a b
  over slots place so_far past =
      same_lists slots (joined_slots a b) (λ at. elim (cases_lt at place) [
        | inl low ↦ so_far.done at low
        | inr from ↦ so_far.left at from ∙ (get_past a at (omega arith) ∙ sym (get_out (joined_slot a b) 0 (length a) at (omega arith)))
      ])
