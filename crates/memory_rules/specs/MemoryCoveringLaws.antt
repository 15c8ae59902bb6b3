-- Laws of memory covering.
--   mem_holds, mem_covers       the one from the other
--   stored_holds, both_left, both_right, left_holds, entered_holds, pinned_at_holds, fresh_holds
--   mem_stored_sized, mem_both_sized, mem_left_sized, mem_entered_sized, mem_pinned_sized, mem_fresh_sized   the values keep their sizes
use Rattle.std.specs.Prelude.{slice_get, Contains, ◌==◌}
use Rattle.std.proofs.Common.{◌≡◌, ◌≢◌, ◌⊎◌, inl, inr, sym, subst, ◌∙◌, ℕ, suc, zero, true, false, List, [], ◌∷◌, Option, Some, None, Ok, refl, arith}
use Rattle.std.proofs.lemmas.Bool.{cases_eq, eq-eqb, ne_eqb, false≢true}
use Rattle.lists.specs.TestLaws.{by_test}
use Rattle.alf_ops.specs.declared.history.Value.{Value}
use Rattle.alf_ops.specs.declared.history.FrameShape.{FrameShape}
use Rattle.alf_ops.specs.declared.history.RunEvent.{RunEvent}
use Rattle.alf_ops.specs.declared.history.RunEvent.TheVariants.{Enter, Leave, Store}
use Rattle.alf_ops.specs.Histories.{Byte, cell_in, origin, put, is_active, is_owner, IsSoundHistory}
use Rattle.alf_ops.specs.TableLaws.{origin_stored, origin_elsewhere}
use Rattle.alf_ops.specs.Values.{FitsValue}
use Rattle.alf_ops.specs.WholeCellLaws.{origin_is_table}
use Rattle.memory_rules.specs.ValueSets.{ValueSets, IsValueSets}
use Rattle.memory_rules.specs.Frames.{FrameMem, strong, weak, empty, pinned}
use Rattle.memory_rules.specs.Covers.{IsCellSize}
use Rattle.memory_rules.specs.Memories.{Mem, fresh, pinned_at, is_on, with_frame, strong_at, weak_at, weak_all, stored, owner_at, entered, left, both, MemCovers, MemSized, IsPlaced}
use Rattle.memory_rules.specs.Holds.{FrameHolds}
use Rattle.memory_rules.specs.HoldLaws.{holds, covers}
use Rattle.memory_rules.specs.UpdateLaws.{strong_holds, pinned_holds, pinned_sized, weak_holds, weak_stores, joined_holds_left, joined_holds_right, empty_holds, weak_sized, strong_sized, joined_sized, empty_sized}
use Rattle.memory_rules.specs.MemoryCovering.{MemHolds}

pub funext : {A B : Type 0} (f g : A → B) → ((x : A) → f x ≡ g x) → f ≡ g
funext f g h = λ i x. h x i

pub contains_first : {A : Type 0} (x : A) (xs : List A) → Contains (x ∷ xs) x
contains_first x xs = (0, omega arith, refl)

contains_later : {A : Type 0} (x : A) (xs : List A) (y : A) → Contains xs y → Contains (x ∷ xs) y
contains_later x xs y among = (suc among.0, omega (arith, among.1), among.2)

pub contains_none : {A : Type 0} (x : A) → Contains [] x → ⊥
contains_none x among = omega (arith, among.1)

pub contains_cases : {A : Type 0} (x : A) (xs : List A) (y : A) → Contains (x ∷ xs) y → (y ≡ x) ⊎ Contains xs y
contains_cases x xs y (zero, low, at) = inl (sym at)
contains_cases x xs y (suc k, low, at) = inr (k, omega arith, at)

pub active_stored : (owner : Option ℕ) (frame offset size : ℕ) (value : Value) (history : List RunEvent)
    → is_active owner (Store frame offset size value ∷ history) ≡ is_active owner history
active_stored None frame offset size value history = refl
active_stored (Some function) frame offset size value history = refl

module _ (d : ValueSets) (laws : IsValueSets d) (rows : List FrameShape) where
  pub mem_holds : (m : Mem d) (history : List RunEvent) → MemCovers d rows m history → MemHolds d rows m history
  mem_holds m history c = record {
    active = c.active;
    frames = λ frame row found runs. holds d laws row.bits (m.frames frame) (origin row.owner frame history) (c.frames frame row found runs);
  }

  pub mem_covers : (m : Mem d) (history : List RunEvent) → MemSized d m → IsSoundHistory history → MemHolds d rows m history
      → MemCovers d rows m history
  mem_covers m history sized sound h = record {
    active = h.active;
    frames =
        λ frame row found runs. covers d laws row.bits (m.frames frame) (origin row.owner frame history) (sized frame) (origin_is_table row.owner frame history sound) (h.frames frame row found runs);
  }

  -- a frame in which nothing was stored
  elsewhere : (bits : ℕ) (m : FrameMem d) (owner : Option ℕ) (frame other offset size : ℕ) (value : Value) (history : List RunEvent) → other ≢ frame
      → FrameHolds d bits m (origin owner frame history) → FrameHolds d bits m (origin owner frame (Store other offset size value ∷ history))
  elsewhere bits m owner frame other offset size value history differ h =
      subst (λ (from : ℕ → Option Byte). FrameHolds d bits m from)
      (sym (funext (origin owner frame (Store other offset size value ∷ history)) (origin owner frame history) (λ byte. origin_elsewhere owner frame other offset size value history byte differ))) h

  within : (bits : ℕ) (m : FrameMem d) (owner : Option ℕ) (frame offset size : ℕ) (value : Value) (history : List RunEvent)
      → FrameHolds d bits m (put offset size value (origin owner frame history))
      → FrameHolds d bits m (origin owner frame (Store frame offset size value ∷ history))
  within bits m owner frame offset size value history h =
      subst (λ (from : ℕ → Option Byte). FrameHolds d bits m from)
      (sym (funext (origin owner frame (Store frame offset size value ∷ history)) (put offset size value (origin owner frame history)) (λ byte. origin_stored owner frame offset size value history byte))) h

  -- one frame is changed so that it covers its table after the event, and the others cover theirs
  one_frame : (m : Mem d) (changed : FrameMem d) (frame : ℕ) (row : FrameShape) (history after : List RunEvent)
      → slice_get rows frame ≡ Some row
      → MemHolds d rows m history
      → ((owner : Option ℕ) → is_active owner after ≡ is_active owner history)
      → FrameHolds d row.bits changed (origin row.owner frame after)
      → ((other : ℕ) (own : FrameShape) → other ≢ frame → FrameHolds d own.bits (m.frames other) (origin own.owner other history) → FrameHolds d own.bits (m.frames other) (origin own.owner other after))
      → MemHolds d rows (with_frame d m frame changed) after
  one_frame m changed frame row history after found h same here others = record {
    active = λ owner. same owner ∙ h.active owner;
    frames = λ other own at runs. elim (cases_eq other frame) [
      | inl is ↦
          let r : row ≡ own = own_row other own at is in
          rw (eq-eqb other frame is) (subst (λ (f : ℕ). FrameHolds d own.bits changed (origin own.owner f after)) (sym is)
          (subst (λ (o : FrameShape). FrameHolds d o.bits changed (origin o.owner frame after)) r here))
      | inr differ ↦ rw (ne_eqb other frame differ) (others other own differ (h.frames other own at (sym (same own.owner) ∙ runs)))
    ];
  }
    where
      own_row : (other : ℕ) (own : FrameShape) → slice_get rows other ≡ Some own → other ≡ frame → row ≡ own
      own_row other own at is =
          let e : slice_get rows frame ≡ Some own = subst (λ (f : ℕ). slice_get rows f ≡ Some own) is at in
          cc

  module _ (size : ℕ) (set : d.Val) (is : IsCellSize size) (set_sized : d.val_sized set size) where
    weak_at_sized : (m : Mem d) (cell : ℕ × ℕ) → MemSized d m → MemSized d (weak_at d m cell size set)
    weak_at_sized m cell sized frame = by_test (frame == cell.0)
        (λ here. rw here (weak_sized d laws (m.frames cell.0) cell.1 size set is (sized cell.0) set_sized))
        (λ there. rw there (sized frame))

    strong_at_sized : (m : Mem d) (cell : ℕ × ℕ) → MemSized d m → MemSized d (strong_at d m cell size set)
    strong_at_sized m cell sized frame = by_test (frame == cell.0)
        (λ here. rw here (strong_sized d laws (m.frames cell.0) cell.1 size set is (sized cell.0) set_sized))
        (λ there. rw there (sized frame))

    all_sized : (m : Mem d) (cells : List (ℕ × ℕ)) → MemSized d m → MemSized d (weak_all d m cells size set)
    all_sized m [] sized = sized
    all_sized m (cell ∷ cells) sized = all_sized (weak_at d m cell size set) cells (weak_at_sized m cell sized)

    -- a store keeps the sizes
    pub mem_stored_sized : (m : Mem d) (cells : List (ℕ × ℕ)) → MemSized d m → MemSized d (stored d m cells size set)
    mem_stored_sized m [] sized = sized
    mem_stored_sized m (cell ∷ []) sized = strong_at_sized m cell sized
    mem_stored_sized m (cell ∷ other ∷ cells) sized = all_sized m (cell ∷ other ∷ cells) sized

    -- a cell that holds the value is pinned
    pub mem_pinned_sized : (m : Mem d) (cell : ℕ × ℕ) → MemSized d m → MemSized d (pinned_at d m cell size set)
    mem_pinned_sized m cell sized frame = by_test (frame == cell.0)
        (λ here. rw here (pinned_sized d laws (m.frames cell.0) cell.1 size set (sized cell.0) set_sized))
        (λ there. rw there (sized frame))

    pub pinned_at_holds : (m : Mem d) (history : List RunEvent) (frame offset : ℕ) (value : Value)
        → (p : IsPlaced rows history frame offset size)
        → cell_in (origin p.row.owner frame history) offset size ≡ Ok value → d.covers set value
        → MemHolds d rows m history → MemHolds d rows (pinned_at d m (frame, offset) size set) history
    pinned_at_holds m history frame offset value p gives in_set h =
        one_frame m (pinned d (m.frames frame) offset size set) frame p.row history history p.found h (λ owner. refl)
        (pinned_holds d laws p.row.bits (m.frames frame) (origin p.row.owner frame history) (h.frames frame p.row p.found p.runs) offset size set is set_sized value gives in_set)
        (λ other own differ held. held)

    -- a possible cell in which nothing is stored
    weak_at_holds : (m : Mem d) (history : List RunEvent) (frame offset : ℕ) → MemSized d m
        → IsPlaced rows history frame offset size
        → MemHolds d rows m history → MemHolds d rows (weak_at d m (frame, offset) size set) history
    weak_at_holds m history frame offset sized p h =
        one_frame m (weak d (m.frames frame) offset size set) frame p.row history history p.found h (λ owner. refl)
        (weak_holds d laws p.row.bits (m.frames frame) (origin p.row.owner frame history) (h.frames frame p.row p.found p.runs) offset size set is set_sized (sized frame) p.fits)
        (λ other own differ held. held)

    all_hold : (m : Mem d) (history : List RunEvent) (cells : List (ℕ × ℕ)) → MemSized d m
        → ((cell : ℕ × ℕ) → Contains cells cell → IsPlaced rows history cell.0 cell.1 size) → MemHolds d rows m history
        → MemHolds d rows (weak_all d m cells size set) history
    all_hold m history [] sized placed h = h
    all_hold m history (cell ∷ cells) sized placed h =
        all_hold (weak_at d m cell size set) history cells (weak_at_sized m cell sized) (λ other among. placed other (contains_later cell cells other among))
        (weak_at_holds m history cell.0 cell.1 sized (placed cell (contains_first cell cells)) h)

    module _ (value : Value) (in_set : d.covers set value) (fits : FitsValue size value) where
      strong_at_stores : (m : Mem d) (history : List RunEvent) (frame offset : ℕ)
          → IsPlaced rows history frame offset size → MemHolds d rows m history
          → MemHolds d rows (strong_at d m (frame, offset) size set) (Store frame offset size value ∷ history)
      strong_at_stores m history frame offset p h =
          one_frame m (strong d (m.frames frame) offset size set) frame p.row history (Store frame offset size value ∷ history) p.found h (λ owner. active_stored owner frame offset size value history)
          (within p.row.bits (strong d (m.frames frame) offset size set) p.row.owner frame offset size value history
          (strong_holds d laws p.row.bits (m.frames frame) (origin p.row.owner frame history) (h.frames frame p.row p.found p.runs) offset size set is set_sized value in_set fits))
          (λ other own differ held. elsewhere own.bits (m.frames other) own.owner other frame offset size value history (λ e. differ (sym e)) held)

      weak_at_stores : (m : Mem d) (history : List RunEvent) (frame offset : ℕ) → MemSized d m
          → IsPlaced rows history frame offset size
          → MemHolds d rows m history → MemHolds d rows (weak_at d m (frame, offset) size set) (Store frame offset size value ∷ history)
      weak_at_stores m history frame offset sized p h =
          one_frame m (weak d (m.frames frame) offset size set) frame p.row history (Store frame offset size value ∷ history) p.found h (λ owner. active_stored owner frame offset size value history)
          (within p.row.bits (weak d (m.frames frame) offset size set) p.row.owner frame offset size value history
          (weak_stores d laws p.row.bits (m.frames frame) (origin p.row.owner frame history) (h.frames frame p.row p.found p.runs) offset size set is set_sized value in_set fits (sized frame) p.fits))
          (λ other own differ held. elsewhere own.bits (m.frames other) own.owner other frame offset size value history (λ e. differ (sym e)) held)

      -- one of the possible cells is stored
      all_store : (m : Mem d) (history : List RunEvent) (cells : List (ℕ × ℕ)) (frame offset : ℕ) → MemSized d m
          → ((cell : ℕ × ℕ) → Contains cells cell → IsPlaced rows history cell.0 cell.1 size) → Contains cells (frame, offset) → MemHolds d rows m history
          → MemHolds d rows (weak_all d m cells size set) (Store frame offset size value ∷ history)
      all_store m history [] frame offset sized placed among h = absurd (contains_none (frame, offset) among)
      all_store m history (cell ∷ cells) frame offset sized placed among h = elim (contains_cases cell cells (frame, offset) among) [
        | inl same ↦
            all_hold (weak_at d m cell size set) (Store frame offset size value ∷ history) cells (weak_at_sized m cell sized)
            (λ other member. later frame offset other (placed other (contains_later cell cells other member)))
            (subst (λ (c : ℕ × ℕ). MemHolds d rows (weak_at d m c size set) (Store frame offset size value ∷ history)) same
            (weak_at_stores m history frame offset sized (placed (frame, offset) among) h))
        | inr rest ↦
            all_store (weak_at d m cell size set) history cells frame offset (weak_at_sized m cell sized) (λ other member. placed other (contains_later cell cells other member)) rest
            (weak_at_holds m history cell.0 cell.1 sized (placed cell (contains_first cell cells)) h)
      ]
        where
          later : (frame offset : ℕ) (cell : ℕ × ℕ) → IsPlaced rows history cell.0 cell.1 size
              → IsPlaced rows (Store frame offset size value ∷ history) cell.0 cell.1 size
          later frame offset cell p =
              record { row = p.row; found = p.found; runs = active_stored p.row.owner frame offset size value history ∙ p.runs; fits = p.fits }

      pub stored_holds : (m : Mem d) (history : List RunEvent) (cells : List (ℕ × ℕ)) (frame offset : ℕ) → MemSized d m
          → ((cell : ℕ × ℕ) → Contains cells cell → IsPlaced rows history cell.0 cell.1 size) → Contains cells (frame, offset) → MemHolds d rows m history
          → MemHolds d rows (stored d m cells size set) (Store frame offset size value ∷ history)
      stored_holds m history [] frame offset sized placed among h = absurd (contains_none (frame, offset) among)
      stored_holds m history (cell ∷ []) frame offset sized placed among h = elim (contains_cases cell [] (frame, offset) among) [
        | inl same ↦ subst (λ (c : ℕ × ℕ). MemHolds d rows (strong_at d m c size set) (Store frame offset size value ∷ history)) same (strong_at_stores m history frame offset (placed (frame, offset) among) h)
        | inr rest ↦ absurd (contains_none (frame, offset) rest)
      ]
      stored_holds m history (cell ∷ other ∷ cells) frame offset sized placed among h =
          all_store m history (cell ∷ other ∷ cells) frame offset sized placed among h

  -- before each event
  pub fresh_holds : MemHolds d rows (fresh d) []
  fresh_holds = record {
    active = active;
    frames = λ frame row found runs. empty_holds d row.bits;
  }
    where
      active : (owner : Option ℕ) → is_active owner [] ≡ is_on (fresh d).runs owner
      active None = refl
      active (Some function) = refl

  pub mem_fresh_sized : MemSized d (fresh d)
  mem_fresh_sized frame = empty_sized d laws

  -- two memories: what covers on one side covers after the join, where the same functions run
  pub both_left : (a b : Mem d) (history : List RunEvent) → MemSized d a → MemSized d b → MemHolds d rows a history
      → MemHolds d rows (both d a b) history
  both_left a b history s t h = record {
    active = h.active;
    frames =
        λ frame row found runs. joined_holds_left d laws row.bits (a.frames frame) (b.frames frame) (origin row.owner frame history) (s frame) (t frame) (h.frames frame row found runs);
  }

  pub both_right : (a b : Mem d) (history : List RunEvent) → MemSized d a → MemSized d b
      → ((function : ℕ) → a.runs function ≡ b.runs function)
      → MemHolds d rows b history → MemHolds d rows (both d a b) history
  both_right a b history s t same h = record {
    active = λ owner. h.active owner ∙ is_same owner;
    frames =
        λ frame row found runs. joined_holds_right d laws row.bits (a.frames frame) (b.frames frame) (origin row.owner frame history) (s frame) (t frame) (h.frames frame row found runs);
  }
    where
      is_same : (owner : Option ℕ) → is_on b.runs owner ≡ is_on a.runs owner
      is_same None = refl
      is_same (Some function) = sym (same function)

  -- leaving a function: what is active afterwards was active
  pub left_holds : (m : Mem d) (history : List RunEvent) (function : ℕ) → MemHolds d rows m history
      → MemHolds d rows (left d m function) (Leave function ∷ history)
  left_holds m history function h = record {
    active = active;
    frames = λ frame row found runs. h.frames frame row found (was row.owner runs);
  }
    where
      active : (owner : Option ℕ) → is_active owner (Leave function ∷ history) ≡ is_on (left d m function).runs owner
      active None = refl
      active (Some g) = elim (cases_eq g function) [
        | inl same ↦ rw (eq-eqb function g (sym same), eq-eqb g function same) refl
        | inr differ ↦ rw (ne_eqb function g (λ e. differ (sym e)), ne_eqb g function differ) (h.active (Some g))
      ]

      was : (owner : Option ℕ) → is_active owner (Leave function ∷ history) ≡ true → is_active owner history ≡ true
      was None runs = refl
      was (Some g) runs = elim (cases_eq g function) [
        | inl same ↦ let e : false ≡ true = rw (eq-eqb function g (sym same)) at runs in absurd (false≢true e)
        | inr differ ↦ rw (ne_eqb function g (λ e. differ (sym e))) at runs
      ]

  -- entering a function empties its frames
  pub entered_holds : (m : Mem d) (history : List RunEvent) (function : ℕ) → MemHolds d rows m history
      → MemHolds d rows (entered d rows m function) (Enter function ∷ history)
  entered_holds m history function h = record {
    active = active;
    frames = λ frame row found runs. by_test (is_owner row.owner function)
        (λ mine.
        let own : owner_at d rows function frame ≡ true = rw found mine in
        rw own (subst (λ (from : ℕ → Option Byte). FrameHolds d row.bits (empty d) from)
        (sym (funext (origin row.owner frame (Enter function ∷ history)) (λ byte. None) (λ byte. rw mine refl))) (empty_holds d row.bits)))
        (λ not_mine.
        let own : owner_at d rows function frame ≡ false = rw found not_mine in
        rw own (subst (λ (from : ℕ → Option Byte). FrameHolds d row.bits (m.frames frame) from)
        (sym (funext (origin row.owner frame (Enter function ∷ history)) (origin row.owner frame history) (λ byte. rw not_mine refl)))
        (h.frames frame row found (was row.owner not_mine runs))));
  }
    where
      active : (owner : Option ℕ)
          → is_active owner (Enter function ∷ history) ≡ is_on (entered d rows m function).runs owner
      active None = refl
      active (Some g) = elim (cases_eq g function) [
        | inl same ↦ rw (eq-eqb function g (sym same), eq-eqb g function same) refl
        | inr differ ↦ rw (ne_eqb function g (λ e. differ (sym e)), ne_eqb g function differ) (h.active (Some g))
      ]

      was : (owner : Option ℕ) → is_owner owner function ≡ false → is_active owner (Enter function ∷ history) ≡ true
          → is_active owner history ≡ true
      was None other runs = refl
      was (Some g) other runs = elim (cases_eq g function) [
        | inl same ↦ absurd (false≢true (sym other ∙ eq-eqb g function same))
        | inr differ ↦ rw (ne_eqb function g (λ e. differ (sym e))) at runs
      ]

  -- each call keeps the sizes
  pub mem_entered_sized : (m : Mem d) (function : ℕ) → MemSized d m → MemSized d (entered d rows m function)
  mem_entered_sized m function sized frame = by_test (owner_at d rows function frame)
      (λ mine. rw mine (empty_sized d laws))
      (λ not_mine. rw not_mine (sized frame))

  pub mem_left_sized : (m : Mem d) (function : ℕ) → MemSized d m → MemSized d (left d m function)
  mem_left_sized m function sized frame = sized frame

  pub mem_both_sized : (a b : Mem d) → MemSized d a → MemSized d b → MemSized d (both d a b)
  mem_both_sized a b s t frame = joined_sized d laws (a.frames frame) (b.frames frame) (s frame) (t frame)
