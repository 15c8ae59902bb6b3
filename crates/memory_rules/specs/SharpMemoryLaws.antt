-- Each call of a sharp run keeps a memory sharp.
--   stored_sharp, entered_sharp, left_sharp, pinned_at_sharp, fresh_sharp   where the memory after the call covers
use Rattle.std.proofs.Common.{◌≡◌, inl, inr, sym, subst, ◌∙◌, ℕ, true, false, List, [], ◌∷◌, Option, Some, None, Ok, refl}
use Rattle.std.specs.Prelude.{slice_get}
use Rattle.lists.specs.TestLaws.{by_test}
use Rattle.std.proofs.lemmas.Bool.{cases_eq, eq-eqb, ne_eqb, false≢true}
use Rattle.alf_ops.specs.declared.history.Value.{Value}
use Rattle.alf_ops.specs.declared.history.FrameShape.{FrameShape}
use Rattle.alf_ops.specs.declared.history.RunEvent.{RunEvent}
use Rattle.alf_ops.specs.declared.history.RunEvent.TheVariants.{Enter, Leave, Store}
use Rattle.alf_ops.specs.Histories.{Byte, cell_in, origin, put, is_active, is_owner}
use Rattle.alf_ops.specs.TableLaws.{origin_stored, origin_elsewhere}
use Rattle.alf_ops.specs.Values.{FitsValue}
use Rattle.memory_rules.specs.ValueSets.{ValueSets, IsValueSets, OnlyCovers}
use Rattle.memory_rules.specs.Frames.{FrameMem, strong, pinned, empty}
use Rattle.memory_rules.specs.Covers.{FrameCovers, IsCellSize}
use Rattle.memory_rules.specs.Sharp.{FrameSharp}
use Rattle.memory_rules.specs.Memories.{Mem, fresh, pinned_at, strong_at, owner_at, entered, left, MemCovers, MemSharp, IsPlaced}
use Rattle.memory_rules.specs.MemoryCoveringLaws.{funext, active_stored}
use Rattle.memory_rules.specs.SharpFrameLaws.{strong_sharp, pinned_sharp, empty_sharp}

-- a frame whose table is the same
same_table : (d : ValueSets) (bits : ℕ) (m : FrameMem d) (f g : ℕ → Option Byte) → ((byte : ℕ) → g byte ≡ f byte)
    → FrameSharp d bits m f
    → FrameSharp d bits m g
same_table d bits m f g same h = subst (λ (from : ℕ → Option Byte). FrameSharp d bits m from) (sym (funext g f same)) h

module _ (d : ValueSets) (laws : IsValueSets d) (rows : List FrameShape) where
  -- a store of one value to the one possible cell
  pub stored_sharp : (m : Mem d) (history : List RunEvent) (frame offset size : ℕ) (set : d.Val) (value : Value)
      → MemSharp d rows m history
      → MemCovers d rows (strong_at d m (frame, offset) size set) (Store frame offset size value ∷ history)
      → IsCellSize size → d.val_sized set size → OnlyCovers d set value → FitsValue size value → IsPlaced rows history frame offset size
      → MemSharp d rows (strong_at d m (frame, offset) size set) (Store frame offset size value ∷ history)
  stored_sharp m history frame offset size set value sharp covers is set_sized only fits p = record {
    active = covers.active;
    frames = λ other row found runs. elim (cases_eq other frame) [
      | inl same ↦ here other row same (sharp.frames other row found (sym (active_stored row.owner frame offset size value history) ∙ runs)) (covers.frames other row found runs)
      | inr differ ↦ rw (ne_eqb other frame differ)
          (same_table d row.bits (m.frames other) (origin row.owner other history) (origin row.owner other (Store frame offset size value ∷ history))
          (λ byte. origin_elsewhere row.owner other frame offset size value history byte (λ e. differ (sym e)))
          (sharp.frames other row found (sym (active_stored row.owner frame offset size value history) ∙ runs)))
    ];
  }
    where
      here : (other : ℕ) (row : FrameShape) → other ≡ frame
          → FrameSharp d row.bits (m.frames other) (origin row.owner other history)
          → FrameCovers d row.bits ((strong_at d m (frame, offset) size set).frames other) (origin row.owner other (Store frame offset size value ∷ history))
          → FrameSharp d row.bits ((strong_at d m (frame, offset) size set).frames other) (origin row.owner other (Store frame offset size value ∷ history))
      here other row same h c =
          let table : origin row.owner frame (Store frame offset size value ∷ history) ≡ put offset size value (origin row.owner frame history) =
          funext (origin row.owner frame (Store frame offset size value ∷ history)) (put offset size value (origin row.owner frame history)) (λ byte. origin_stored row.owner frame offset size value history byte) in
          let h' : FrameSharp d row.bits (m.frames frame) (origin row.owner frame history) = subst (λ (f : ℕ). FrameSharp d row.bits (m.frames f) (origin row.owner f history)) same h in
          let c' : FrameCovers d row.bits ((strong_at d m (frame, offset) size set).frames frame) (origin row.owner frame (Store frame offset size value ∷ history)) =
          subst (λ (f : ℕ). FrameCovers d row.bits ((strong_at d m (frame, offset) size set).frames f) (origin row.owner f (Store frame offset size value ∷ history))) same c in
          let c'' : FrameCovers d row.bits (strong d (m.frames frame) offset size set) (put offset size value (origin row.owner frame history)) =
          subst (λ (from : ℕ → Option Byte). FrameCovers d row.bits (strong d (m.frames frame) offset size set) from) table (rw (eq-eqb frame frame refl) at c') in
          let done : FrameSharp d row.bits (strong d (m.frames frame) offset size set) (origin row.owner frame (Store frame offset size value ∷ history)) =
          subst (λ (from : ℕ → Option Byte). FrameSharp d row.bits (strong d (m.frames frame) offset size set) from) (sym table)
          (strong_sharp d laws row.bits (m.frames frame) (origin row.owner frame history) offset size set value h' c'' is set_sized only fits) in
          rw (eq-eqb other frame same) (subst (λ (f : ℕ). FrameSharp d row.bits (strong d (m.frames frame) offset size set) (origin row.owner f (Store frame offset size value ∷ history))) (sym same) done)

  -- before each event
  pub fresh_sharp : MemCovers d rows (fresh d) [] → MemSharp d rows (fresh d) []
  fresh_sharp covers = record {
    active = covers.active;
    frames = λ frame row found runs. empty_sharp d laws row.bits (covers.frames frame row found runs);
  }

  -- a cell that holds the value is pinned to it alone
  pub pinned_at_sharp : (m : Mem d) (history : List RunEvent) (frame offset size : ℕ) (set : d.Val) (value : Value)
      → MemSharp d rows m history
      → MemCovers d rows (pinned_at d m (frame, offset) size set) history → (p : IsPlaced rows history frame offset size)
      → cell_in (origin p.row.owner frame history) offset size ≡ Ok value → OnlyCovers d set value
      → MemSharp d rows (pinned_at d m (frame, offset) size set) history
  pinned_at_sharp m history frame offset size set value sharp covers p gives only = record {
    active = covers.active;
    frames = λ other row found runs. elim (cases_eq other frame) [
      | inl same ↦ here other row same found runs
      | inr differ ↦ rw (ne_eqb other frame differ) (sharp.frames other row found runs)
    ];
  }
    where
      here : (other : ℕ) (row : FrameShape) → other ≡ frame → slice_get rows other ≡ Some row
          → is_active row.owner history ≡ true
          → FrameSharp d row.bits ((pinned_at d m (frame, offset) size set).frames other) (origin row.owner other history)
      here other row same found runs =
          let at : slice_get rows frame ≡ Some row = subst (λ (f : ℕ). slice_get rows f ≡ Some row) same found in
          let own : p.row ≡ row = same_row p.row row p.found at in
          let c : FrameCovers d row.bits ((pinned_at d m (frame, offset) size set).frames frame) (origin row.owner frame history) = covers.frames frame row at runs in
          let c' : FrameCovers d row.bits (pinned d (m.frames frame) offset size set) (origin row.owner frame history) = rw (eq-eqb frame frame refl) at c in
          let held : cell_in (origin row.owner frame history) offset size ≡ Ok value =
          subst (λ (r : FrameShape). cell_in (origin r.owner frame history) offset size ≡ Ok value) own gives in
          let done : FrameSharp d row.bits (pinned d (m.frames frame) offset size set) (origin row.owner frame history) =
          pinned_sharp d laws row.bits (m.frames frame) (origin row.owner frame history) offset size set value (sharp.frames frame row at runs) c' held only in
          rw (eq-eqb other frame same) (subst (λ (f : ℕ). FrameSharp d row.bits (pinned d (m.frames frame) offset size set) (origin row.owner f history)) (sym same) done)
        where
          same_row : (a b : FrameShape) → slice_get rows frame ≡ Some a → slice_get rows frame ≡ Some b → a ≡ b
          same_row a b one two = cc

  -- what is active after a function of others is entered was active
  was_active : (owner : Option ℕ) (function : ℕ) (history : List RunEvent) → is_owner owner function ≡ false
      → is_active owner (Enter function ∷ history) ≡ true
      → is_active owner history ≡ true
  was_active None function history other runs = refl
  was_active (Some g) function history other runs = elim (cases_eq g function) [
    | inl same ↦ absurd (false≢true (sym other ∙ eq-eqb g function same))
    | inr differ ↦ rw (ne_eqb function g (λ e. differ (sym e))) at runs
  ]

  -- entering a function
  pub entered_sharp : (m : Mem d) (history : List RunEvent) (function : ℕ) → MemSharp d rows m history
      → MemCovers d rows (entered d rows m function) (Enter function ∷ history) → MemSharp d rows (entered d rows m function) (Enter function ∷ history)
  entered_sharp m history function sharp covers = record {
    active = covers.active;
    frames = λ frame row found runs. by_test (is_owner row.owner function)
        (λ mine. own_frame frame row found mine (covers.frames frame row found runs))
        (λ not_mine.
        let own : owner_at d rows function frame ≡ false = rw found not_mine in
        rw own (same_table d row.bits (m.frames frame) (origin row.owner frame history) (origin row.owner frame (Enter function ∷ history)) (λ byte. rw not_mine refl)
        (sharp.frames frame row found (was_active row.owner function history not_mine runs))));
  }
    where
      own_frame : (frame : ℕ) (row : FrameShape) → slice_get rows frame ≡ Some row → is_owner row.owner function ≡ true
          → FrameCovers d row.bits ((entered d rows m function).frames frame) (origin row.owner frame (Enter function ∷ history))
          → FrameSharp d row.bits ((entered d rows m function).frames frame) (origin row.owner frame (Enter function ∷ history))
      own_frame frame row found mine c =
          let own : owner_at d rows function frame ≡ true = rw found mine in
          let table : origin row.owner frame (Enter function ∷ history) ≡ (λ (byte : ℕ). None) =
          funext (origin row.owner frame (Enter function ∷ history)) (λ byte. None) (λ byte. rw mine refl) in
          let c' : FrameCovers d row.bits (empty d) (origin row.owner frame (Enter function ∷ history)) = rw own at c in
          let c'' : FrameCovers d row.bits (empty d) (λ (byte : ℕ). None) = subst (λ (from : ℕ → Option Byte). FrameCovers d row.bits (empty d) from) table c' in
          rw own (same_table d row.bits (empty d) (λ byte. None) (origin row.owner frame (Enter function ∷ history)) (λ byte. rw mine refl) (empty_sharp d laws row.bits c''))

  -- leaving a function: what is active afterwards was active
  pub left_sharp : (m : Mem d) (history : List RunEvent) (function : ℕ) → MemSharp d rows m history
      → MemCovers d rows (left d m function) (Leave function ∷ history) → MemSharp d rows (left d m function) (Leave function ∷ history)
  left_sharp m history function sharp covers = record {
    active = covers.active;
    frames = λ frame row found runs. sharp.frames frame row found (was row.owner runs);
  }
    where
      was : (owner : Option ℕ) → is_active owner (Leave function ∷ history) ≡ true → is_active owner history ≡ true
      was None runs = refl
      was (Some g) runs = elim (cases_eq g function) [
        | inl same ↦ let e : false ≡ true = rw (eq-eqb function g (sym same)) at runs in absurd (false≢true e)
        | inr differ ↦ rw (ne_eqb function g (λ e. differ (sym e))) at runs
      ]
