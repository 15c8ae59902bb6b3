-- The one cell that an address means.
--   lone_fits        it lies in its frame
--   lone_loads       what a load gives
--   known_loads      and of a cell that is known to hold a value
--   lone_changes     what a store changes
--   lone_goes_on, lone_faults   a run goes on, and no fault is told
use Rattle.std.specs.Prelude.{◌≢◌, ◌↔◌, ◌++◌}
use Rattle.std.proofs.Common.{Bool, ◌≡◌, ◌∙◌, refl, ap, subst, sym, ℕ, true, List, [], ◌∷◌, map, Some, None, Ok, IfSome, IsTrue}
use Rattle.std.proofs.lemmas.Bool.{false≢true}
use Rattle.alf_ops.specs.declared.history.RunFault.{RunFault}
use Rattle.alf_ops.specs.declared.history.FrameShape.{FrameShape}
use Rattle.domain_core.specs.declared.fault_set.FaultSet.{FaultSet}
use Rattle.domain_core.specs.FaultSets.{has_fault, no_faults}
use Rattle.domain_core.specs.FaultLaws.{is_empty}
use Rattle.pointer_rules.specs.AbstractValues.{AbstractValue}
use Rattle.pointer_rules.specs.Covering.{IsValue}
use Rattle.memory_pages.specs.Slots.{HeldSlot}
use Rattle.memory_rules.specs.AbstractSets.{abstract_sets}
use Rattle.memory_rules.specs.Covers.{IsCellSize}
use Rattle.memory_rules.specs.Addresses.{cells_of, IsAddressFault}
use Rattle.memory_rules.specs.Frames.{load_results}
use Rattle.memory_rules.specs.Memories.{Mem, joined_values, load_all, stored, strong_at}
use Rattle.memory_model.specs.HeldMemories.{memory_of}
use Rattle.frame_memory.specs.declared.loaded.Loaded.{Loaded}
use Rattle.frame_memory.specs.LoadedResults.{onto}
use Rattle.memory_model.specs.KeptMemories.{bytes_in}
use Rattle.abstract_memory.specs.Running.{runs_in}
use Rattle.abstract_memory.specs.OnlyCells.{IsOnlyCell}
use Rattle.abstract_memory.specs.Cells.{AllFit, Changes, Fits, Loads}
use Rattle.abstract_memory.proofs.Fitting.{all_fit}
use Rattle.abstract_memory.proofs.Loading.{load_faults}

none_told : (set : FaultSet) (fault : RunFault) → set ≡ no_faults → has_fault set fault ≡ true → ⊥
none_told set fault none has = false≢true (sym (is_empty fault) ∙ (ap (λ (s : FaultSet). has_fault s fault) (sym none) ∙ has))

append_none : {A : Type 0} (xs : List A) → xs ++ [] ≡ xs
append_none [] = refl
append_none (x ∷ xs) = ap (λ rest. x ∷ rest) (append_none xs)

-- ---- the cell, where an address means it alone
module _ (rows : List FrameShape) (at : AbstractValue) (size : ℕ) (cell : ℕ × ℕ) where
  -- it lies in its frame
  pub lone_fits : (runs : ℕ → Bool) (lengths : List ℕ) → IsCellSize size → lengths ≡ map bytes_in rows
      → IsOnlyCell rows runs at size cell → Fits lengths size cell
  lone_fits runs lengths is same only = (subst (λ (list : List (ℕ × ℕ)). AllFit lengths size list) only.cells (all_fit rows size lengths is same runs at.places)).0

  one_result : (m : Mem abstract_sets)
      → load_results abstract_sets (m.frames cell.0) cell.1 size ≡ load_all abstract_sets m (cell ∷ []) size
  one_result m = sym (append_none (load_results abstract_sets (m.frames cell.0) cell.1 size))

  -- what a load gives
  pub lone_loads : (running : List Bool) (frames : List (List HeldSlot)) (told : FaultSet) (loaded : Loaded)
      → told ≡ no_faults → IsOnlyCell rows (runs_in running) at size cell
      → ((r : List Bool) → loaded ≡ onto (record { value = None; faults = told }) (load_results abstract_sets ((memory_of r frames).frames cell.0) cell.1 size))
      → IfSome loaded.value (IsValue size)
      → Loads rows (memory_of running frames) at size (loaded.value, loaded.faults)
  lone_loads running frames told loaded none only loads sized =
      let before : Loaded = record { value = None; faults = told } in
      let m = memory_of running frames in
      let all : (r : List Bool) → loaded ≡ onto before (load_all abstract_sets (memory_of r frames) (cell ∷ []) size) =
      λ r. loads r ∙ ap (onto before) (one_result (memory_of r frames)) in
      record {
        value = ap (λ (l : Loaded). l.value) (all running) ∙ ap (λ (list : List (ℕ × ℕ)). joined_values abstract_sets None (load_all abstract_sets m list size)) (sym only.cells);
        sized = sized;
        faults = load_faults rows running frames at size told (cell ∷ []) loaded (sym only.cells) all
            (λ fault. (λ has. absurd (none_told told fault none has), λ is. absurd (only.faults fault is)));
      }

  -- and of a cell that is known to hold a value
  pub known_loads : (running : List Bool) (frames : List (List HeldSlot)) (told : FaultSet) (value : AbstractValue)
      → told ≡ no_faults → IsOnlyCell rows (runs_in running) at size cell
      → ((r : List Bool) → load_results abstract_sets ((memory_of r frames).frames cell.0) cell.1 size ≡ Ok value ∷ []) → IsValue size value
      → Loads rows (memory_of running frames) at size (Some value, told)
  known_loads running frames told value none only gives sized =
      let before : Loaded = record { value = None; faults = told } in
      lone_loads running frames told (record { value = Some value; faults = told }) none only (λ r. ap (onto before) (sym (gives r))) sized

  -- what a store changes
  pub lone_changes : (runs : ℕ → Bool) (old new : List (List HeldSlot)) (value : AbstractValue)
      → Changes old new (λ m. strong_at abstract_sets m cell size value)
      → IsOnlyCell rows runs at size cell → Changes old new (λ m. stored abstract_sets m (cells_of rows runs at.places size) size value)
  lone_changes runs old new value changes only =
      subst (λ (list : List (ℕ × ℕ)). Changes old new (λ m. stored abstract_sets m list size value)) (sym only.cells) changes

  some_cell : (rest : List (ℕ × ℕ)) → cell ∷ rest ≡ [] → ⊥
  some_cell rest e = cc

  -- a run goes on
  pub lone_goes_on : (runs : ℕ → Bool) (on : Bool) → on ≡ true → IsOnlyCell rows runs at size cell
      → IsTrue on ↔ (cells_of rows runs at.places size ≢ [])
  lone_goes_on runs on is only = (λ yes none. some_cell [] (sym only.cells ∙ none), λ some. subst IsTrue (sym is) refl)

  -- and no fault is told
  pub lone_faults : (runs : ℕ → Bool) (told : FaultSet) → told ≡ no_faults → IsOnlyCell rows runs at size cell
      → (fault : RunFault) → (has_fault told fault ≡ true) ↔ IsAddressFault rows runs at size fault
  lone_faults runs told none only fault = (λ has. absurd (none_told told fault none has), λ is. absurd (only.faults fault is))
