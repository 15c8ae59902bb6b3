-- Loads of several cells.
--   LoadedSo          after loads of some of the possible cells
--   loaded_more, all_loaded
--   load_faults       the faults of a load
use Rattle.std.specs.Prelude.{◌↔◌}
use Rattle.std.proofs.Common.{Bool, ◌≡◌, ◌∙◌, ap, subst, sym, inl, inr, ⊎_elim, ℕ, true, List, [], ◌∷◌, map, length, Contains, None, IfSome}
use Rattle.alf_ops.specs.declared.history.FrameShape.{FrameShape}
use Rattle.alf_ops.specs.declared.history.RunFault.{RunFault}
use Rattle.abstract_memory.specs.Running.{runs_in}
use Rattle.domain_core.specs.declared.fault_set.FaultSet.{FaultSet}
use Rattle.domain_core.specs.FaultSets.{has_fault}
use Rattle.memory_rules.specs.Addresses.{cells_of, load_at, IsAddressFault, IsLoadFault}
use Rattle.pointer_rules.specs.AbstractValues.{AbstractValue}
use Rattle.pointer_rules.specs.Covering.{IsValue}
use Rattle.memory_pages.specs.Slots.{HeldSlot}
use Rattle.memory_rules.specs.AbstractSets.{abstract_sets}
use Rattle.memory_rules.specs.Frames.{load_results}
use Rattle.memory_rules.specs.Memories.{load_all, faults_of}
use Rattle.memory_model.specs.HeldMemories.{memory_of}
use Rattle.frame_memory.specs.declared.loaded.Loaded.{Loaded}
use Rattle.frame_memory.specs.LoadedResults.{onto, with_faults}
use Rattle.frame_memory.specs.LoadLaws.{onto_more, faults_told}
use Rattle.abstract_memory.specs.Cells.{AllFit}

-- after loads of some of the possible cells, where those of rest are left
pub record LoadedSo (frames : List (List HeldSlot)) (cells rest : List (ℕ × ℕ)) (size : ℕ)
    (before now : Loaded) : Type 0 where
  pub value : (running : List Bool) → onto now (load_all abstract_sets (memory_of running frames) rest size) ≡ onto before (load_all abstract_sets (memory_of running frames) cells size)
  pub sized : IfSome now.value (IsValue size)
  pub fit : AllFit (map length frames) size rest

module _ (frames : List (List HeldSlot)) (cells : List (ℕ × ℕ)) (size : ℕ) (before : Loaded) where
  pub loaded_more : (now next : Loaded) (rest others : List (ℕ × ℕ)) (cell : ℕ × ℕ) → rest ≡ cell ∷ others
      → LoadedSo frames cells rest size before now
      → ((running : List Bool) → next ≡ onto now (load_results abstract_sets ((memory_of running frames).frames cell.0) cell.1 size))
      → IfSome next.value (IsValue size) → LoadedSo frames cells others size before next
  loaded_more now next rest others cell is so loads sized =
      let own = subst (λ (list : List (ℕ × ℕ)). LoadedSo frames cells list size before now) is so in
      record {
        value = λ running.
            ap (λ (l : Loaded). onto l (load_all abstract_sets (memory_of running frames) others size)) (loads running)
            ∙ (sym (onto_more now (load_results abstract_sets ((memory_of running frames).frames cell.0) cell.1 size) (load_all abstract_sets (memory_of running frames) others size))
            ∙ own.value running);
        sized = sized;
        fit = own.fit.1;
      }

  pub all_loaded : (now : Loaded) (rest : List (ℕ × ℕ)) → rest ≡ [] → LoadedSo frames cells rest size before now
      → (running : List Bool) → now ≡ onto before (load_all abstract_sets (memory_of running frames) cells size)
  all_loaded now rest none so = (subst (λ (list : List (ℕ × ℕ)). LoadedSo frames cells list size before now) none so).value

-- the faults of the address and of the cells
pub load_faults : (rows : List FrameShape) (running : List Bool) (frames : List (List HeldSlot)) (at : AbstractValue) (size : ℕ) (told : FaultSet) (cells : List (ℕ × ℕ)) (loaded : Loaded)
    → cells ≡ cells_of rows (runs_in running) at.places size
    → ((r : List Bool) → loaded ≡ onto (record { value = None; faults = told }) (load_all abstract_sets (memory_of r frames) cells size))
    → ((fault : RunFault) → (has_fault told fault ≡ true) ↔ IsAddressFault rows (runs_in running) at size fault)
    → (fault : RunFault) → (has_fault loaded.faults fault ≡ true) ↔ IsLoadFault rows (memory_of running frames) at size fault
load_faults rows running frames at size told cells loaded are loads address fault =
    let results = faults_of abstract_sets (load_at rows (memory_of running frames) at size) in
    let is : loaded.faults ≡ with_faults told results =
    ap (λ (l : Loaded). l.faults) (loads running)
    ∙ ap (λ (list : List (ℕ × ℕ)). with_faults told (faults_of abstract_sets (load_all abstract_sets (memory_of running frames) list size))) are in
    let both = faults_told told results fault in
    let own = address fault in (
      λ has. ⊎_elim
          (λ (a : has_fault told fault ≡ true). inl (own.0 a))
          (λ (b : Contains results fault). inr b)
          (both.0 (subst (λ (set : FaultSet). has_fault set fault ≡ true) is has)),
      λ is_one. subst (λ (set : FaultSet). has_fault set fault ≡ true) (sym is) (both.1 (⊎_elim
          (λ (a : IsAddressFault rows (runs_in running) at size fault). inl (own.1 a))
          (λ (b : Contains results fault). inr b)
          is_one)),
    )
