-- Loads of a cell, joined onto what was loaded before.
--   told_sized                       what is loaded before the bytes are read has the size of the cell
--   kept_stands, bytes_stand         a cell as it stands
--   kept_sized                       the value of a kept cell has its size
--   known_is, known_sized            a cell that is known to hold a value
--   load_is, faults_are, sized_are   the results of the cell as it stands, the faults and the size of what was loaded
use Rattle.std.specs.Prelude.{IfOk, IfSome, Contains, ◌↔◌}
use Rattle.std.proofs.Common.{◌≡◌, ◌⊎◌, sym, subst, ◌∙◌, ap, ℕ, Bool, true, false, List, [], ◌∷◌, Option, Some, None, Result, Ok, Err, arith, ◌/◌, ◌%◌, ◌<◌}
use Rattle.std.proofs.lemmas.Bool.{and_parts, eqb-true, ltb-true, leb-true}
use Rattle.alf_ops.specs.declared.history.RunFault.{RunFault}
use Rattle.alf_ops.specs.declared.history.RunFault.TheVariants.{Uninit}
use Rattle.domain_core.specs.FaultSets.{has_fault}
use Rattle.pointer_rules.specs.AbstractValues.{AbstractValue}
use Rattle.pointer_rules.specs.Covering.{IsValue}
use Rattle.memory_rules.specs.AbstractSets.{abstract_sets}
use Rattle.memory_rules.specs.AbstractSetLaws.{abstract_is_sets}
use Rattle.memory_rules.specs.Frames.{Cell, FrameMem, value_result, results, load_results, kept_or, not_kept, stands, taken}
use Rattle.memory_rules.specs.Covers.{FrameSized, IsCellSize}
use Rattle.memory_rules.specs.Memories.{faults_of}
use Rattle.memory_rules.specs.Gathered.{EachSized}
use Rattle.memory_rules.specs.GatheredLaws.{results_sized}
use Rattle.memory_model.specs.HeldFrames.{is_cell_size}
use Rattle.frame_memory.specs.declared.loaded.Loaded.{Loaded}
use Rattle.frame_memory.specs.LoadedResults.{onto, told}
use Rattle.frame_memory.specs.LoadLaws.{faults_told}
use Rattle.frame_memory.proofs.LoadLemmas.{onto_sized}

is_size : (size : ℕ) → is_cell_size size ≡ true → IsCellSize size
is_size size is =
    let parts = and_parts _ _ is in
    let bounds = and_parts _ _ parts.1 in
    let whole : size % 8 ≡ 0 = eqb-true (size % 8) 0 parts.0 in
    let some : 0 < size = ltb-true 0 size bounds.0 in
    let first : 0 < size / 8 = omega (arith, whole, some) in
    (first, whole, leb-true size 64 bounds.1)

value_sized : (size : ℕ) (value : Option AbstractValue) → IfSome value (IsValue size)
    → EachSized abstract_sets size (value_result abstract_sets value)
value_sized size None s = tt
value_sized size (Some value) s = (s, tt)

fault_sized : (size : ℕ) (is : Bool) (fault : RunFault) → EachSized abstract_sets size (told is fault)
fault_sized size true fault = tt
fault_sized size false fault = tt

-- what is read of a cell before its bytes has its size
pub told_sized : (size : ℕ) (before own after : Loaded) (cell : Cell AbstractValue) → IfSome before.value (IsValue size)
    → IfSome cell.value (IsValue size)
    → own ≡ onto before (value_result abstract_sets cell.value) → after ≡ onto own (told cell.u Uninit) → IfSome after.value (IsValue size)
told_sized size before own after cell sized of_cell first second =
    let of_own : IfSome own.value (IsValue size) =
    subst (λ (l : Loaded). IfSome l.value (IsValue size)) (sym first)
    (onto_sized size before.value (value_result abstract_sets cell.value) sized (value_sized size cell.value of_cell)) in
    subst (λ (l : Loaded). IfSome l.value (IsValue size)) (sym second)
    (onto_sized size own.value (told cell.u Uninit) of_own (fault_sized size cell.u Uninit))

-- ---- a cell as it stands

module _ (m : FrameMem abstract_sets) (offset size : ℕ) where
  pub kept_stands : (cell : Cell AbstractValue) → Some cell ≡ m.cells offset size
      → cell ≡ stands abstract_sets m offset size
  kept_stands cell kept = ap (λ c. kept_or c (not_kept (taken abstract_sets m offset size))) kept

  pub bytes_stand : None ≡ m.cells offset size
      → not_kept (taken abstract_sets m offset size) ≡ stands abstract_sets m offset size
  bytes_stand none = ap (λ c. kept_or c (not_kept (taken abstract_sets m offset size))) none

  pub kept_sized : (cell : Cell AbstractValue) → FrameSized abstract_sets m → Some cell ≡ m.cells offset size
      → IfSome cell.value (IsValue size)
  kept_sized cell sized kept = sized.kept offset size cell (sym kept)

  -- a cell that is known to hold a value gives it alone
  pub known_is : (cell : Cell AbstractValue) (value : AbstractValue) → Some cell ≡ m.cells offset size
      → cell ≡ record { value = Some value; u = false; x = false }
      → load_results abstract_sets m offset size ≡ Ok value ∷ []
  known_is cell value kept is = ap (λ (c : Cell AbstractValue). results abstract_sets (taken abstract_sets m offset size) c) (sym (kept_stands cell kept) ∙ is)

  pub known_sized : (cell : Cell AbstractValue) (value : AbstractValue) → FrameSized abstract_sets m
      → Some cell ≡ m.cells offset size
      → cell ≡ record { value = Some value; u = false; x = false } → IsValue size value
  known_sized cell value sized kept is = subst (λ (c : Cell AbstractValue). IfSome c.value (IsValue size)) is (kept_sized cell sized kept)

  -- the results of the cell as it stands are those of a load
  pub load_is : {E : Type 0} (before : Loaded) (cell : Cell AbstractValue) (result : Result Loaded E)
      → cell ≡ stands abstract_sets m offset size
      → IfOk result (λ now. now ≡ onto before (results abstract_sets (taken abstract_sets m offset size) cell))
      → IfOk result (λ now. now ≡ onto before (load_results abstract_sets m offset size))
  load_is before cell (Err fault) is h = tt
  load_is before cell (Ok now) is h = h ∙ ap (λ (c : Cell AbstractValue). onto before (results abstract_sets (taken abstract_sets m offset size) c)) is

  -- and the value has the size of the cell
  pub sized_are : {E : Type 0} (before : Loaded) (result : Result Loaded E) → is_cell_size size ≡ true
      → FrameSized abstract_sets m
      → IfSome before.value (IsValue size) → IfOk result (λ now. now ≡ onto before (load_results abstract_sets m offset size))
      → IfOk result (λ now. IfSome now.value (IsValue size))
  sized_are before (Err fault) is sized of_before h = tt
  sized_are before (Ok now) is sized of_before h =
      subst (λ (l : Loaded). IfSome l.value (IsValue size)) (sym h)
      (onto_sized size before.value (load_results abstract_sets m offset size) of_before
      (results_sized abstract_sets abstract_is_sets m sized offset size (is_size size is)))

-- exactly the faults that were there and those of the results are told
pub faults_are : {E : Type 0} (before : Loaded) (rs : List (Result AbstractValue RunFault)) (result : Result Loaded E)
    → IfOk result (λ now. now ≡ onto before rs)
    → IfOk result (λ now. (kind : RunFault) → (has_fault now.faults kind ≡ true) ↔ ((has_fault before.faults kind ≡ true) ⊎ Contains (faults_of abstract_sets rs) kind))
faults_are before rs (Err fault) is = tt
faults_are before rs (Ok now) is =
    λ kind. subst (λ (l : Loaded). (has_fault l.faults kind ≡ true) ↔ ((has_fault before.faults kind ≡ true) ⊎ Contains (faults_of abstract_sets rs) kind)) (sym is)
    (faults_told before.faults (faults_of abstract_sets rs) kind)
