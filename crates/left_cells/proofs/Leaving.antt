-- The memory after statements stands for the history after them.
--   each_typed    statements keep the rules
--   left_stands, left_runs, none_left   where runs go on, and where none does
use Rattle.std.specs.Prelude.{All}
use Rattle.std.specs.List.{AllByRecursion}
use Rattle.std.proofs.Common.{◌≡◌, ℕ, true, false, List, [], ◌∷◌, Some, None, sym, ap, subst, ◌∙◌}
use Rattle.std.proofs.lemmas.List.Elements.{All-head, All-tail}
use Rattle.std.proofs.lemmas.Option.{none-some, same_Some}
use Rattle.alf_ops.specs.declared.history.RunEvent.{RunEvent}
use Rattle.alf_ops.specs.declared.history.FrameShape.{FrameShape}
use Rattle.alf_check.specs.declared.rows.FrameRow.{FrameRow}
use Rattle.alf_check.specs.CheckedPrograms.{CheckedParts, NumberedStatement, seen}
use Rattle.alf_check.specs.Kept.{KeepsStatement}
use Rattle.alf_runs.specs.SizeLaws.{ValueHasSize}
use Rattle.domain_core.specs.declared.fault_set.FaultSet.{FaultSet}
use Rattle.memory_rules.specs.Memories.{Mem, MemCovers, MemSized}
use Rattle.memory_rules.specs.AbstractSets.{abstract_sets}
use Rattle.memory_model.specs.KeptMemories.{MemoryParts, memory_in, rows_of}
use Rattle.transfer_rules.specs.Remains.{Remains}
use Rattle.transfer_rules.specs.RemainsLaws.{LeftTold, Answers, IfLeft}
use Rattle.transfer_rules.specs.Doing.{after_statements}
use Rattle.transfer_rules.specs.DoingLaws.{Kept, statements_kept, statements_told}
use Rattle.transfer_rules.specs.Standing.{Stands}
use Rattle.step_statements.specs.Typed.{IsTypedStatement}
use Rattle.step_statements.specs.Found.{done}
use Rattle.left_cells.specs.Ends.{AreOfOne, IsAfter, StandsIn}

-- statements keep the rules
typed_of : (table : List FrameRow) (k : ℕ) (ss : List NumberedStatement) → All (KeepsStatement table k) ss
    → AllByRecursion IsTypedStatement ss
typed_of table k [] keep = tt
typed_of table k (s ∷ ss) keep = (
  record { table = table; function = k; keeps = All-head (KeepsStatement table k) s ss keep },
  typed_of table k ss (All-tail (KeepsStatement table k) s ss keep),
)

module _ (sizes : ValueHasSize) (checked : CheckedParts) (acts : List NumberedStatement) (entry : MemoryParts) (sized : MemSized abstract_sets (memory_in entry))
    (keep : AreOfOne (seen checked) acts) where
  abbrev rows : List FrameShape
  rows = rows_of checked

  abbrev m : Mem abstract_sets
  m = memory_in entry

  pub each_typed : AllByRecursion IsTypedStatement acts
  each_typed = typed_of (seen checked).frames keep.function acts keep.keep

  told : (later : List RunEvent) → IsAfter checked acts entry later
      → LeftTold ⊥ (λ n. Stands ⊥ rows n later) (after_statements rows acts m)
  told later is = subst (Answers ⊥ (Stands ⊥ rows) (after_statements rows acts m)) is.does
      (statements_told ⊥ rows (seen checked).frames keep.function sizes acts m is.before keep.keep (record { sound = is.sound; sized = sized; covers = is.covers; sharp = λ none. absurd none }))

  -- where runs go on
  pub left_stands : (parts : MemoryParts) (faults : FaultSet) → done (true, faults) (memory_in parts) ≡ after_statements rows acts m
      → (later : List RunEvent) → IsAfter checked acts entry later → StandsIn rows (Some parts) later
  left_stands parts faults is later after =
      let t = told later after in
      let same : memory_in parts ≡ t.value = same_Some (memory_in parts) t.value (ap (λ (r : Remains (Mem abstract_sets)). r.left) is ∙ t.is) in
      (t.holds.sound, subst (λ (n : Mem abstract_sets). MemCovers abstract_sets rows n later) (sym same) t.holds.covers)

  -- the same functions run
  pub left_runs : (parts : MemoryParts) (faults : FaultSet) → done (true, faults) (memory_in parts) ≡ after_statements rows acts m
      → (memory_in parts).runs ≡ m.runs
  left_runs parts faults is =
      (subst (λ (r : Remains (Mem abstract_sets)). IfLeft (Kept m) r) (sym is) (statements_kept (seen checked).frames rows keep.function acts m keep.keep sized)).runs

  -- and where none does
  pub none_left : (n : Mem abstract_sets) (faults : FaultSet) → done (false, faults) n ≡ after_statements rows acts m
      → (later : List RunEvent) → IsAfter checked acts entry later → StandsIn rows None later
  none_left n faults is later after =
      let t = told later after in absurd (none-some t.value (ap (λ (r : Remains (Mem abstract_sets)). r.left) is ∙ t.is))
