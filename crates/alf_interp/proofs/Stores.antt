-- Statements, stores and returns.
--   stored_does         a store does what is due
--   statements_typed    statements keep the rules, one by one
--   taken               what is returned to a call can be stored
use Rattle.std.proofs.Common.{◌≡◌, ℕ, List, [], ◌∷◌, Some, Result, Ok, Err, All, sym, subst}
use Rattle.std.specs.List.{AllByRecursion}
use Rattle.std.proofs.lemmas.List.Elements.{All-head, All-tail}
use Rattle.alf_ops.specs.declared.history.Value.{Value}
use Rattle.alf_ops.specs.declared.history.RunFault.{RunFault}
use Rattle.alf_ops.specs.declared.history.RunEvent.{RunEvent}
use Rattle.alf_ops.specs.Values.{FitsValue}
use Rattle.alf_ops.specs.Histories.{store}
use Rattle.alf_program.specs.Tree.{NumberedExpression}
use Rattle.alf_check.specs.declared.rows.FrameRow.{FrameRow}
use Rattle.alf_check.specs.CheckedPrograms.{NumberedProgram, NumberedStatement, Return}
use Rattle.alf_check.specs.Kept.{IsKept, HasSize, KeepsStatement}
use Rattle.alf_values.specs.declared.fault.ValueFault.{ValueFault}
use Rattle.alf_values.specs.declared.fault.ValueFault.TheVariants.{Run, Memory}
use Rattle.alf_values.specs.Memories.{RunMemory, shapes}
use Rattle.alf_values.specs.Standing.{Stored}
use Rattle.alf_values.specs.StandingLaws.{storable}
use Rattle.flow_graph.specs.Nodes.{ending_at}
use Rattle.alf_runs.specs.Statements.{after_store}
use Rattle.alf_interp.specs.Doing.{Does}
use Rattle.alf_interp.specs.Typed.{IsTypedStatement}
use Rattle.alf_interp.specs.Turns.{IsInstance, IsTaken}
use Rattle.alf_interp.proofs.Returning.{returned_cell}

store_does : (old new : RunMemory) (history : List RunEvent) (at value : Value) (result : Result Unit ValueFault)
    → Stored old new history at value result → Does new (store (shapes old) history at value) result
store_does old new history at value (Ok u) h = record { history = h.after; is = h.stored; stands = h.stands }
store_does old new history at value (Err (Run fault)) h = h
store_does old new history at value (Err Memory) h = tt

-- a store at an address and of a value that are evaluated does what is due
pub stored_does : (old new : RunMemory) (history : List RunEvent) (at value : Value) (to term : Result Value RunFault) (result : Result Unit ValueFault) → to ≡ Ok at → term ≡ Ok value
    → Stored old new history at value result → Does new (after_store (shapes old) history to term) result
stored_does old new history at value to term result e f h =
    subst (λ (r : Result Value RunFault). Does new (after_store (shapes old) history r term) result) (sym e)
    (subst (λ (r : Result Value RunFault). Does new (after_store (shapes old) history (Ok at) r) result) (sym f) (store_does old new history at value result h))

-- statements keep the rules, one by one
pub statements_typed : (rows : List FrameRow) (k : ℕ) (ss : List NumberedStatement) → All (KeepsStatement rows k) ss
    → AllByRecursion IsTypedStatement ss
statements_typed rows k [] keep = tt
statements_typed rows k (s ∷ ss) keep =
    (record { rows = rows; function = k; keeps = All-head (KeepsStatement rows k) s ss keep }, statements_typed rows k ss (All-tail (KeepsStatement rows k) s ss keep))

-- what is returned to a call can be stored
pub taken : (program : NumberedProgram) (path : List ℕ) (f b : ℕ) (e : NumberedExpression) (value : Value)
    → IsKept program → IsInstance program path f → ending_at program f b ≡ Some (Return (Some e))
    → ((rows : List FrameRow) (function size : ℕ) → HasSize rows function size e → FitsValue size value) → IsTaken path (Some value)
taken program [] f b e value kept here ends fits = tt
taken program (c ∷ path) f b e value kept here ends fits =
    let cell = returned_cell program c path b e kept here.calls (subst (λ (k : ℕ). ending_at program k b ≡ Some (Return (Some e))) here.func_is ends) in
    storable cell.size value cell.cell (fits program.frames _ cell.size cell.value_has)
