-- Laws of statements.
--   all_typed      the statements of a block, and the expression of a return, keep the rules of the checks
--   row_at                      the row at a place that is there
--   argument_of, call_of        a value of the size of a frame may be its argument; such values are those of a call
use Rattle.std.specs.Prelude.{slice_get, get_or, All, ◌/◌, ◌^◌}
use Rattle.std.specs.List.{AllZip, AllByRecursion}
use Rattle.std.proofs.Common.{◌≡◌, ◌∙◌, ℕ, suc, zero, false, List, [], ◌∷◌, length, Some, refl, sym, ap, subst, arith, ◌<◌, ◌≤◌}
use Rattle.std.proofs.Math.Pow.{pow_mono}
use Rattle.std.proofs.lemmas.List.Elements.{All-head, All-tail}
use Rattle.alf_program.specs.Tree.{Number}
use Rattle.alf_check.specs.declared.rows.FrameRow.{FrameRow}
use Rattle.alf_check.specs.declared.rows.FuncRow.{FuncRow}
use Rattle.alf_check.specs.CheckedPrograms.{NumberedStatement, NumberedProgram}
use Rattle.alf_check.specs.Kept.{KeepsStatement}
use Rattle.alf_check.specs.Lookups.{IsFunction}
use Rattle.pointer_rules.specs.AbstractValues.{AbstractValue}
use Rattle.pointer_rules.specs.Covering.{IsValue}
use Rattle.memory_rules.specs.Covers.{IsCellSize}
use Rattle.transfer_rules.specs.EvaluatingLaws.{ArgumentIs}
use Rattle.step_statements.specs.Typed.{IsTypedStatement}
use Rattle.step_statements.specs.Arguments.{FitCall}

-- the statements of a block keep the rules
pub all_typed : (table : List FrameRow) (k : ℕ) (ss : List NumberedStatement) → All (KeepsStatement table k) ss
    → AllByRecursion IsTypedStatement ss
all_typed table k [] all = tt
all_typed table k (s ∷ ss) all =
    (record { table = table; function = k; keeps = All-head (KeepsStatement table k) s ss all }, all_typed table k ss (All-tail (KeepsStatement table k) s ss all))

-- the row at a place that is there
pub row_at : (rows : List FrameRow) (place : ℕ) (row : FrameRow) → place < length rows → row ≡ get_or rows place row
    → slice_get rows place ≡ Some row
row_at [] place row low is = absurd (omega arith)
row_at (first ∷ rows) zero row low is = ap (λ (r : FrameRow). Some r) (sym is)
row_at (first ∷ rows) (suc place) row low is = row_at rows place row (omega arith) is

-- a value of the size of a frame may be its argument
pub argument_of : (table : List FrameRow) (frame : ℕ) (row : FrameRow) (v : AbstractValue)
    → slice_get table frame ≡ Some row → IsCellSize row.bits → IsValue row.bits v → ArgumentIs table 0 frame v
argument_of table frame row v at cell is =
    let some : 8 ≤ row.bits = let bytes : 0 < row.bits / 8 = cell.0 in omega (arith, bytes) in
    record {
      arg = Number (record { size = row.bits; bits = 0; signed = false });
      keeps = record {
        row = row;
        at = at;
        cell = record { least = some; most = cell.2; bytes = cell.1 };
        value_has = record { same = refl; sized = record { some = omega (arith, some); most = cell.2 }; fits = first row.bits };
      };
      is = is;
    }
  where
    first : (n : ℕ) → 0 < 2 ^ n
    first n = pow_mono {i = 0} {j = n} (omega arith)

-- such values are those of a call
pub call_of : (program : NumberedProgram) (f : ℕ) (row : FuncRow) (args : List ℕ) (values : List AbstractValue)
    → IsFunction program f row → args ≡ row.args.items
    → AllZip (ArgumentIs program.frames 0) args values → FitCall program f values
call_of program f row args values is same are = record {
  caller = 0;
  function = is.function;
  at = is.at;
  are = subst (λ (a : List ℕ). AllZip (ArgumentIs program.frames 0) a values) (same ∙ is.args) are;
}
