-- Laws of rows.
use Rattle.std.proofs.Common.{suc, Bool, true, [], arith}
use Rattle.grammar.specs.Form.{At, left, in_a_row}
use Rattle.grammar.specs.Rule.{Rule}
use Rattle.grammar.specs.Rows.{RowSoFar}
use Rattle.grammar.specs.RowLaws.{with_nothing}

module _ {T R F A : Type 0} (goes_on : At T R → Bool) (p : Rule T R F true A) where
  pub row_starts : (start : At T R) → RowSoFar goes_on p [] start start
  row_starts start = record { turns = suc (left start); enough = omega arith; goes = with_nothing (in_a_row goes_on p.form (suc (left start)) start) }
