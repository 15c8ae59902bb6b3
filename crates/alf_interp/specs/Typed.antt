-- Expressions and statements that keep the rules of the checks in some function.
--   IsTyped e               the expression has a size
--   AreTyped sizes es       expressions in a row have these sizes
--   IsTypedStatement s      the statement keeps the rules
use Rattle.std.specs.Prelude.{ℕ, List}
use Rattle.alf_program.specs.Tree.{NumberedExpression, NumberedExpressions}
use Rattle.alf_check.specs.declared.rows.FrameRow.{FrameRow}
use Rattle.alf_check.specs.CheckedPrograms.{NumberedStatement}
use Rattle.alf_check.specs.Kept.{HasSize, HaveSizes, KeepsStatement}

-- the expression has a size
pub record IsTyped (e : NumberedExpression) : Type 0 where
  pub rows : List FrameRow
  pub function : ℕ
  pub size : ℕ
  pub has : HasSize rows function size e

-- expressions in a row have these sizes
pub record AreTyped (sizes : List ℕ) (es : NumberedExpressions) : Type 0 where
  pub rows : List FrameRow
  pub function : ℕ
  pub have : HaveSizes rows function sizes es

-- the statement keeps the rules
pub record IsTypedStatement (s : NumberedStatement) : Type 0 where
  pub rows : List FrameRow
  pub function : ℕ
  pub keeps : KeepsStatement rows function s
