-- Expressions, statements and values that keep the rules of the checks in some function.
--   IsTyped e               the expression has a size
--   AreTyped sizes es       expressions in a row have these sizes
--   IsTypedStatement s      the statement keeps the rules
--   IsStorable v            the value has the size of a cell
use Rattle.std.specs.Prelude.{ℕ, List}
use Rattle.alf_program.specs.Tree.{NumberedExpression, NumberedExpressions}
use Rattle.alf_check.specs.declared.rows.FrameRow.{FrameRow}
use Rattle.alf_check.specs.CheckedPrograms.{NumberedStatement}
use Rattle.alf_check.specs.Kept.{HasSize, HaveSizes, KeepsStatement}
use Rattle.pointer_rules.specs.AbstractValues.{AbstractValue}
use Rattle.pointer_rules.specs.Covering.{IsValue}
use Rattle.memory_rules.specs.Covers.{IsCellSize}

-- the expression has a size
pub record IsTyped (e : NumberedExpression) : Type 0 where
  pub table : List FrameRow
  pub function : ℕ
  pub size : ℕ
  pub has : HasSize table function size e

-- expressions in a row have these sizes
pub record AreTyped (sizes : List ℕ) (es : NumberedExpressions) : Type 0 where
  pub table : List FrameRow
  pub function : ℕ
  pub have : HaveSizes table function sizes es

-- the statement keeps the rules
pub record IsTypedStatement (s : NumberedStatement) : Type 0 where
  pub table : List FrameRow
  pub function : ℕ
  pub keeps : KeepsStatement table function s

-- the value has the size of a cell
pub record IsStorable (v : AbstractValue) : Type 0 where
  pub size : ℕ
  pub cell : IsCellSize size
  pub is : IsValue size v
