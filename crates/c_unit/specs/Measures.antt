-- What is asked of expressions.
--   depth_of e   how many operators are nested in one another: operators of one and of two operands, casts and indexing, but no parentheses
--   first_of e   the number of the first token
use Rattle.std.specs.Prelude.{ℕ, suc, max}
use Rattle.c_unit.specs.Tree.{Expression, OfConstant, OfName, InParentheses, WithUnary, WithCast, AtIndex, WithBinary}

abbrev pub depth_of : Expression → ℕ
depth_of (OfConstant token) = 0
depth_of (OfName token) = 0
depth_of (InParentheses token inner) = depth_of inner
depth_of (WithUnary op token operand) = suc (depth_of operand)
depth_of (WithCast token kind operand) = suc (depth_of operand)
depth_of (AtIndex base token index) = suc (max (depth_of base) (depth_of index))
depth_of (WithBinary op token left right) = suc (max (depth_of left) (depth_of right))

abbrev pub first_of : Expression → ℕ
first_of (OfConstant token) = token
first_of (OfName token) = token
first_of (InParentheses token inner) = token
first_of (WithUnary op token operand) = token
first_of (WithCast token kind operand) = token
first_of (AtIndex base token index) = first_of base
first_of (WithBinary op token left right) = first_of left
