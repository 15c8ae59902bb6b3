-- Sizes of expressions in bits.
--   term_size term                the size of the expression, or None where it breaks a size rule
--   operands_fit op sizes i rest  the operands, of which the first is operand i of the operator, are as its row says
--   return_size value             the size of what a return gives: 0 where it has no expression
--   same_size a b                 there are both sizes, and they are the same
--   is_bytes size                 there is a size, and it is a multiple of 8
use Rattle.std.specs.Prelude.{ℕ, ◌+◌, ◌%◌, ◌==◌, Bool, false, ◌&&◌, List, Option, Some, None, is_none, if◌then◌else◌}
use Rattle.alf_ops.specs.declared.operator.Op.{Op}
use Rattle.alf_ops.specs.Table.{result_size, operand_size}
use Rattle.alf_program.specs.Tree.{NamedExpression, NamedExpressions, Number, Address, Load, Apply, Empty, With}
use Rattle.alf_faults.specs.Fault.{is_exactly}

-- there are both sizes, and they are the same
abbrev pub same_size : Option ℕ → Option ℕ → Bool
same_size None other = false
same_size (Some size) other = is_exactly size other

-- there is a size, and it is a multiple of 8
abbrev pub is_bytes : Option ℕ → Bool
is_bytes None = false
is_bytes (Some size) = (size % 8) == 0

abbrev mutual
  -- a number has its size and an address 32 bits; a load has its own, from an address of 32; an operator has that of
  -- its row, at operands that fit
  pub term_size : NamedExpression → Option ℕ
  term_size (Number n) = Some n.size
  term_size (Address frame offset) = Some 32
  term_size (Load size at) = if is_exactly 32 (term_size at) then Some size else None
  term_size (Apply op sizes operands) = if operands_fit op sizes 0 operands then result_size op sizes else None

  -- each operand has the size of its place in the operator's row, and none is missing
  pub operands_fit : Op → List ℕ → ℕ → NamedExpressions → Bool
  operands_fit op sizes i Empty = is_none (operand_size op sizes i)
  operands_fit op sizes i (With operand operands) = same_size (operand_size op sizes i) (term_size operand) && operands_fit op sizes (i + 1) operands

-- the size of what a return gives
abbrev pub return_size : Option NamedExpression → Option ℕ
return_size None = Some 0
return_size (Some value) = term_size value
