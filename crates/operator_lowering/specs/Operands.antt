-- What an operator before an operand is lowered from.
--   operand_of op value place   where the operand lies, for `&`, and its value for others
use Rattle.alf_program.specs.Tree.{NamedExpression}
use Rattle.c_unit.specs.declared.expression.Unary.{Unary}
use Rattle.c_unit.specs.declared.expression.Unary.TheVariants as unary

abbrev pub operand_of : Unary → NamedExpression → NamedExpression → NamedExpression
operand_of unary.Not value place = value
operand_of unary.Complement value place = value
operand_of unary.Minus value place = value
operand_of unary.Plus value place = value
operand_of unary.Load value place = value
operand_of unary.Address value place = place
