-- What is left to show of `expressions_are_shallow`.
use Rattle.c_limits.proofs.DepthLaws.{whole_expr_deep, condition_deep}
use Rattle.c_limits.proofs.count_laws.expressions_are_shallow.Goals as goal

pub returns-clause-values : goal.returns-clause-values
returns-clause-values c = whole_expr_deep

pub returns-clause-conditions : goal.returns-clause-conditions
returns-clause-conditions c = condition_deep
