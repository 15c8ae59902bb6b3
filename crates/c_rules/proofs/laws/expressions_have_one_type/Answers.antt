-- What is left to show of `expressions_have_one_type`.
use Rattle.c_rules.specs.TypedLaws.{typed, is_type}
use Rattle.c_rules.proofs.laws.expressions_have_one_type.Goals as goal

pub returns-clause-some : goal.returns-clause-some
returns-clause-some c = typed

pub returns-clause-told : goal.returns-clause-told
returns-clause-told c = is_type
