-- What is left to show of `a_join_with_itself_changes_nothing`: facts of the specs.
use Rattle.memory_rules.specs.SelfStrideLaws.{stride_self}
use Rattle.memory_rules.specs.SelfValueLaws.{value_self}
use Rattle.memory_rules.proofs.join_laws.a_join_with_itself_changes_nothing.Goals as goal

pub returns-clause-words : goal.returns-clause-words
returns-clause-words c = stride_self

pub returns-clause-values : goal.returns-clause-values
returns-clause-values c = value_self
