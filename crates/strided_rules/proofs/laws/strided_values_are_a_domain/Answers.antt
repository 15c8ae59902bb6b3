use Rattle.strided_rules.specs.DomainLaws.{stride_is_order}
use Rattle.strided_rules.specs.StrideLaws.{stride_is_sets}
use Rattle.strided_rules.proofs.laws.strided_values_are_a_domain.Goals as goal

pub returns-clause-order : goal.returns-clause-order
returns-clause-order c = stride_is_order

pub returns-clause-sets : goal.returns-clause-sets
returns-clause-sets c = stride_is_sets
