use Rattle.pointer_rules.specs.ValueLaws.{value_is_order}
use Rattle.pointer_rules.specs.ApplyLaws.{joined_only, joined_value}
use Rattle.pointer_rules.proofs.laws.abstract_values_are_a_lattice.Goals as goal

pub returns-clause-order : goal.returns-clause-order
returns-clause-order c = value_is_order

pub returns-clause-sized : goal.returns-clause-sized
returns-clause-sized c = joined_value

pub returns-clause-only : goal.returns-clause-only
returns-clause-only c = joined_only
