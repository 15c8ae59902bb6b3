use Rattle.memory_rules.specs.AbstractSets.{abstract_sets}
use Rattle.memory_rules.specs.AbstractSetLaws.{abstract_is_sets}
use Rattle.memory_rules.specs.MemoryProofLaws.{enter_covers, leave_covers}
use Rattle.memory_rules.proofs.laws.calls_keep_covering.Goals as goal

pub returns-clause-enter : goal.returns-clause-enter
returns-clause-enter c = enter_covers abstract_sets abstract_is_sets

pub returns-clause-leave : goal.returns-clause-leave
returns-clause-leave c = leave_covers abstract_sets abstract_is_sets
