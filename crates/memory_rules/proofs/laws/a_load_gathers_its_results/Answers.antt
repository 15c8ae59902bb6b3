use Rattle.memory_rules.specs.AbstractSets.{abstract_sets}
use Rattle.memory_rules.specs.AbstractSetLaws.{abstract_is_sets}
use Rattle.memory_rules.proofs.MemoryProofLemmas.{load_gathers}
use Rattle.memory_rules.specs.MemoryProofLaws.{loads_gather}
use Rattle.memory_rules.proofs.laws.a_load_gathers_its_results.Goals as goal

pub returns-clause-cell : goal.returns-clause-cell
returns-clause-cell c = load_gathers abstract_sets abstract_is_sets

pub returns-clause-cells : goal.returns-clause-cells
returns-clause-cells c = loads_gather abstract_sets abstract_is_sets
