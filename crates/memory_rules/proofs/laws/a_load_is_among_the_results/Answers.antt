use Rattle.memory_rules.specs.AbstractSets.{abstract_sets}
use Rattle.memory_rules.specs.AbstractSetLaws.{abstract_is_sets}
use Rattle.memory_rules.specs.MemoryProofLaws.{load_covers, loads_cover}
use Rattle.memory_rules.proofs.laws.a_load_is_among_the_results.Goals as goal

pub returns-clause-cell : goal.returns-clause-cell
returns-clause-cell c = load_covers abstract_sets abstract_is_sets

pub returns-clause-cells : goal.returns-clause-cells
returns-clause-cells c = loads_cover abstract_sets abstract_is_sets
